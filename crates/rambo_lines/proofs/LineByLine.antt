-- Reading a text line by line
use Rattle.std.proofs.Common.{◌≡◌, ◌≢◌, ◌⊎◌, ℕ, ◌+◌, List, [], ◌∷◌, ◌++◌, length, inl, inr, refl, sym, ap, subst, ◌∙◌, arith, append_assoc, append-nil}
use Rattle.std.specs.List.{AllByRecursion}
use Rattle.rambo_names.specs.Weights.{Weights}
use Rattle.rambo_node.specs.Steps.{Step}
use Rattle.rambo_text.specs.Words.{IsFirstLine}
use Rattle.rambo_text.specs.declared.version.Version.{Version}
use Rattle.rambo_text.specs.Versions.{in_whole}
use Rattle.rambo_lines.specs.declared.place.Place.{Place}
use Rattle.rambo_lines.specs.Places.{place_of}
use Rattle.rambo_lines.proofs.Placing.{fault_there}
use Rattle.rambo_lines.specs.StepLines.{step_line}
use Rattle.rambo_lines.specs.Scripts.{ScriptState, HasLine, HasLines, AreFounders, IsScript, founders_line, steps_text, script_text}
use Rattle.rambo_lines.specs.Faults.{IsNextLine, IsLineFault, TellNoFounders, TellNoStep, IsScriptFault, RanOut}
use Rattle.rambo_text.specs.declared.fault.Fault.TheVariants.{OutOfMemory}
use Rattle.rambo_text.specs.declared.fault.ScriptFault.{ScriptFault}
use Rattle.rambo_lines.specs.Pushes.{PushesStep}

abbrev pub script : Weights → List (Step Weights) → ScriptState
script founders steps = record { founders = founders; steps = steps }

-- the lines up to a rest are those of founders and steps
pub record Reads (bytes : List ℕ) (founders : Weights) (steps : List (Step Weights)) (rest : List ℕ) : Type 0 where
  pub lines : HasLines (script founders steps)
  pub whole : (bytes ≡ script_text (script founders steps) ++ rest) ⊎ ((bytes ++ 10 ∷ [] ≡ script_text (script founders steps)) × (rest ≡ []))

pub steps_text-append : (xs ys : List (Step Weights)) → steps_text (xs ++ ys) ≡ steps_text xs ++ steps_text ys
steps_text-append [] ys = refl
steps_text-append (x ∷ xs) ys =
    ap (λ t. step_line x ++ 10 ∷ t) (steps_text-append xs ys) ∙ sym (append_assoc (step_line x) (10 ∷ steps_text xs) (steps_text ys))

all-append : (xs : List (Step Weights)) (y : Step Weights) → AllByRecursion HasLine xs → HasLine y → AllByRecursion HasLine (xs ++ y ∷ [])
all-append [] y all one = (one, tt)
all-append (x ∷ xs) y all one = (all.0, all-append xs y all.1 one)

-- the first line was read
pub reads-first : (bytes line rest : List ℕ) (founders : Weights) → IsFirstLine bytes line rest → AreFounders founders → line ≡ founders_line founders
    → Reads bytes founders [] rest
reads-first bytes line rest founders first are is =
    record {
      lines = record { founders = are; steps = tt };
      whole = elim first.whole [
        | inl more ↦ inl (more ∙ ap (λ l. l ++ 10 ∷ rest) is ∙ sym (append_assoc (founders_line founders) (10 ∷ []) rest))
        | inr last ↦ inr (ap (λ l. l ++ 10 ∷ []) (last.0 ∙ is), last.1)
      ];
    }

-- one line more was read
pub reads-next : (bytes rest line more : List ℕ) (founders : Weights) (steps others : List (Step Weights)) → Reads bytes founders steps rest → rest ≢ [] → IsFirstLine rest line more
    → PushesStep steps others line → Reads bytes founders others more
reads-next bytes rest line more founders steps others now some first push =
    let is_step = push.has_line in
    let text : steps_text others ≡ steps_text steps ++ line ++ 10 ∷ [] =
    ap steps_text push.new_is ∙ steps_text-append steps (push.step ∷ []) ∙ ap (λ l. steps_text steps ++ (l ++ 10 ∷ [])) (sym push.line_is)
    ∙ sym (append_assoc (steps_text steps) line (10 ∷ [])) in
    let head = founders_line founders in
    let whole : script_text (script founders others) ≡ script_text (script founders steps) ++ line ++ 10 ∷ [] =
    ap (λ t. head ++ 10 ∷ t) (text ∙ append_assoc (steps_text steps) line (10 ∷ []))
    ∙ sym (append_assoc head (10 ∷ steps_text steps) (line ++ 10 ∷ []))
    ∙ sym (append_assoc (script_text (script founders steps)) line (10 ∷ [])) in
    record {
      lines = record { founders = now.lines.founders; steps = subst (AllByRecursion HasLine) (sym push.new_is) (all-append steps push.step now.lines.steps is_step) };
      whole = elim now.whole [
        | inr last ↦ absurd (some last.1)
        | inl is ↦ elim first.whole [
          | inl feed ↦ inl (is ∙ ap (λ r. script_text (script founders steps) ++ r) feed
              ∙ sym (append_assoc (script_text (script founders steps)) line (10 ∷ more))
              ∙ sym (append_assoc (script_text (script founders steps) ++ line) (10 ∷ []) more)
              ∙ ap (λ t. t ++ more) (sym whole))
          | inr none ↦ inr (ap (λ b. b ++ 10 ∷ []) (is ∙ ap (λ r. script_text (script founders steps) ++ r) none.0) ∙ sym whole, none.1)
        ]
      ];
    }

pub nothing : (xs : List ℕ) → length xs ≡ 0 → xs ≡ []
nothing [] none = refl
nothing (x ∷ xs) none = absurd (omega arith)

-- all was read
pub reads-all : (bytes rest : List ℕ) (founders : Weights) (steps : List (Step Weights)) → Reads bytes founders steps rest → rest ≡ [] → IsScript bytes (script founders steps)
reads-all bytes rest founders steps now none =
    record {
      lines = now.lines;
      whole = elim now.whole [
        | inl is ↦ inl (is ∙ ap (λ r. script_text (script founders steps) ++ r) none ∙ append-nil (script_text (script founders steps)))
        | inr last ↦ inr last.0
      ];
    }

-- the line that is read
pub reads-line : (bytes rest line more : List ℕ) (founders : Weights) (steps : List (Step Weights)) (number : ℕ) → Reads bytes founders steps rest → rest ≢ [] → IsFirstLine rest line more
    → number ≡ length steps + 2 → IsNextLine bytes line number
reads-line bytes rest line more founders steps number now some first is =
    record {
      before = script founders steps;
      behind = rest;
      rest = more;
      lines = now.lines;
      some = some;
      is_first = first;
      number_is = is;
      whole = elim now.whole [
        | inl whole ↦ whole
        | inr last ↦ absurd (some last.1)
      ];
    }

-- the first line has a fault
pub first-fault : (NeedsRoom : List ℕ → Type 0) (bytes line rest : List ℕ) (f : ScriptFault) → IsFirstLine bytes line rest → f.line ≡ 1 → IsLineFault TellNoFounders line f.fault
    → IsScriptFault bytes f ⊎ RanOut NeedsRoom bytes f
first-fault NeedsRoom bytes line rest f first number fault = inl (inl (record { line = line; rest = rest; is_first = first; fault = fault; number = number }))

-- the line has a fault, or no room
pub reads-fault : (NeedsRoom : List ℕ → Type 0) (bytes rest line more : List ℕ) (founders : Weights) (steps : List (Step Weights)) (f : ScriptFault) → Reads bytes founders steps rest → rest ≢ [] → IsFirstLine rest line more
    → f.line ≡ length steps + 2 → ((f.fault ≡ OutOfMemory) × NeedsRoom line) ⊎ IsLineFault TellNoStep line f.fault → IsScriptFault bytes f ⊎ RanOut NeedsRoom bytes f
reads-fault NeedsRoom bytes rest line more founders steps f now some first is (inl spent) =
    inr (record { line = line; is_next = reads-line bytes rest line more founders steps f.line now some first is; needs = spent.1; fault = spent.0 })
reads-fault NeedsRoom bytes rest line more founders steps f now some first is (inr fault) =
    inl (inr (record { line = line; is_next = reads-line bytes rest line more founders steps f.line now some first is; fault = fault }))

-- the same of the whole text, by its lines there
pub first_in_whole : (NeedsRoom : List ℕ → Type 0) (version : Version) (bytes line rest : List ℕ) (place : Place) (f : ScriptFault) → IsFirstLine bytes line rest → place ≡ place_of version 0
    → f.line ≡ place.line → IsLineFault TellNoFounders line f.fault → (g : ScriptFault) × (IsScriptFault bytes g ⊎ RanOut NeedsRoom bytes g) × (f ≡ in_whole version g)
first_in_whole NeedsRoom version bytes line rest place f first at is fault =
    let there : ScriptFault = record { fault = f.fault; line = 1 } in
    (there, first-fault NeedsRoom bytes line rest there first refl fault, fault_there version 0 place f at is)

pub later_in_whole : (NeedsRoom : List ℕ → Type 0) (version : Version) (bytes rest line more : List ℕ) (founders : Weights) (steps : List (Step Weights)) (place : Place) (f : ScriptFault) → Reads bytes founders steps rest → rest ≢ []
    → IsFirstLine rest line more → place ≡ place_of version (length steps + 1) → f.line ≡ place.line → ((f.fault ≡ OutOfMemory) × NeedsRoom line) ⊎ IsLineFault TellNoStep line f.fault
    → (g : ScriptFault) × (IsScriptFault bytes g ⊎ RanOut NeedsRoom bytes g) × (f ≡ in_whole version g)
later_in_whole NeedsRoom version bytes rest line more founders steps place f now some first at is fault =
    let there : ScriptFault = record { fault = f.fault; line = length steps + 1 + 1 } in
    (there, reads-fault NeedsRoom bytes rest line more founders steps there now some first (omega arith) fault, fault_there version (length steps + 1) place f at is)
