-- Steps of a trace that are taken one after another
use Rattle.std.proofs.Common.{◌≡◌, ℕ, ◌+◌, ◌≤◌, List, [], ◌∷◌, ◌++◌, length, drop, Option, refl, sym, ap, ◌∙◌, append_assoc, append-nil, length-append, arith}
use Rattle.std.specs.List.{AllByRecursion}
use Rattle.std.proofs.KnownBytes.{Consumes-nil, Consumes-trans}
use Rattle.rambo_names.specs.Weights.{Weights}
use Rattle.rambo_atomic.specs.Unreads.{TakesIn}
use Rattle.rambo_node.specs.Steps.{Step}
use Rattle.rambo_lines.specs.Scripts.{HasLine, steps_text}
use Rattle.rambo_lines.specs.StepLines.{step_line}
use Rattle.rambo_lines.proofs.LineByLine.{steps_text-append}
use Rattle.rambo_retrace.specs.Retraces.{Retraces, TakesFirst, retraced}
use Rattle.rambo_retrace.proofs.WholeLines.{behind_used}

-- what was read stands behind what was used
pub takes_more : (first left next : Option (List ℕ)) (before used held longer : List ℕ) → TakesIn first left before (used ++ held) → TakesIn left next held longer → TakesIn first next before (used ++ longer)
takes_more first left next before used held longer was more = (
  was.0 ++ more.0,
  Consumes-trans first left next was.0 more.0 was.1 more.1,
  ap (λ h. used ++ h) more.2 ∙ sym (append_assoc used held more.0) ∙ ap (λ t. t ++ more.0) was.2 ∙ append_assoc before was.0 more.0,
)

-- nothing was read
abbrev pub retraces_none : (old : List (Step Weights)) (left : Option (List ℕ)) (held : List ℕ) → Retraces old old left left held held
retraces_none old left held = record { steps = []; lines = tt; taken = sym (append-nil old); read = ([], Consumes-nil left, sym (append-nil held)) }

-- more was read
abbrev pub retraces_more : (old new : List (Step Weights)) (first left next : Option (List ℕ)) (before held longer : List ℕ) → Retraces old new first left before held → TakesIn left next held longer
    → Retraces old new first next before longer
retraces_more old new first left next before held longer on more =
    record { steps = on.steps; lines = on.lines; taken = on.taken; read = takes_more first left next before (steps_text on.steps) held longer on.read more }

-- each is the step of a line
pub all_lines : (xs : List (Step Weights)) (x : Step Weights) → AllByRecursion HasLine xs → HasLine x → AllByRecursion HasLine (xs ++ x ∷ [])
all_lines [] x all own = (own, tt)
all_lines (y ∷ xs) x all own = (all.0, all_lines xs x all.1 own)

-- the line of one step more
pub next_text : (steps : List (Step Weights)) (st : Step Weights) (held rest : List ℕ) → held ≡ step_line st ++ 10 ∷ rest → steps_text (steps ++ st ∷ []) ++ rest ≡ steps_text steps ++ held
next_text steps st held rest is =
    ap (λ t. t ++ rest) (steps_text-append steps (st ∷ []))
    ∙ append_assoc (steps_text steps) (step_line st ++ 10 ∷ []) rest
    ∙ ap (λ t. steps_text steps ++ t) (append_assoc (step_line st) (10 ∷ []) rest ∙ sym is)

-- the step of one line more was taken
abbrev pub retraces_next : (old new newer : List (Step Weights)) (first left : Option (List ℕ)) (before held rest : List ℕ) (used : ℕ) → Retraces old new first left before held → TakesFirst held used new newer
    → rest ≡ drop used held → Retraces old newer first left before rest
retraces_next old new newer first left before held rest used on takes is =
    let behind : rest ≡ takes.rest = is ∙ behind_used held (step_line takes.step) takes.rest used takes.is_first takes.used_is in
    record {
      steps = on.steps ++ takes.step ∷ [];
      lines = all_lines on.steps takes.step on.lines takes.has_line;
      taken = takes.taken ∙ ap (λ s. s ++ takes.step ∷ []) on.taken ∙ append_assoc old on.steps (takes.step ∷ []);
      read = (
        on.read.0,
        on.read.1,
        next_text on.steps takes.step held rest (takes.is_first.whole ∙ ap (λ r. step_line takes.step ++ 10 ∷ r) (sym behind)) ∙ on.read.2,
      );
    }

-- and both are counted
pub record Counts (old new : List (Step Weights)) (first left : Option (List ℕ)) (before held : List ℕ) (steps bytes : ℕ) : Type 0 where
  pub on : Retraces old new first left before held
  pub steps_are : steps ≡ length on.steps
  pub bytes_are : bytes ≡ length (steps_text on.steps)

pub counts_none : (old : List (Step Weights)) (left : Option (List ℕ)) (held : List ℕ) → Counts old old left left held held 0 0
counts_none old left held = record { on = retraces_none old left held; steps_are = refl; bytes_are = refl }

pub counts_more : (old new : List (Step Weights)) (first left next : Option (List ℕ)) (before held longer : List ℕ) (steps bytes : ℕ) → Counts old new first left before held steps bytes → TakesIn left next held longer
    → Counts old new first next before longer steps bytes
counts_more old new first left next before held longer steps bytes c more =
    record { on = retraces_more old new first left next before held longer c.on more; steps_are = c.steps_are; bytes_are = c.bytes_are }

pub counts_next : (old new newer : List (Step Weights)) (first left : Option (List ℕ)) (before held rest : List ℕ) (used steps bytes more longer : ℕ) → Counts old new first left before held steps bytes
    → TakesFirst held used new newer → rest ≡ drop used held → more ≡ steps + 1 → longer ≡ bytes + used → Counts old newer first left before rest more longer
counts_next old new newer first left before held rest used steps bytes more longer c takes is one all =
    let st = takes.step in
    let text : length (steps_text (c.on.steps ++ st ∷ [])) ≡ length (steps_text c.on.steps) + length (step_line st ++ 10 ∷ []) =
    ap length (steps_text-append c.on.steps (st ∷ [])) ∙ length-append (steps_text c.on.steps) (step_line st ++ 10 ∷ []) in
    record {
      on = retraces_next old new newer first left before held rest used c.on takes is;
      steps_are = omega (arith, one, c.steps_are, length-append c.on.steps (st ∷ []));
      bytes_are = omega (arith, all, c.bytes_are, takes.used_is, text, length-append (step_line st) (10 ∷ []));
    }

-- there are no more steps than bytes
few_steps : (steps : List (Step Weights)) → length steps ≤ length (steps_text steps)
few_steps [] = omega arith
few_steps (st ∷ steps) = omega (arith, few_steps steps, length-append (step_line st) (10 ∷ steps_text steps))

pub few : (old new : List (Step Weights)) (first left : Option (List ℕ)) (before held : List ℕ) (steps bytes : ℕ) → Counts old new first left before held steps bytes → steps ≤ bytes
few old new first left before held steps bytes c = omega (arith, few_steps c.on.steps, c.steps_are, c.bytes_are)

-- what is told at the end
pub told : (old new : List (Step Weights)) (first left : Option (List ℕ)) (before held : List ℕ) (steps bytes torn : ℕ) (c : Counts old new first left before held steps bytes) → torn ≡ length held
    → record { steps = steps; bytes = bytes; torn = torn } ≡ retraced c.on.steps held
told old new first left before held steps bytes torn c is = λ i. record { steps = c.steps_are i; bytes = c.bytes_are i; torn = is i }
