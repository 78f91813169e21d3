-- A script that is read piece by piece
use Rattle.std.proofs.Common.{◌≡◌, ◌≢◌, ◌⊎◌, ℕ, ◌+◌, Bool, true, false, List, [], ◌∷◌, ◌++◌, length, Option, None, Some, unwrap_or, inl, inr, refl, sym, ap, subst, ◌∙◌, append_assoc, append-nil}
use Rattle.std.specs.Bool.{MatchBool}
use Rattle.std.proofs.lemmas.Bool.{cases_eq}
use Rattle.std.specs.Io.KnownBytes.{Consumes, IsAtEnd}
use Rattle.std.proofs.KnownBytes.{Consumes-nil, Consumes-trans}
use Rattle.rambo_names.specs.Weights.{Weights}
use Rattle.rambo_atomic.specs.Unreads.{UnreadState, KnowsEnd, TakesIn, HasFeed, HoldsLine, IsDone}
use Rattle.rambo_node.specs.Steps.{Step}
use Rattle.rambo_run.specs.Ongoing.{RunningOf}
use Rattle.rambo_text.specs.declared.fault.ReplayFault.{ReplayFault}
use Rattle.rambo_text.specs.declared.version.Version.{Version}
use Rattle.rambo_text.specs.declared.version.Version.TheVariants.{One, Two}
use Rattle.rambo_text.specs.Versions.{head_line, IsBehindHead, IsFirstOf}
use Rattle.rambo_text.specs.Words.{Lacks, IsFirstLine}
use Rattle.rambo_text.proofs.Heads.{same_lines}
use Rattle.rambo_check.specs.Checks.{IsLeft}
use Rattle.rambo_lines.specs.declared.place.Place.{Place}
use Rattle.rambo_lines.specs.Places.{place_of}
use Rattle.rambo_lines.specs.StepLines.{step_line}
use Rattle.rambo_lines.specs.Scripts.{founders_line, steps_text, script_text}
use Rattle.rambo_lines.proofs.LineByLine.{Reads, script, steps_text-append}
use Rattle.rambo_outcome.specs.Notes.{NoteState, ToldState, told_text}
use Rattle.rambo_steps.specs.Runs.{IsFounded, TakesFirst, Tells, IsFirstFaultAt, IsReplayBehind, GivesUpBehind, IsOfWhole, FoundsNone}
use Rattle.rambo_steps.proofs.RunAlong.{Runs, runs_first, runs_next, runs_all, later_fault}

-- what the source has left, where that is known
abbrev pub later : Option (List ℕ) → List ℕ
later left = unwrap_or left []

all_left : (first left : Option (List ℕ)) (bytes : List ℕ) → Consumes first left bytes → IsLeft first (bytes ++ later left)
all_left None left bytes c = tt
all_left (Some xs) None bytes c = absurd c
all_left (Some xs) (Some ys) bytes c = sym c

pub none_later : (left : Option (List ℕ)) → IsAtEnd left → later left ≡ []
none_later None e = refl
none_later (Some xs) e = e

pub given_more : (first left : Option (List ℕ)) (given more : List ℕ) → Consumes first left given → IsLeft left more → IsLeft first (given ++ more)
given_more None left given more c is = tt
given_more (Some xs) None given more c is = absurd c
given_more (Some xs) (Some ys) given more c is = ap (λ m. given ++ m) is ∙ sym c

no_more : (xs ys : List ℕ) → xs ≡ xs ++ ys → ys ≡ []
no_more [] ys e = sym e
no_more (x ∷ xs) ys e = no_more xs ys (cc)

-- more was read: what is so of the whole text from then on was so before
pub whole_before : (P : List ℕ → Type 0) (u v : UnreadState) (left new : Option (List ℕ)) → TakesIn left new u.held v.held → (u.ended ≡ true → v ≡ u)
    → IsOfWhole P v new → IsOfWhole P u left
whole_before P u v left new taken same whole =
    let given = taken.0 in
    let more = whole.0 in (
      given ++ more,
      (
        given_more left new given more taken.1 whole.1.0,
        λ e.
            let kept : v ≡ u = same e in
            let none : given ≡ [] = no_more u.held given (ap (λ (w : UnreadState). w.held) (sym kept) ∙ taken.2) in
            (λ i. none i ++ whole.1.1 (ap (λ (w : UnreadState). w.ended) kept ∙ e) i),
      ),
      subst P (ap (λ h. h ++ more) taken.2 ∙ append_assoc u.held given more) whole.2,
    )

-- a text with a line feed isn't one line without
lacks_no_feed : (front back : List ℕ) → Lacks 10 (front ++ 10 ∷ back) → ⊥
lacks_no_feed [] back lacks = lacks.0 refl
lacks_no_feed (b ∷ front) back lacks = lacks_no_feed front back lacks.1

-- a line that is held whole is the first, whatever comes behind
pub line_more : (held line rest more : List ℕ) → HasFeed held ⊎ (more ≡ []) → IsFirstLine held line rest → IsFirstLine (held ++ more) line (rest ++ more)
line_more held line rest more ready first = record {
  no_feed = first.no_feed;
  whole = elim first.whole [
    | inl e ↦ inl (ap (λ h. h ++ more) e ∙ append_assoc line (10 ∷ rest) more)
    | inr e ↦ elim ready [
      | inl feed ↦ absurd (lacks_no_feed feed.0 feed.1 (subst (Lacks 10) (sym e.0 ∙ feed.2) first.no_feed))
      | inr none ↦ inr ((λ i. e.0 i ++ none i) ∙ append-nil line, (λ i. e.1 i ++ none i))
    ]
  ];
}

-- the head of a text is that of what is held of it
pub head_more : (version : Version) (held behind more : List ℕ) → HasFeed held ⊎ (more ≡ []) → (line : List ℕ) (rest : List ℕ) → IsFirstLine held line rest
    → IsBehindHead version held behind → IsBehindHead version (held ++ more) (behind ++ more)
head_more One held behind more ready line rest first head = (
  λ other others there.
      let same = (same_lines (held ++ more) line (rest ++ more) other others (line_more held line rest more ready first) there).0 in
      subst (IsFirstOf One) same (head.0 line rest first),
  ap (λ h. h ++ more) head.1,
)
head_more Two held behind more ready line rest first head = line_more held head_line behind more ready head

-- what is held may be the whole
pub ready_with : (u : UnreadState) (more : List ℕ) → HasFeed u.held ⊎ (u.ended ≡ true) → (u.ended ≡ true → more ≡ []) → HasFeed u.held ⊎ (more ≡ [])
ready_with u more (inl feed) none = inl feed
ready_with u more (inr e) none = inr (none e)

-- of a script in pieces, whose first line was held at the start, some lines were read and their steps taken
pub record RunsOn (version : Version) (start : UnreadState) (first left : Option (List ℕ)) (r : RunningOf Weights) (u : UnreadState) (place : Place) (notes : List NoteState) : Type 0 where
  pub bytes : List ℕ
  pub runs : Runs version bytes r place notes u.held
  pub fed : (bytes ≡ script_text (script r.founders runs.steps) ++ u.held) ⊎ (u.ended ≡ true)
  pub taken : TakesIn first left start.held bytes
  pub ended : start.ended ≡ true → (u.ended ≡ true) × (taken.0 ≡ [])

-- a line that is held whole and has no line feed is the last
is_last : (u : UnreadState) (line rest : List ℕ) → HasFeed u.held ⊎ (u.ended ≡ true) → Lacks 10 line → u.held ≡ line → u.ended ≡ true
is_last u line rest (inl feed) lacks e = absurd (lacks_no_feed feed.0 feed.1 (subst (Lacks 10) (sym e ∙ feed.2) lacks))
is_last u line rest (inr ended) lacks e = ended

-- the first line was read
pub runs_on_first : (version : Version) (start u : UnreadState) (left : Option (List ℕ)) (line : List ℕ) (r : RunningOf Weights) (place : Place) (notes : List NoteState)
    → HasFeed start.held ⊎ (start.ended ≡ true) → IsFirstLine start.held line u.held → u.ended ≡ start.ended → IsFounded start.held r → notes ≡ [] → place ≡ place_of version 0
    → RunsOn version start left left r u place notes
runs_on_first version start u left line r place notes ready first same founded none at =
    let is = (same_lines start.held line u.held founded.0.line founded.0.rest first founded.0.is_first).0 ∙ founded.0.line_is in
    record {
      bytes = start.held;
      runs = runs_first version start.held line u.held r place notes first founded none at;
      fed = elim first.whole [
        | inl feed ↦ inl (feed ∙ ap (λ l. l ++ 10 ∷ u.held) is ∙ sym (append_assoc (founders_line r.founders) (10 ∷ []) u.held))
        | inr last ↦ inr (same ∙ is_last start line u.held ready first.no_feed last.0)
      ];
      taken = ([], Consumes-nil left, sym (append-nil start.held));
      ended = λ e. (same ∙ e, refl);
    }

-- the same of more bytes
reads_more : (bytes : List ℕ) (founders : Weights) (steps : List (Step Weights)) (rest more behind : List ℕ) → behind ≡ rest ++ more → Reads bytes founders steps rest
    → (bytes ≡ script_text (script founders steps) ++ rest) ⊎ (more ≡ []) → Reads (bytes ++ more) founders steps behind
reads_more bytes founders steps rest more behind are reads fed =
    let text = script_text (script founders steps) in
    record {
      lines = reads.lines;
      whole = elim fed [
        | inl is ↦ inl (ap (λ b. b ++ more) is ∙ append_assoc text rest more ∙ ap (λ h. text ++ h) (sym are))
        | inr none ↦
            let bytes_are : bytes ++ more ≡ bytes = ap (λ m. bytes ++ m) none ∙ append-nil bytes in
            let rest_is : behind ≡ rest = are ∙ ap (λ m. rest ++ m) none ∙ append-nil rest in
            elim reads.whole [
              | inl is ↦ inl (bytes_are ∙ is ∙ ap (λ t. text ++ t) (sym rest_is))
              | inr last ↦ inr (ap (λ b. b ++ 10 ∷ []) bytes_are ∙ last.0, rest_is ∙ last.1)
            ]
      ];
    }

abbrev runs_more : (version : Version) (bytes : List ℕ) (r : RunningOf Weights) (place : Place) (notes : List NoteState) (rest more behind : List ℕ) → behind ≡ rest ++ more → (now : Runs version bytes r place notes rest)
    → (bytes ≡ script_text (script r.founders now.steps) ++ rest) ⊎ (more ≡ []) → Runs version (bytes ++ more) r place notes behind
runs_more version bytes r place notes rest more behind are now fed = record {
  steps = now.steps;
  reads = reads_more bytes r.founders now.steps rest more behind are now.reads fed;
  ran = now.ran;
  told = now.told;
  within = now.within;
  at = now.at;
}

fed_or_none : (A : Type 0) (u : UnreadState) (more : List ℕ) → A ⊎ (u.ended ≡ true) → (u.ended ≡ true → more ≡ []) → A ⊎ (more ≡ [])
fed_or_none A u more (inl is) none = inl is
fed_or_none A u more (inr e) none = inr (none e)

fed_more : (text bytes more : List ℕ) (u v : UnreadState) → v.held ≡ u.held ++ more → (u.ended ≡ true → v.ended ≡ true) → (bytes ≡ text ++ u.held) ⊎ (u.ended ≡ true)
    → (bytes ++ more ≡ text ++ v.held) ⊎ (v.ended ≡ true)
fed_more text bytes more u v are kept (inl is) = inl (ap (λ b. b ++ more) is ∙ append_assoc text u.held more ∙ ap (λ h. text ++ h) (sym are))
fed_more text bytes more u v are kept (inr e) = inr (kept e)

pub runs_on_more : (version : Version) (start : UnreadState) (first left new : Option (List ℕ)) (r : RunningOf Weights) (u v : UnreadState) (place : Place) (notes : List NoteState)
    → RunsOn version start first left r u place notes → TakesIn left new u.held v.held → (u.ended ≡ true → v ≡ u) → RunsOn version start first new r v place notes
runs_on_more version start first left new r u v place notes now taken same =
    let given = now.taken.0 in
    let more = taken.0 in
    let none : u.ended ≡ true → more ≡ [] = λ e. no_more u.held more (ap (λ (w : UnreadState). w.held) (sym (same e)) ∙ taken.2) in
    let kept : u.ended ≡ true → v.ended ≡ true = λ e. ap (λ (w : UnreadState). w.ended) (same e) ∙ e in
    record {
      bytes = now.bytes ++ more;
      runs = runs_more version now.bytes r place notes u.held more v.held taken.2 now.runs (fed_or_none _ u more now.fed none);
      fed = fed_more (script_text (script r.founders now.runs.steps)) now.bytes more u v taken.2 kept now.fed;
      taken = (given ++ more, Consumes-trans first left new given more now.taken.1 taken.1, ap (λ b. b ++ more) now.taken.2 ∙ append_assoc start.held given more);
      ended = λ e. let before = now.ended e in (kept before.0, (λ i. before.1 i ++ none before.0 i));
    }

-- the line of one step more
script_next : (founders : Weights) (steps : List (Step Weights)) (st : Step Weights) (line rest : List ℕ) → line ≡ step_line st
    → script_text (script founders steps) ++ (line ++ 10 ∷ rest) ≡ script_text (script founders (steps ++ st ∷ [])) ++ rest
script_next founders steps st line rest is =
    let head = founders_line founders in
    let front = steps_text steps in
    let own = step_line st in
    ap (λ l. script_text (script founders steps) ++ (l ++ 10 ∷ rest)) is
    ∙ append_assoc head (10 ∷ front) (own ++ 10 ∷ rest)
    ∙ ap (λ t. head ++ 10 ∷ (front ++ t)) (sym (append_assoc own (10 ∷ []) rest))
    ∙ ap (λ t. head ++ 10 ∷ t) (sym (append_assoc front (own ++ 10 ∷ []) rest))
    ∙ sym (append_assoc head (10 ∷ (front ++ (own ++ 10 ∷ []))) rest)
    ∙ ap (λ t. (head ++ 10 ∷ t) ++ rest) (sym (steps_text-append steps (st ∷ [])))

fed_next : (founders own : Weights) (steps : List (Step Weights)) (st : Step Weights) (bytes line : List ℕ) (u v : UnreadState) → own ≡ founders → line ≡ step_line st → HoldsLine u → v.ended ≡ u.ended
    → IsFirstLine u.held line v.held → (bytes ≡ script_text (script founders steps) ++ u.held) ⊎ (u.ended ≡ true)
    → (bytes ≡ script_text (script own (steps ++ st ∷ [])) ++ v.held) ⊎ (v.ended ≡ true)
fed_next founders own steps st bytes line u v mine spelt holds same first (inr e) = inr (same ∙ e)
fed_next founders own steps st bytes line u v mine spelt holds same first (inl is) =
    elim first.whole [
      | inl feed ↦ inl (is ∙ ap (λ h. script_text (script founders steps) ++ h) feed ∙ script_next founders steps st line v.held spelt
          ∙ ap (λ f. script_text (script f (steps ++ st ∷ [])) ++ v.held) (sym mine))
      | inr last ↦ inr (same ∙ is_last u line v.held holds.1 first.no_feed last.0)
    ]

-- the step of one line more was taken
pub runs_on_next : (version : Version) (start : UnreadState) (first left : Option (List ℕ)) (r new : RunningOf Weights) (u v : UnreadState) (place next : Place) (notes longer : List NoteState)
    → RunsOn version start first left r u place notes → HoldsLine u → next ≡ record { line = place.line + 1; step = place.step + 1 } → TakesFirst u.held next.step r new notes longer v.held
    → v.ended ≡ u.ended → RunsOn version start first left new v next longer
runs_on_next version start first left r new u v place next notes longer now holds is taken same = record {
  bytes = now.bytes;
  runs = runs_next version now.bytes u.held taken.line v.held r new place next notes longer now.runs holds.0 taken.is_first is taken.takes;
  fed = fed_next r.founders new.founders now.runs.steps taken.takes.step now.bytes taken.line u v (ap (λ (w : RunningOf Weights). w.founders) taken.takes.takes.taken) taken.takes.line_is holds same taken.is_first now.fed;
  taken = now.taken;
  ended = λ e. let before = now.ended e in (same ∙ before.0, before.1);
}

-- what is so of all that was read and of what is left is so of the whole text
all_of : (P : List ℕ → Type 0) (version : Version) (start : UnreadState) (first left : Option (List ℕ)) (r : RunningOf Weights) (u : UnreadState) (place : Place) (notes : List NoteState)
    → (now : RunsOn version start first left r u place notes) → KnowsEnd u left → P (now.bytes ++ later left) → IsOfWhole P start first
all_of P version start first left r u place notes now known holds =
    let given = now.taken.0 in (
      given ++ later left,
      (all_left first left given now.taken.1, λ e. let before = now.ended e in (λ i. before.1 i ++ none_later left (known before.0) i)),
      subst P (ap (λ b. b ++ later left) now.taken.2 ∙ append_assoc start.held given (later left)) holds,
    )

-- all was read
pub runs_on_end : (version : Version) (start : UnreadState) (first left : Option (List ℕ)) (r : RunningOf Weights) (u : UnreadState) (place : Place) (notes : List NoteState) (told : ToldState)
    → RunsOn version start first left r u place notes → IsDone u → KnowsEnd u left → Tells version r.state notes told
    → IsOfWhole (λ bytes. IsReplayBehind version bytes (told_text r.state.history told)) start first
runs_on_end version start first left r u place notes told now done known is =
    let text = told_text r.state.history told in
    let all : now.bytes ++ later left ≡ now.bytes = ap (λ l. now.bytes ++ l) (none_later left (known done.1)) ∙ append-nil now.bytes in
    all_of (λ bytes. IsReplayBehind version bytes text) version start first left r u place notes now known
    (subst (λ bytes. IsReplayBehind version bytes text) (sym all) (runs_all version now.bytes u.held r place notes told now.runs (ap length done.0) is))

still_there : (held more : List ℕ) → held ≢ [] → held ++ more ≢ []
still_there [] more some e = some refl
still_there (b ∷ held) more some e = cc

-- the first line that is held has a fault
pub runs_on_fault : (version : Version) (start : UnreadState) (first left : Option (List ℕ)) (r : RunningOf Weights) (u : UnreadState) (place next : Place) (notes : List NoteState) (f : ReplayFault)
    → RunsOn version start first left r u place notes → HoldsLine u → KnowsEnd u left → next ≡ record { line = place.line + 1; step = place.step + 1 } → IsFirstFaultAt next.line u.held f
    → IsOfWhole (λ bytes. GivesUpBehind version bytes f) start first
runs_on_fault version start first left r u place next notes f now holds known is fault =
    let none : u.ended ≡ true → later left ≡ [] = λ e. none_later left (known e) in
    all_of (λ bytes. GivesUpBehind version bytes f) version start first left r u place notes now known
    (later_fault version (now.bytes ++ later left) (u.held ++ later left) fault.line (fault.rest ++ later left) r place next notes f
    (runs_more version now.bytes r place notes u.held (later left) (u.held ++ later left) refl now.runs (fed_or_none _ u (later left) now.fed none))
    (still_there u.held (later left) holds.0) (line_more u.held fault.line fault.rest (later left) (ready_with u (later left) holds.1 none) fault.is_first) is fault.fault)

-- each text has a first line
pub has_first : (text : List ℕ) → (line : List ℕ) × (rest : List ℕ) × IsFirstLine text line rest
has_first [] = ([], [], record { no_feed = tt; whole = inr (refl, refl) })
has_first (b ∷ bs) = elim (cases_eq b 10) [
  | inl feed ↦ ([], bs, record { no_feed = tt; whole = inl (ap (λ x. x ∷ bs) feed) })
  | inr other ↦
      let next = has_first bs in (
        b ∷ next.0,
        next.1,
        record {
          no_feed = (other, next.2.no_feed);
          whole = elim next.2.whole [
            | inl e ↦ inl (ap (λ t. b ∷ t) e)
            | inr e ↦ inr (ap (λ t. b ∷ t) e.0, e.1)
          ];
        },
      )
]

-- the first line of what is held has the same fault in the whole
pub none_founded : (version : Version) (held more : List ℕ) (f : ReplayFault) → HasFeed held ⊎ (more ≡ []) → FoundsNone version held f → GivesUpBehind version (held ++ more) f
none_founded version held more f ready (inl spent) = inl spent
none_founded version held more f ready (inr bad) =
    let own = bad.2 in
    inr (bad.0, bad.1, inl (inl (record { line = own.line; rest = own.rest ++ more; is_first = line_more held own.line own.rest more ready own.is_first; fault = own.fault; number = own.number })))

-- what is held, and what its source has left
pub whole_now : (P : List ℕ → Type 0) (u : UnreadState) (left : Option (List ℕ)) → KnowsEnd u left → P (u.held ++ later left) → IsOfWhole P u left
whole_now P u left known holds = (later left, (itself_left left, λ e. none_later left (known e)), holds)
  where
    itself_left : (left : Option (List ℕ)) → IsLeft left (later left)
    itself_left None = tt
    itself_left (Some xs) = refl

-- the first line is held, or all that there is
pub is_ready : (b : Bool) (u : UnreadState) → MatchBool b (HoldsLine u) (IsDone u) → HasFeed u.held ⊎ (u.ended ≡ true)
is_ready true u holds = holds.1
is_ready false u done = inr done.1
