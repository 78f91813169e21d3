-- Lines of steps that are written piece by piece
use Rattle.std.proofs.Common.{◌≡◌, ℕ, ◌+◌, ◌<◌, List, [], ◌∷◌, ◌++◌, length, take, drop, get_or, codes, sym, ap, subst, ◌∙◌, append_assoc, append-nil, take-append-drop}
use Rattle.std.specs.Prelude.{Ok, Err, OnOk, OnErr, Option, Result}
use Rattle.std.specs.Io.KnownBytes.{Appends}
use Rattle.std.proofs.KnownBytes.{Appends-nil, Appends-trans}
use Rattle.std.proofs.lemmas.List.{take_more}
use Rattle.rambo_names.specs.Weights.{Weights}
use Rattle.rambo_atomic.specs.Streams.{Begins}
use Rattle.rambo_node.specs.Steps.{Step}
use Rattle.rambo_text.specs.declared.version.Version.TheVariants.{Two}
use Rattle.rambo_names.specs.Signs.{conf_text}
use Rattle.rambo_text.specs.Versions.{head_line, head_text}
use Rattle.rambo_lines.specs.StepLines.{step_line}
use Rattle.rambo_lines.specs.Scripts.{founders_line, steps_text}
use Rattle.rambo_lines.proofs.LineByLine.{steps_text-append}
use Rattle.rambo_trace.specs.Traces.{Moves, trace_text}

-- the text of a piece and of the lines of some steps after it
abbrev pub lines_after : List ℕ → List (Step Weights) → List ℕ
lines_after piece steps = piece ++ steps_text steps

-- of that one part was written, and the other waits
pub record Going (piece : List ℕ) (steps : List (Step Weights)) (old now : Option (List ℕ)) (waits : List ℕ) : Type 0 where
  pub gone : List ℕ
  pub written : Appends old now gone
  pub whole : lines_after piece steps ≡ gone ++ waits

-- the text of more steps
lines-append : (piece : List ℕ) (xs ys : List (Step Weights)) → lines_after piece (xs ++ ys) ≡ lines_after piece xs ++ steps_text ys
lines-append piece xs ys = ap (λ t. piece ++ t) (steps_text-append xs ys) ∙ sym (append_assoc piece (steps_text xs) (steps_text ys))

-- a trace is the lines of its steps after those of its version and its founders
pub head_first : (founders : Weights) (steps : List (Step Weights)) → (head_text Two ++ (founders_line founders ++ 10 ∷ [])) ++ steps_text steps ≡ trace_text founders steps
head_first founders steps =
    append_assoc (head_text Two) (founders_line founders ++ 10 ∷ []) (steps_text steps)
    ∙ ap (λ t. head_text Two ++ t) (append_assoc (founders_line founders) (10 ∷ []) (steps_text steps))

pub trace-append : (founders : Weights) (xs ys : List (Step Weights)) → trace_text founders (xs ++ ys) ≡ trace_text founders xs ++ steps_text ys
trace-append founders xs ys =
    let head = head_text Two ++ (founders_line founders ++ 10 ∷ []) in
    sym (head_first founders (xs ++ ys)) ∙ lines-append head xs ys ∙ ap (λ t. t ++ steps_text ys) (head_first founders xs)

-- the lines that tell the version and the founders
pub head_written : (founders : Weights) (out one two all : List ℕ) → one ≡ out ++ (head_line ++ 10 ∷ codes "founders ") → two ≡ one ++ conf_text founders → all ≡ two ++ 10 ∷ []
    → all ≡ out ++ (head_text Two ++ (founders_line founders ++ 10 ∷ []))
head_written founders out one two all first second third =
    let conf = conf_text founders in
    let front = head_line ++ 10 ∷ codes "founders " in
    third ∙ ap (λ t. t ++ 10 ∷ []) (second ∙ ap (λ t. t ++ conf) first ∙ append_assoc out front conf)
    ∙ append_assoc out (front ++ conf) (10 ∷ [])
    ∙ ap (λ t. out ++ ((front ++ t) ++ 10 ∷ [])) (sym (append-nil conf))

pub goes_first : (piece : List ℕ) (old : Option (List ℕ)) → Going piece [] old old piece
goes_first piece old = record { gone = []; written = Appends-nil old; whole = append-nil piece }

-- one step more waits
goes_longer : (piece : List ℕ) (xs : List (Step Weights)) (st : Step Weights) (old now : Option (List ℕ)) (waits longer : List ℕ) → Going piece xs old now waits
    → longer ≡ waits ++ step_line st ++ 10 ∷ [] → Going piece (xs ++ st ∷ []) old now longer
goes_longer piece xs st old now waits longer g is = record {
  gone = g.gone;
  written = g.written;
  whole = lines-append piece xs (st ∷ []) ∙ ap (λ t. t ++ (step_line st ++ 10 ∷ [])) g.whole ∙ append_assoc g.gone waits (step_line st ++ 10 ∷ [])
      ∙ ap (λ t. g.gone ++ t) (sym (append_assoc waits (step_line st) (10 ∷ [])) ∙ sym is);
}

-- and some of what waits is written
goes_written : (piece : List ℕ) (xs : List (Step Weights)) (old now next : Option (List ℕ)) (waits left : List ℕ) → Going piece xs old now waits
    → Moves now next waits left → Going piece xs old next left
goes_written piece xs old now next waits left g m = record {
  gone = g.gone ++ m.0;
  written = Appends-trans old now next g.gone m.0 g.written m.2;
  whole = g.whole ∙ ap (λ t. g.gone ++ t) m.1 ∙ sym (append_assoc g.gone m.0 left);
}

module _ (piece : List ℕ) (steps : List (Step Weights)) (old now : Option (List ℕ)) (waits : List ℕ) (i : ℕ) (g : Going piece (take i steps) old now waits) where
  -- the line of the next step joins
  pub goes_next : (d : Step Weights) (longer left : List ℕ) (next : Option (List ℕ)) → i < length steps → longer ≡ waits ++ step_line (get_or steps i d) ++ 10 ∷ []
      → Moves now next longer left → Going piece (take (i + 1) steps) old next left
  goes_next d longer left next below is m =
      subst (λ xs. Going piece xs old next left) (sym (take_more steps i d below))
      (goes_written piece _ old now next longer left (goes_longer piece (take i steps) (get_or steps i d) old now waits longer g is) m)

  rest : lines_after piece steps ≡ lines_after piece (take i steps) ++ steps_text (drop i steps)
  rest = ap (lines_after piece) (sym (take-append-drop i steps)) ∙ lines-append piece (take i steps) (drop i steps)

  -- what was written is a beginning of that
  pub begun : Begins old now (lines_after piece steps)
  begun = (g.gone, waits ++ steps_text (drop i steps), rest ∙ ap (λ t. t ++ steps_text (drop i steps)) g.whole ∙ append_assoc g.gone waits (steps_text (drop i steps)), g.written)

  -- and so it is after a beginning of what waits
  pub begun_more : (next : Option (List ℕ)) → Begins now next waits → Begins old next (lines_after piece steps)
  begun_more next b = (
    g.gone ++ b.0,
    b.1 ++ steps_text (drop i steps),
    rest ∙ ap (λ t. t ++ steps_text (drop i steps)) (g.whole ∙ ap (λ t. g.gone ++ t) b.2 ∙ sym (append_assoc g.gone b.0 b.1)) ∙ append_assoc (g.gone ++ b.0) b.1 (steps_text (drop i steps)),
    Appends-trans old now next g.gone b.0 g.written b.3,
  )

  -- and after a beginning of that with the line of the next step
  pub begun_longer : (d : Step Weights) (longer : List ℕ) (next : Option (List ℕ)) → i < length steps → longer ≡ waits ++ step_line (get_or steps i d) ++ 10 ∷ []
      → Begins now next longer → Begins old next (lines_after piece steps)
  begun_longer d longer next below is b =
      let more : Going piece (take (i + 1) steps) old now longer =
      subst (λ xs. Going piece xs old now longer) (sym (take_more steps i d below)) (goes_longer piece (take i steps) (get_or steps i d) old now waits longer g is) in
      begun_next more
    where
      begun_next : Going piece (take (i + 1) steps) old now longer → Begins old next (lines_after piece steps)
      begun_next h =
          let behind = steps_text (drop (i + 1) steps) in
          let all : lines_after piece steps ≡ lines_after piece (take (i + 1) steps) ++ behind =
          ap (lines_after piece) (sym (take-append-drop (i + 1) steps)) ∙ lines-append piece (take (i + 1) steps) (drop (i + 1) steps) in (
            h.gone ++ b.0,
            b.1 ++ behind,
            all ∙ ap (λ t. t ++ behind) (h.whole ∙ ap (λ t. h.gone ++ t) b.2 ∙ sym (append_assoc h.gone b.0 b.1)) ∙ append_assoc (h.gone ++ b.0) b.1 behind,
            Appends-trans old now next h.gone b.0 h.written b.3,
          )

-- with no piece left it was written whole
pub gone_whole : (piece : List ℕ) (steps all : List (Step Weights)) (old now next : Option (List ℕ)) (waits : List ℕ) → Going piece steps old now waits → steps ≡ all
    → Appends now next waits → Appends old next (lines_after piece all)
gone_whole piece steps all old now next waits g same a =
    subst (Appends old next) (sym g.whole ∙ ap (lines_after piece) same) (Appends-trans old now next g.gone waits g.written a)

-- a result that is there meets what is said of it
pub when_ok : {T E : Type 0} (r : Result T E) (x : T) (P : Type 0) → r ≡ Ok x → OnOk r P → P
when_ok r x P is holds = subst (λ s. OnOk s P) is holds

-- a trace that was written so far goes on
pub trace_on : {T E : Type 0} (r : Result T E) (start old new : Option (List ℕ)) (founders : Weights) (before steps : List (Step Weights)) → Appends start old (trace_text founders before)
    → OnOk r (Appends old new (steps_text steps)) → OnOk r (Appends start new (trace_text founders (before ++ steps)))
trace_on (Ok x) start old new founders before steps a h = subst (Appends start new) (sym (trace-append founders before steps)) (Appends-trans start old new (trace_text founders before) (steps_text steps) a h)
trace_on (Err e) start old new founders before steps a h = tt

-- or stops within them
pub trace_off : {T E : Type 0} (r : Result T E) (start old new : Option (List ℕ)) (founders : Weights) (before steps : List (Step Weights)) → Appends start old (trace_text founders before)
    → OnErr r (Begins old new (steps_text steps)) → OnErr r (Begins start new (trace_text founders (before ++ steps)))
trace_off (Ok x) start old new founders before steps a h = tt
trace_off (Err e) start old new founders before steps a h = (
  trace_text founders before ++ h.0,
  h.1,
  trace-append founders before steps ∙ ap (λ t. trace_text founders before ++ t) h.2 ∙ sym (append_assoc (trace_text founders before) h.0 h.1),
  Appends-trans start old new (trace_text founders before) h.0 a h.3,
)

-- a beginning of a trace begins that of more steps
pub begins_more : (start now : Option (List ℕ)) (founders : Weights) (steps more : List (Step Weights)) → Begins start now (trace_text founders steps) → Begins start now (trace_text founders (steps ++ more))
begins_more start now founders steps more b = (
  b.0,
  b.1 ++ steps_text more,
  trace-append founders steps more ∙ ap (λ t. t ++ steps_text more) b.2 ∙ append_assoc b.0 b.1 (steps_text more),
  b.3,
)
