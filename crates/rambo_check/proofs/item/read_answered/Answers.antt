use Rattle.std.proofs.Common.{◌≡◌, ℕ, List, [], ◌∷◌, Option, true, codes, refl, sym, ap, ◌∙◌, subst}
use Rattle.std.specs.Option.{option_copied}
use Rattle.std.specs.Str.{bytes_eq}
use Rattle.std.proofs.lemmas.Slice.Eq.{bytes_eq-Decides}
use Rattle.rambo_text.specs.Signs.{call_text, hex_text}
use Rattle.rambo_text.specs.Words.{AreMore}
use Rattle.rambo_check.proofs.LineFaults.{answer_unknown}
use Rattle.rambo_check.proofs.item.read_answered.Goals as goal

-- the words are a call's, this one and those behind it
answer_on : (start more : Option (List ℕ)) (id kind call text : List ℕ) (ws : List (List ℕ)) → ((vs : List (List ℕ)) → AreMore more vs → AreMore start (id ∷ kind ∷ vs))
    → id ≡ call → true ≡ bytes_eq kind text → AreMore more ws → AreMore start (call ∷ text ∷ ws)
answer_on start more id kind call text ws two called is all =
    let same = (bytes_eq-Decides kind text).0 (sym is) in
    let whole : id ∷ kind ∷ ws ≡ call ∷ text ∷ ws = λ i. called i ∷ same i ∷ ws in
    subst (AreMore start) whole (two ws all)

pub returns-clause-fault : goal.returns-clause-fault
returns-clause-fault c =
    answer_unknown (option_copied c.args.more) (option_copied c.in-Some.more) c.in-Some.id.now c.in-Some.kind.now c.in-Some.ensures.found
    (c.if-eq.ensures ∙ ap (bytes_eq c.in-Some.kind.now) c.as_slice.ensures) (c.if-eq-2.ensures ∙ ap (bytes_eq c.in-Some.kind.now) c.as_slice-2.ensures)
    (c.if-eq-3.ensures ∙ ap (bytes_eq c.in-Some.kind.now) c.as_slice-3.ensures)

pub returns-then-eq-clause-event : goal.returns-then-eq-clause-event
returns-then-eq-clause-event c =
    let kind = c.in-Some.kind.now in (
      (c.in_ok-read_call_alone.ensures.call.0, tt),
      call_text c.in_ok-read_call_alone.field-0 ∷ codes "ok" ∷ [],
      answer_on (option_copied c.args.more) (option_copied c.in-Some.more) c.in-Some.id.now kind (call_text c.in_ok-read_call_alone.field-0) (codes "ok") [] c.in-Some.ensures.found c.in_ok-read_call_alone.ensures.call.1
          (c.if-eq.ensures ∙ ap (bytes_eq kind) c.as_slice.ensures) c.in_ok-read_call_alone.ensures.none,
      refl,
    )

pub returns-then-eq-2-clause-event : goal.returns-then-eq-2-clause-event
returns-then-eq-2-clause-event c =
    let kind = c.in-Some.kind.now in (
      (c.in_ok-read_call_alone-2.ensures.call.0, tt),
      call_text c.in_ok-read_call_alone-2.field-0 ∷ codes "nil" ∷ [],
      answer_on (option_copied c.args.more) (option_copied c.in-Some.more) c.in-Some.id.now kind (call_text c.in_ok-read_call_alone-2.field-0) (codes "nil") [] c.in-Some.ensures.found c.in_ok-read_call_alone-2.ensures.call.1
          (c.if-eq-2.ensures ∙ ap (bytes_eq kind) c.as_slice-2.ensures) c.in_ok-read_call_alone-2.ensures.none,
      refl,
    )

pub returns-then-eq-3-clause-event : goal.returns-then-eq-3-clause-event
returns-then-eq-3-clause-event c =
    let kind = c.in-Some.kind.now in (
      (c.in_ok-id.ensures.call.0, c.in_ok-id.ensures.bytes.0),
      call_text c.in_ok-id.id ∷ codes "value" ∷ (hex_text c.in_ok-id.value ∷ []),
      answer_on (option_copied c.args.more) (option_copied c.in-Some.more) c.in-Some.id.now kind (call_text c.in_ok-id.id) (codes "value") (hex_text c.in_ok-id.value ∷ []) c.in-Some.ensures.found c.in_ok-id.ensures.call.1
          (c.if-eq-3.ensures ∙ ap (bytes_eq kind) c.as_slice-3.ensures) c.in_ok-id.ensures.bytes.1,
      refl,
    )
