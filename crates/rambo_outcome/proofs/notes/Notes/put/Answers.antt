use Rattle.std.proofs.Common.{◌≡◌, ◌⊎◌, ◌<◌, ◌-◌, ◌++◌, ◌∷◌, [], inl, inr, length, sym, ap, arith, ◌∙◌, length-append}
use Rattle.std.proofs.lemmas.Bool.{eqb-true, eqb-false}
use Rattle.rambo_check.specs.Lines.{items_text}
use Rattle.rambo_outcome.specs.declared.notes.Note.{Note}
use Rattle.rambo_outcome.specs.Notes.{other_items, events_before, with_text, notes_in, bytes_in, grown}
use Rattle.rambo_outcome.proofs.Weaving.{before-append, before-joined}
use Rattle.rambo_outcome.proofs.ByPieces.{notes-append, bytes-append, notes-grown, bytes-grown, none_in, text_first, text_joined}
use Rattle.rambo_outcome.proofs.notes.Notes.put.Goals as goal

pub invariant_of-self-then-events-gt0 : goal.invariant_of-self-then-events-gt0
invariant_of-self-then-events-gt0 c =
    let line = items_text (other_items c.args.step c.args.told.now) in
    let n : Note = record { events = c.saturating_sub-events.result; len = c.len.result - c.len-before.result } in
    let old = c.self.inside.text.items in
    let notes = c.push_reserved.ensures.items ∙ ap (λ l. l ++ n ∷ []) c.in_ok-reserve.ensures.items in
    let text = c.in_ok-write_other.ensures.ok in
    let count = ap length text ∙ length-append old line in
    let long : n.len ≡ length line = omega (arith, count, c.len.ensures, c.len-before.ensures) in
    let bytes = ap bytes_in notes ∙ bytes-append c.self.inside.notes.items n in
    let view = (λ i. notes_in (notes i) (text i)) ∙ notes-append c.self.inside.notes.items n old line c.self.invariant.0 long in
    let before = ap events_before view ∙ before-append (notes_in c.self.inside.notes.items old) (record { events = n.events; text = line }) in
    (omega (arith, bytes, count, long, c.self.invariant.0), omega (arith, before, c.self.invariant.1))

pub invariant_of-self-else-events-gt0 : goal.invariant_of-self-else-events-gt0
invariant_of-self-else-events-gt0 c =
    let line = items_text (other_items c.args.step c.args.told.now) in
    let more = c.len.result - c.len-before.result in
    let old = c.self.inside.text.items in
    let before = c.self.inside.notes.items in
    let notes = c.grow_last.ensures ∙ ap (λ l. grown l more) c.in_ok-reserve.ensures.items in
    let text = c.in_ok-write_other.ensures.ok in
    let count = ap length text ∙ length-append old line in
    let long : more ≡ length line = omega (arith, count, c.len.ensures, c.len-before.ensures) in
    let some : 0 < length before = (let other = eqb-false _ 0 (sym c.is_empty.ensures ∙ c.if-events-gt0.false.0) in omega (arith, other, c.in_ok-reserve.ensures.len)) in
    let bytes = ap bytes_in notes ∙ bytes-grown before more some in
    let view = (λ i. notes_in (notes i) (text i)) ∙ notes-grown before more old line some c.self.invariant.0 long in
    let events = ap events_before view ∙ before-joined (notes_in before old) line in
    (omega (arith, bytes, count, long, c.self.invariant.0), events ∙ c.self.invariant.1)

pub returns-then-events-gt0-clause-ok : goal.returns-then-events-gt0-clause-ok
returns-then-events-gt0-clause-ok c =
    let line = items_text (other_items c.args.step c.args.told.now) in
    let n : Note = record { events = c.saturating_sub-events.result; len = c.len.result - c.len-before.result } in
    let old = c.self.inside.text.items in
    let before = c.self.inside.notes.items in
    let notes = c.push_reserved.ensures.items ∙ ap (λ l. l ++ n ∷ []) c.in_ok-reserve.ensures.items in
    let text = c.in_ok-write_other.ensures.ok in
    let count = ap length text ∙ length-append old line in
    let long : n.len ≡ length line = omega (arith, count, c.len.ensures, c.len-before.ensures) in
    let view = (λ i. notes_in (notes i) (text i)) ∙ notes-append before n old line c.self.invariant.0 long in
    let events : n.events ≡ c.args.count - events_before c.args.self.now = c.saturating_sub-events.ensures ∙ ap (λ m. c.args.count - m) (sym c.self.invariant.1 ∙ ap events_before c.self.view_is) in
    let first : (notes_in before old ≡ []) ⊎ (0 < n.events) = elim c.if-events-gt0.either [
      | inl empty ↦ inl (none_in before old (let none = eqb-true _ 0 (sym c.is_empty.ensures ∙ empty) in omega (arith, none, c.in_ok-reserve.ensures.len)))
      | inr some ↦ inr some.1
    ] in
    view ∙ sym (text_first (notes_in before old) n.events line first) ∙ (λ i. with_text (c.self.view_is i) (events i) line)

pub returns-else-events-gt0-clause-ok : goal.returns-else-events-gt0-clause-ok
returns-else-events-gt0-clause-ok c =
    let line = items_text (other_items c.args.step c.args.told.now) in
    let more = c.len.result - c.len-before.result in
    let old = c.self.inside.text.items in
    let before = c.self.inside.notes.items in
    let notes = c.grow_last.ensures ∙ ap (λ l. grown l more) c.in_ok-reserve.ensures.items in
    let text = c.in_ok-write_other.ensures.ok in
    let count = ap length text ∙ length-append old line in
    let long : more ≡ length line = omega (arith, count, c.len.ensures, c.len-before.ensures) in
    let some : 0 < length before = (let other = eqb-false _ 0 (sym c.is_empty.ensures ∙ c.if-events-gt0.false.0) in omega (arith, other, c.in_ok-reserve.ensures.len)) in
    let view = (λ i. notes_in (notes i) (text i)) ∙ notes-grown before more old line some c.self.invariant.0 long in
    let events : c.saturating_sub-events.result ≡ c.args.count - events_before c.args.self.now = c.saturating_sub-events.ensures ∙ ap (λ m. c.args.count - m) (sym c.self.invariant.1 ∙ ap events_before c.self.view_is) in
    view ∙ sym (text_joined (notes_in before old) c.saturating_sub-events.result line (omega (arith, c.if-events-gt0.false.1))) ∙ (λ i. with_text (c.self.view_is i) (events i) line)
