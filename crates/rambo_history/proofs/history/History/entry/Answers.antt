use Rattle.std.proofs.lemmas.Grind.{common_steps}
use Rattle.std.proofs.Common.{sym, ap, ◌∙◌, None, Some, arith}
use Rattle.std.specs.List.{slice_get}
use Rattle.std.specs.Option.{option_copied}
use Rattle.rambo_history.specs.Looks.{op_of, answer_of}
use Rattle.rambo_history.specs.Places.{places_of}
use Rattle.rambo_history.proofs.Pushes.{call_in-place, call_in-no_place, answered_at-place, answer_in-place}
use Rattle.rambo_history.proofs.history.History.entry.Goals as goal
use Rattle.rambo_history.proofs.history.History.entry.Goals.{in-Some, in-None}

pub returns-in_err-places-clause-op : goal.returns-in_err-places-clause-op
returns-in_err-places-clause-op c = rw c.from_residual.ensures (sym (call_in-no_place c.args.self.now.events c.args.id.now c.in_err-places.ensures.places))

pub returns-in_err-op-clause-op : goal.returns-in_err-op-clause-op
returns-in_err-op-clause-op c =
    rw c.from_residual-in_err-op.ensures
    (c.in_err-op.ensures
    ∙ ap (λ h. op_of (slice_get h c.in_ok-places.places.now.called)) c.events-events.ensures.events
    ∙ sym (call_in-place c.args.self.now.events c.args.id.now (places_of c.in_ok-places.places.now) c.in_ok-places.ensures.places))

pub returns-clause-op : goal.returns-clause-op
returns-clause-op c =
    c.in_ok-op.ensures
    ∙ ap (λ h. op_of (slice_get h c.in_ok-places.places.now.called)) c.events-events.ensures.events
    ∙ sym (call_in-place c.args.self.now.events c.args.id.now (places_of c.in_ok-places.places.now) c.in_ok-places.ensures.places)

pub returns-clause-answer : goal.returns-clause-answer
returns-clause-answer c =
    let stands = answered_at-place c.args.self.now.events c.args.id.now (places_of c.in_ok-places.places.now) c.in_ok-places.ensures.places in
    elim c.match-answered.branch [
      | in-Some w ↦ ap option_copied w.answer-is ∙ w.answer_at-answer.ensures
          ∙ ap (λ h. answer_of (slice_get h w.in-Some.place)) c.events-events.ensures.events
          ∙ sym (answer_in-place c.args.self.now.events c.args.id.now (Some w.in-Some.place) (sym (stands ∙ sym c.answered-answered.ensures ∙ w.in-Some.is)))
      | in-None w ↦ ap option_copied w.answer-is ∙ sym (answer_in-place c.args.self.now.events c.args.id.now None (sym (stands ∙ sym c.answered-answered.ensures ∙ w.in-None.is)))
    ]

pub returns-in_err-places-clause-answer : goal.returns-in_err-places-clause-answer
returns-in_err-places-clause-answer c = grind (arith, common_steps)

pub returns-in_err-places-clause-called : goal.returns-in_err-places-clause-called
returns-in_err-places-clause-called c = grind (arith, common_steps)

pub returns-in_err-places-clause-answered : goal.returns-in_err-places-clause-answered
returns-in_err-places-clause-answered c = grind (arith, common_steps)

pub returns-in_err-places-clause-within : goal.returns-in_err-places-clause-within
returns-in_err-places-clause-within c = grind (arith, common_steps)

pub returns-in_err-places-clause-well_formed : goal.returns-in_err-places-clause-well_formed
returns-in_err-places-clause-well_formed c = assumption

pub returns-in_err-op-clause-answer : goal.returns-in_err-op-clause-answer
returns-in_err-op-clause-answer c = grind (arith, common_steps)

pub returns-in_err-op-clause-called : goal.returns-in_err-op-clause-called
returns-in_err-op-clause-called c = grind (arith, common_steps)

pub returns-in_err-op-clause-answered : goal.returns-in_err-op-clause-answered
returns-in_err-op-clause-answered c = grind (arith, common_steps)

pub returns-in_err-op-clause-within : goal.returns-in_err-op-clause-within
returns-in_err-op-clause-within c = grind (arith, common_steps)

pub returns-in_err-op-clause-well_formed : goal.returns-in_err-op-clause-well_formed
returns-in_err-op-clause-well_formed c = assumption

pub returns-clause-called : goal.returns-clause-called
returns-clause-called c = grind (arith, common_steps)

pub returns-clause-answered : goal.returns-clause-answered
returns-clause-answered c = grind (arith, common_steps)

pub returns-clause-within : goal.returns-clause-within
returns-clause-within c = grind (arith, common_steps)

pub returns-clause-well_formed : goal.returns-clause-well_formed
returns-clause-well_formed c = assumption
