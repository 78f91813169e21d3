use Rattle.std.proofs.Common.{sym, ap, ◌∙◌}
use Rattle.std.specs.List.{slice_get}
use Rattle.rambo_history.specs.Looks.{op_of}
use Rattle.rambo_history.specs.Places.{places_of}
use Rattle.rambo_history.proofs.Pushes.{call_in-place, call_in-no_place}
use Rattle.rambo_history.proofs.history.History.call.Goals as goal

pub returns-in_err-places : goal.returns-in_err-places
returns-in_err-places c = rw c.from_residual.ensures (sym (call_in-no_place c.args.self.now.events c.args.id.now c.in_err-places.ensures.places))

pub returns : goal.returns
returns c = c.op_at.ensures ∙ ap (λ h. op_of (slice_get h c.in_ok-places.places.now.called)) c.events.ensures.events ∙ sym (call_in-place c.args.self.now.events c.args.id.now (places_of c.in_ok-places.places.now) c.in_ok-places.ensures.places)
