use Rattle.std.proofs.Common.{sym, ap, ◌∙◌, None, Some}
use Rattle.std.specs.List.{slice_get}
use Rattle.rambo_history.specs.Looks.{answer_of}
use Rattle.rambo_history.proofs.Pushes.{answer_in-place}
use Rattle.rambo_history.proofs.history.History.answer.Goals as goal

pub returns-in_err-place : goal.returns-in_err-place
returns-in_err-place c = rw c.from_residual.ensures (sym (answer_in-place c.args.self.now.events c.args.id.now None c.in_err-place.ensures))

pub returns : goal.returns
returns c = c.answer_at.ensures ∙ ap (λ h. answer_of (slice_get h c.in_ok-place.place)) c.events.ensures.events ∙ sym (answer_in-place c.args.self.now.events c.args.id.now (Some c.in_ok-place.place) c.in_ok-place.ensures)
