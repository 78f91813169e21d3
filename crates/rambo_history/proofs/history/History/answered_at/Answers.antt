use Rattle.std.proofs.Common.{sym}
use Rattle.rambo_history.proofs.Pushes.{uncalled-unanswered}
use Rattle.rambo_history.proofs.history.History.answered_at.Goals as goal

pub returns-in_err-places : goal.returns-in_err-places
returns-in_err-places c = rw c.from_residual.ensures (sym (uncalled-unanswered c.args.self.now.events c.places_of.ensures.well_formed c.args.id.now c.in_err-places.ensures.places))
