use Rattle.std.proofs.Common.{◌≡◌, ◌++◌, None, length}
use Rattle.rambo_witness.specs.Dues.{dues_among}
use Rattle.rambo_witness.proofs.dues.dues_of_all.Given as goal

abbrev pub invariant-loop-event : goal.invariant-loop-event
invariant-loop-event l = l.dues.items ++ dues_among l.history.events None l.rest ≡ dues_among l.history.events None l.history.events

abbrev pub decreases-loop-event : goal.decreases-loop-event
decreases-loop-event l = length l.rest
