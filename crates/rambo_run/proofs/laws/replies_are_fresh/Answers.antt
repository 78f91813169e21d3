use Rattle.rambo_run.proofs.FreshReplies.{replies_are_fresh}
use Rattle.rambo_run.proofs.laws.replies_are_fresh.Goals as goal

pub returns : goal.returns
returns g c = record { fresh = replies_are_fresh g.Q.Quorums.system }
