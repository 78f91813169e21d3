use Rattle.rambo_run.proofs.FreshReplies.{collection_replies_are_fresh}
use Rattle.rambo_run.proofs.laws.collection_replies_are_fresh.Goals as goal

pub returns : goal.returns
returns g c = record { fresh = collection_replies_are_fresh g.Q.Quorums.system }
