use Rattle.std.proofs.Common.{length}
use Rattle.rambo_client.proofs.Pieces.{Carried}
use Rattle.rambo_client.proofs.serving.answer_all.Given as goal

abbrev pub invariant-loop-command : goal.invariant-loop-command
invariant-loop-command g l = Carried l.client.name l.client.founders l.fn.decoder l.decoder (g.C.Cluster.took l.fn.cluster) (g.C.Cluster.took l.cluster) l.fn.out.items l.out.items

abbrev pub decreases-loop-command : goal.decreases-loop-command
decreases-loop-command g l = length l.decoder.waiting
