use Rattle.std.proofs.Common.{ℕ, List, length}
use Rattle.rambo_client.specs.Talks.{IsTalk, CarriesFront}
use Rattle.rambo_client.proofs.serving.answer_front.Given as goal

abbrev pub invariant-loop-command : goal.invariant-loop-command
invariant-loop-command g l =
    (stream : List ℕ) (commands : List (List (List ℕ))) → IsTalk l.client.name l.client.founders l.fn.decoder (g.C.Cluster.took l.fn.cluster) stream commands
    → CarriesFront l.client.name l.client.founders l.decoder (g.C.Cluster.took l.cluster) stream commands l.fn.piece l.rest l.fn.out.items l.out.items

abbrev pub decreases-loop-command : goal.decreases-loop-command
decreases-loop-command g l = length l.rest
