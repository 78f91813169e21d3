use Rattle.std.proofs.Common.{◌≡◌, fold}
use Rattle.rambo_names.specs.Names.{names}
use Rattle.rambo_names.specs.Weights.{members_of}
use Rattle.rambo_client.specs.Courses.{Course, exchanged, history_of, others}
use Rattle.rambo_client.proofs.client.Client.ask_all.Given as goal

abbrev pub invariant-loop-peer : goal.invariant-loop-peer
invariant-loop-peer g l =
    (c : Course) → g.C.Cluster.took l.fn.cluster c
    → (d : Course) × g.C.Cluster.took l.cluster d
    × (fold (exchanged l.self.name) d (others l.self.name l.peer-iterator) ≡ fold (exchanged l.self.name) c (others l.self.name (names (members_of l.self.founders))))
    × (history_of d ≡ history_of c)
