-- What the nodes end as, where one of them is borrowed
use Rattle.std.specs.Prelude.{ℕ, List}
use Rattle.std.specs.Borrow.{Lends, Fml, RattleType, MutBor}
use Rattle.std.specs.declared.cmp.PartialEq
use Rattle.rambo_names.specs.declared.quorums.Quorums
use Rattle.rambo_tag.specs.declared.replica.Replica
use Rattle.rambo_node.specs.Nodes.{RoomyNode}
use Rattle.rambo_node.specs.contracts.node.Node as node
use Rattle.rambo_world.specs.Kept.{KeptNode, with_node}
use Rattle.rambo_world.specs.contracts.nodes.Nodes.{the_row}

-- once it is given back, the node of a name is what was left in it, and the logs are as before
abbrev pub lends_node : (Q S : RattleType) (qg : Quorums.Ghosts Q.Denot) (pg : PartialEq.Ghosts Q.Denot) (rg : Replica.Ghosts S.Denot)
    → MutBor (List (KeptNode Q.Denot)) → ℕ → MutBor (RoomyNode Q.Denot) → Fml
lends_node Q S qg pg rg nodes name r = Lends (the_row Q S qg pg rg) (node.the_row Q S qg pg rg) nodes r (with_node nodes.now name)
