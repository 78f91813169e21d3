use Rattle.rambo_gossip.proofs.Fitting.{standing_fits}
use Rattle.rambo_node.proofs.workspace.Workspace.drop.Goals as goal

pub drop-told-requires-room-T-Destruct : goal.drop-told-requires-room-T-Destruct
drop-told-requires-room-T-Destruct g c κs within = standing_fits 0 g.row.Q g.Q.Quorums g.Q.PartialEq g.met.Q.Quorums.small
