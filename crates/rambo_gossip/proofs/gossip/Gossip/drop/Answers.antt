use Rattle.rambo_gossip.proofs.Fitting.{standing_fits}
use Rattle.rambo_gossip.proofs.gossip.Gossip.drop.Goals as goal

pub drop-standing-requires-room-T-Destruct : goal.drop-standing-requires-room-T-Destruct
drop-standing-requires-room-T-Destruct g c κs within = standing_fits 0 g.row.Q g.Q.Quorums g.Q.PartialEq g.met.Q.Quorums.small
