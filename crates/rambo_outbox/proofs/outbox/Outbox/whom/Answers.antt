use Rattle.rambo_outbox.proofs.Sizes.{map_fits}
use Rattle.rambo_outbox.proofs.outbox.Outbox.whom.Goals as goal

pub first_asked-requires : goal.first_asked-requires
first_asked-requires g c = map_fits 0 g.row.Q g.Q.Quorums g.Q.PartialEq g.met.Q.Quorums.small
