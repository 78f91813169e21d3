use Rattle.rambo_names.proofs.Sizes.{up_fits, back_fits}
use Rattle.rambo_visit.proofs.opening.is_bidding.Goals as goal

pub node-requires : goal.node-requires
node-requires g c = (c.requires-raw.1.1.1, back_fits _ _ _ (up_fits _ _ _ c.requires-raw.1.1.1))

pub attempt-requires : goal.attempt-requires
attempt-requires g c = back_fits _ _ _ (up_fits _ _ _ c.requires-raw.1.1.1)
