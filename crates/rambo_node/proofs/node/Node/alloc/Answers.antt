use Rattle.rambo_names.proofs.Sizes.{up_fits, back_fits}
use Rattle.rambo_node.proofs.node.Node.alloc.Goals as goal

pub places-requires : goal.places-requires
places-requires g c = let map = back_fits _ _ _ (up_fits _ _ _ c.requires-raw.1.1) in (map, back_fits _ _ _ (up_fits _ _ _ map))

pub alloc-requires : goal.alloc-requires
alloc-requires g c = back_fits _ _ _ (up_fits _ _ _ (back_fits _ _ _ (up_fits _ _ _ c.requires-raw.1.1)))
