use Rattle.rambo_names.proofs.Sizes.{up_fits, back_fits}
use Rattle.std.proofs.Common.{ap, ◌∙◌}
use Rattle.rambo_config_map.specs.Maps.{end_of}
use Rattle.rambo_bids.specs.Wishes.{is_for}
use Rattle.rambo_node.proofs.node.Node.is_bidding.Goals as goal

pub returns : goal.returns
returns g c = c.is_bidding.ensures ∙ ap (λ v. is_for (end_of v.state.map) v.state.attempt) c.self.view_is

pub is_bidding-requires : goal.is_bidding-requires
is_bidding-requires g c = back_fits _ _ _ (up_fits _ _ _ c.requires-raw.1.1)
