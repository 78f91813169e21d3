use Rattle.rambo_names.proofs.Sizes.{up_fits, back_fits}
use Rattle.std.proofs.Common.{ap, ◌∙◌}
use Rattle.rambo_bids.specs.Wishes.{attempt_waits}
use Rattle.rambo_node.proofs.node.Node.is_waiting.Goals as goal

pub returns : goal.returns
returns g c = c.is_waiting.ensures ∙ ap (λ v. attempt_waits g.Q.Quorums.system v.state.map v.state.attempt) c.self.view_is

pub is_waiting-requires : goal.is_waiting-requires
is_waiting-requires g c = back_fits _ _ _ (up_fits _ _ _ c.requires-raw.1.1)
