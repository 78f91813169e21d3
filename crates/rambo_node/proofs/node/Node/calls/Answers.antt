use Rattle.std.proofs.Common.{◌∙◌, ap}
use Rattle.rambo_calls.specs.Kept.{calls_of}
use Rattle.rambo_names.proofs.Sizes.{up_fits, back_fits, next}
use Rattle.rambo_node.proofs.node.Node.calls.Goals as goal

pub as_slice-requires : goal.as_slice-requires
as_slice-requires g c = (back_fits _ _ _ (next _ _ _ _ (up_fits _ _ _ c.requires-raw.1.1.0)), c.requires-raw.1.1.1)

pub returns : goal.returns
returns g c = ap calls_of c.as_slice.ensures ∙ ap (λ v. v.state.calls) c.self.view_is
