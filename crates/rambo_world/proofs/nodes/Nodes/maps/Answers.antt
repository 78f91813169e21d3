use Rattle.std.proofs.Common.{◌≡◌, ◌∙◌, List, sym, ap, subst, IfOk}
use Rattle.rambo_node.specs.Nodes.{NodeState}
use Rattle.rambo_run.specs.Runs.{maps_of}
use Rattle.rambo_world.specs.Kept.{states_of, node_states}
use Rattle.rambo_names.proofs.Sizes.{up_fits, back_fits}
use Rattle.rambo_world.proofs.Zipping.{states_of-kept}
use Rattle.rambo_world.proofs.nodes.Nodes.maps.Goals as goal

pub maps_of-requires : goal.maps_of-requires
maps_of-requires g c = back_fits _ _ _ (up_fits _ _ _ c.requires-raw.1.1)

pub returns-clause-maps : goal.returns-clause-maps
returns-clause-maps g c =
    subst (λ (xs : List (NodeState _)). IfOk c.maps_of.result (λ maps. maps.items ≡ maps_of xs))
    (ap node_states c.as_slice.ensures.value ∙ sym (states_of-kept c.self.inside.list.items c.self.inside.logs.logs) ∙ ap states_of c.self.view_is) c.maps_of.ensures.maps
