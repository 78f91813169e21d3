use Rattle.std.proofs.Common.{◌≡◌, ◌∙◌, Some, sym, ap, subst}
use Rattle.rambo_run.specs.Worlds.{node_at}
use Rattle.rambo_letters.proofs.Lists.{some_is}
use Rattle.rambo_world.specs.Worlds.{state}
use Rattle.rambo_names.proofs.Sizes.{up_fits, back_fits, next}
use Rattle.rambo_run.proofs.EveryRun.{agrees}
use Rattle.rambo_world.proofs.world.World.map.Goals as goal

pub node-requires : goal.node-requires
node-requires g c =
    let nodes = back_fits _ _ _ (next _ _ _ _ (next _ _ _ _ (next _ _ _ _ (up_fits _ _ _ (back_fits _ _ _ (up_fits _ _ _ c.requires-raw.1.1.0)))))) in
    (nodes, back_fits _ _ _ (up_fits _ _ _ nodes))

pub map-requires : goal.map-requires
map-requires g c =
    let nodes = back_fits _ _ _ (next _ _ _ _ (next _ _ _ _ (next _ _ _ _ (up_fits _ _ _ (back_fits _ _ _ (up_fits _ _ _ c.requires-raw.1.1.0)))))) in
    (back_fits _ _ _ (up_fits _ _ _ nodes), c.requires-raw.1.1.1)

pub returns-clause-map : goal.returns-clause-map
returns-clause-map g c x found =
    let is = ap (λ i. i.state) c.self-inside.view_is ∙ c.self.invariant.0 ∙ ap (state g.Q.Quorums.system) c.self.view_is in
    c.map.ensures ∙ ap (λ y. y.map) (some_is c.node.result.now.state x (sym c.node.ensures ∙ subst (λ w. node_at w c.args.name ≡ Some x) (sym is) found))

pub returns-clause-agreed : goal.returns-clause-agreed
returns-clause-agreed g c = agrees g.Q.Quorums.system g.met.Q.Quorums.sound c.args.self.now.founders c.args.self.now.steps
