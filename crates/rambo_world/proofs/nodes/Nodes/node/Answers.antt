use Rattle.std.proofs.Common.{◌≡◌, ◌<◌, length, Some, sym, subst}
use Rattle.rambo_world.specs.Kept.{state_at}
use Rattle.rambo_world.proofs.Zipping.{node_here}
use Rattle.rambo_world.proofs.nodes.Nodes.node.Goals as goal

pub returns : goal.returns
returns g c =
    let xs = c.self.inside.list.items in
    let x = c.index.result.now in
    let below : c.place_of.result < length xs = subst (λ n. c.place_of.result < n) (sym c.self.invariant.0) c.place_of.ensures.within in
    subst (λ now. state_at now c.args.name ≡ Some x.state) c.self.view_is (node_here xs c.self.inside.logs.logs c.place_of.result c.args.name x x c.place_of.ensures.place c.place_of.ensures.named.0 below c.index.ensures)
