use Rattle.std.proofs.Common.{map, ◌++◌, sym, ◌∙◌}
use Rattle.rambo_node.specs.declared.step.StepOf.TheVariants as step
use Rattle.rambo_pick.specs.Picking.{delivery, advance, of_configurations}
use Rattle.rambo_pick.proofs.Picks.{first_there, first_behind}
use Rattle.rambo_pick.proofs.picking.first_step.Goals as goal

pub heard_first-requires : goal.heard_first-requires
heard_first-requires g c = c.requires-raw.1.1

pub moved_first-requires : goal.moved_first-requires
moved_first-requires g c = c.requires-raw.1.1

pub turned_first-requires : goal.turned_first-requires
turned_first-requires g c = c.requires-raw.1.1

pub returns-in-Some : goal.returns-in-Some
returns-in-Some g c =
    let s = g.Q.Quorums.system in
    let x = c.args.node.now.state in
    sym (first_there s x (map delivery c.args.tray.now) (map (advance x.name) x.calls ++ of_configurations x.name) (step.Deliver c.in-Some.number) (sym c.in-Some.ensures))

pub returns-in-Some-moved_first : goal.returns-in-Some-moved_first
returns-in-Some-moved_first g c =
    let s = g.Q.Quorums.system in
    let x = c.args.node.now.state in
    sym (first_behind s x (map delivery c.args.tray.now) (map (advance x.name) x.calls ++ of_configurations x.name) (sym c.in_default.ensures)
    ∙ first_there s x (map (advance x.name) x.calls) (of_configurations x.name) (step.Advance c.in-Some-moved_first.id) (sym c.in-Some-moved_first.ensures))

pub returns : goal.returns
returns g c =
    let s = g.Q.Quorums.system in
    let x = c.args.node.now.state in
    c.turned_first.ensures
    ∙ sym (first_behind s x (map delivery c.args.tray.now) (map (advance x.name) x.calls ++ of_configurations x.name) (sym c.in_default.ensures)
    ∙ first_behind s x (map (advance x.name) x.calls) (of_configurations x.name) (sym c.in_default-moved_first.ensures))
