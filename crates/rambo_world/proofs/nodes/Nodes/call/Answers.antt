use Rattle.std.proofs.Common.{◌∙◌, ◌+◌, sym, ap}
use Rattle.rambo_node.specs.Acts as act
use Rattle.rambo_node.specs.Changes.{made_by, refusal_of}
use Rattle.rambo_node.specs.Nodes.{NodeState}
use Rattle.rambo_node.specs.Operations.{called}
use Rattle.rambo_letters.proofs.Lists.{some_is}
use Rattle.rambo_names.proofs.Errors.{on_err}
use Rattle.rambo_names.proofs.Sizes.{up_fits, back_fits}
use Rattle.rambo_world.proofs.Growth.{same_grow}
use Rattle.rambo_world.proofs.Lent.{lent_state, lent_moved, lent_same, lent_grows}
use Rattle.rambo_world.proofs.Logging.{made_name}
use Rattle.rambo_world.proofs.nodes.Nodes.call.Goals as goal

pub node_mut-node-requires : goal.node_mut-node-requires
node_mut-node-requires g c = (c.requires-raw.1.1.0, back_fits _ _ _ (up_fits _ _ _ c.requires-raw.1.1.0))

pub ready_call-requires : goal.ready_call-requires
ready_call-requires g c = back_fits _ _ _ (up_fits _ _ _ c.requires-raw.1.1.0)

pub returns-in_err-ready_call-clause-err : goal.returns-in_err-ready_call-clause-err
returns-in_err-ready_call-clause-err g c =
    let lent = c.node_mut-node in
    on_err c.from_residual.result (lent_same c.args.self.now c.args.name lent.result.now c.ready_call.new.self lent.ensures.kept lent.ensures.named.0 c.ready_call.ensures.same)

pub returns-in_err-ready_call-clause-grow : goal.returns-in_err-ready_call-clause-grow
returns-in_err-ready_call-clause-grow g c =
    let lent = c.node_mut-node in
    same_grow c.args.self.now _ (lent_same c.args.self.now c.args.name lent.result.now c.ready_call.new.self lent.ensures.kept lent.ensures.named.0 c.ready_call.ensures.same)

pub finish_call-requires : goal.finish_call-requires
finish_call-requires g c =
    let lent = c.node_mut-node in
    let x = lent.result.now in (
      back_fits _ _ _ (up_fits _ _ _ c.requires-raw.1.1.0),
      (
        ap (λ y. refusal_of g.Q.Quorums.system y (act.Call c.args.op)) c.ready_call.ensures.same ∙ c.requires x.state (lent_state c.args.self.now c.args.name x x lent.ensures.kept lent.ensures.named.0),
        c.in_ok-ready_call.ensures.ok,
      ),
    )

pub returns-clause-nodes : goal.returns-clause-nodes
returns-clause-nodes g c =
    let lent = c.node_mut-node in
    lent_moved c.args.self.now c.args.name lent.result.now c.finish_call.new.self lent.ensures.kept lent.ensures.named.0 (λ x. (made_by x (act.Call c.args.op)).node)
    (c.finish_call.ensures.node ∙ ap (λ y. (made_by y (act.Call c.args.op)).node) c.ready_call.ensures.same)

pub returns-clause-id : goal.returns-clause-id
returns-clause-id g c y found =
    let lent = c.node_mut-node in
    let x = lent.result.now in
    let own = some_is x.state y (sym (lent_state c.args.self.now c.args.name x x lent.ensures.kept lent.ensures.named.0) ∙ found) in
    c.finish_call.ensures.id ∙ ap (λ (z : NodeState _). record { name = z.name; number = z.made + 1 }) (c.ready_call.ensures.same ∙ own)

pub returns-clause-grow : goal.returns-clause-grow
unfolding made_by called
returns-clause-grow g c =
    let lent = c.node_mut-node in
    let x = lent.result.now in
    let made = c.finish_call.ensures.node ∙ ap (λ y. (made_by y (act.Call c.args.op)).node) c.ready_call.ensures.same in
    lent_grows c.args.self.now c.args.name x c.finish_call.new.self lent.ensures.kept lent.ensures.named.0 (ap (λ y. y.name) made ∙ made_name x.state (act.Call c.args.op)) (ap (λ y. y.registers) made)
