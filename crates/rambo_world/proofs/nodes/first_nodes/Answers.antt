use Rattle.std.proofs.Common.{◌≡◌, ◌∙◌, ap, arith, refl}
use Rattle.rambo_names.proofs.Errors.{err_kept, err_if_ok}
use Rattle.rambo_names.specs.Names.{rising}
use Rattle.rambo_run.specs.Worlds.{first_nodes}
use Rattle.rambo_world.specs.Kept.{node_states}
use Rattle.rambo_world.proofs.Starting.{first_none, first_next}
use Rattle.rambo_world.proofs.nodes.first_nodes.Goals as goal

pub loop-place-init : goal.loop-place-init
loop-place-init g c = ap node_states c.new-list.ensures.items ∙ first_none g.Q.Quorums.system c.args.founders

pub loop-place-preserved : goal.loop-place-preserved
loop-place-preserved g c =
    ap node_states c.in_ok-push.ensures.items
    ∙ first_next g.Q.Quorums.system c.args.founders c.loop-place.place c.loop-place.list.items c.in_ok-first_node.field-0 c.loop-place.invariant c.in_ok-first_node.ensures.first

pub returns-clause-first : goal.returns-clause-first
returns-clause-first g c =
    c.loop-place.invariant
    ∙ ap (λ n. first_nodes g.Q.Quorums.system c.args.founders (rising n 1)) (let e : c.loop-place.place ≡ 64 = omega (arith, c.loop-place-test.false, c.loop-place.auto.place-end) in e)

pub returns-in_err-first_node-clause-refused : goal.returns-in_err-first_node-clause-refused
returns-in_err-first_node-clause-refused g c = err_kept c.from_residual.result _ _ c.from_residual.ensures.1 c.in_err-first_node.ensures.refused

pub returns-in_err-first_node-clause-first : goal.returns-in_err-first_node-clause-first
returns-in_err-first_node-clause-first g c = err_if_ok c.from_residual.result _ _ c.from_residual.ensures.1

pub returns-in_err-push-clause-first : goal.returns-in_err-push-clause-first
returns-in_err-push-clause-first g c = err_if_ok c.from_residual-in_err-push.result _ _ c.from_residual-in_err-push.ensures.1

pub loop-place-smaller : goal.loop-place-smaller
loop-place-smaller g c = omega (arith, c.loop-place-test.true)

pub returns-in_err-push-clause-refused : goal.returns-in_err-push-clause-refused
returns-in_err-push-clause-refused g c = err_kept c.from_residual-in_err-push.result _ _ c.from_residual-in_err-push.ensures.1 refl

pub first_node-requires : goal.first_node-requires
first_node-requires g c = (c.requires-raw.1.1, (omega arith, omega (arith, c.loop-place-test.true)))

pub overflow_add-place : goal.overflow_add-place
overflow_add-place g c = omega (arith, c.loop-place-test.true)

pub returns-clause-refused : goal.returns-clause-refused
returns-clause-refused g c = tt
