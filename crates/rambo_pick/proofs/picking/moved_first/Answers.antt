use Rattle.std.proofs.Common.{refl, sym, ap, ◌∙◌, length, is_some, map, arith}
use Rattle.rambo_calls.specs.Kept.{call_of, calls_of}
use Rattle.rambo_names.proofs.Sizes.{up_fits, back_fits, next, variant_fits}
use Rattle.rambo_pick.specs.Picking.{advance, first_of}
use Rattle.rambo_pick.proofs.Picks.{moved_here, moved_later, moved_none}
use Rattle.rambo_pick.proofs.picking.moved_first.Goals as goal

pub calls-rest-requires : goal.calls-rest-requires
calls-rest-requires g c =
    let calls = back_fits _ _ _ (next _ _ _ _ (up_fits _ _ _ c.requires-raw.1.1)) in
    (c.requires-raw.1.1, variant_fits _ _ _ _ (back_fits _ _ _ (up_fits _ _ _ calls)))

pub loop-call-init : goal.loop-call-init
loop-call-init g c = ap (λ cs. first_of g.Q.Quorums.system c.args.node.now.state (map (advance c.args.node.now.state.name) cs)) (sym c.calls-rest.ensures)

pub loop-call-smaller : goal.loop-call-smaller
loop-call-smaller g c = omega (arith, ap length c.in-Some.ensures.cases.0)

pub returns : goal.returns
returns g c = sym (c.loop-call.invariant ∙ moved_none g.Q.Quorums.system c.args.node.now.state c.loop-call.rest.now c.in_default.ensures.cases)

pub returns-then-is_none : goal.returns-then-is_none
returns-then-is_none g c =
    let own = ap (λ n. record { name = n; number = c.in-Some.call.now.number }) c.name.ensures in
    sym (c.loop-call.invariant
    ∙ moved_here g.Q.Quorums.system c.args.node.now.state (calls_of c.loop-call.rest.now) (call_of c.in-Some.call.now) (calls_of c.in-Some.others.now) _ (ap calls_of c.in-Some.ensures.cases.0) own (ap is_some (sym c.unmoved.ensures) ∙ c.if-is_none.ensures))

pub loop-call-preserved : goal.loop-call-preserved
loop-call-preserved g c =
    let own = ap (λ n. record { name = n; number = c.in-Some.call.now.number }) c.name.ensures in
    c.loop-call.invariant
    ∙ moved_later g.Q.Quorums.system c.args.node.now.state (calls_of c.loop-call.rest.now) (call_of c.in-Some.call.now) (calls_of c.in-Some.others.now) _ (ap calls_of c.in-Some.ensures.cases.0) own (ap is_some (sym c.unmoved.ensures) ∙ c.if-is_none.ensures)
