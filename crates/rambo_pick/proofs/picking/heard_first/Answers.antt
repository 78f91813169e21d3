use Rattle.std.proofs.Common.{refl, sym, ap, ◌∙◌, length, is_some, arith}
use Rattle.rambo_pick.proofs.Picks.{heard_here, heard_later, heard_none}
use Rattle.rambo_pick.proofs.picking.heard_first.Goals as goal

pub loop-mail-init : goal.loop-mail-init
loop-mail-init g c = refl

pub loop-mail-smaller : goal.loop-mail-smaller
loop-mail-smaller g c = omega (arith, ap length c.in-Some.ensures.cases.0)

pub returns : goal.returns
returns g c = sym (c.loop-mail.invariant ∙ heard_none g.Q.Quorums.system c.args.node.now.state c.loop-mail.rest.now c.in_default.ensures.cases)

pub returns-then-is_none : goal.returns-then-is_none
returns-then-is_none g c =
    sym (c.loop-mail.invariant ∙ heard_here g.Q.Quorums.system c.args.node.now.state c.loop-mail.rest.now c.in-Some.mail.now c.in-Some.others.now c.in-Some.ensures.cases.0 (ap is_some (sym c.unheard.ensures) ∙ c.if-is_none.ensures))

pub loop-mail-preserved : goal.loop-mail-preserved
loop-mail-preserved g c =
    c.loop-mail.invariant ∙ heard_later g.Q.Quorums.system c.args.node.now.state c.loop-mail.rest.now c.in-Some.mail.now c.in-Some.others.now c.in-Some.ensures.cases.0 (ap is_some (sym c.unheard.ensures) ∙ c.if-is_none.ensures)

pub unheard-requires : goal.unheard-requires
unheard-requires g c = c.requires-raw.1.1
