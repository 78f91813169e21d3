use Rattle.std.proofs.Common.{refl, sym, ap, ◌∙◌, length, arith}
use Rattle.rambo_book.proofs.Readying.{mail_later, mail_none}
use Rattle.rambo_book.proofs.first_half.mail_of.Goals as goal

pub loop-mail-init : goal.loop-mail-init
loop-mail-init g c = refl

pub loop-mail-smaller : goal.loop-mail-smaller
loop-mail-smaller g c = omega (arith, ap length c.in-Some.ensures.cases.0)

pub returns : goal.returns
returns g c = sym (c.loop-mail.invariant ∙ mail_none c.loop-mail.rest.now c.args.number c.in_default.ensures.cases)

pub loop-mail-preserved : goal.loop-mail-preserved
loop-mail-preserved g c = c.loop-mail.invariant ∙ mail_later c.loop-mail.rest.now c.in-Some.mail.now c.in-Some.others.now c.args.number c.in-Some.ensures.cases.0 c.if-mail-number.false
