use Rattle.std.proofs.Common.{◌<◌, length, refl, sym, ap, ◌∙◌, subst, arith}
use Rattle.rambo_mail.specs.Waiting.{drop_gone}
use Rattle.rambo_mail.proofs.Leaving.{first_gone, none_gone, one_less}
use Rattle.rambo_mail.proofs.queue.Queue.drop_gone.Goals as goal

pub loop-self-init : goal.loop-self-init
loop-self-init c = (refl, omega arith)

pub loop-self-smaller : goal.loop-self-smaller
loop-self-smaller c = subst (λ l. length l < length c.loop-self.self.entries) (sym c.drop_first.ensures.rest) (one_less c.args.gone c.loop-self.self.entries (sym c.starts_gone.ensures ∙ c.loop-self-test.true))

pub loop-self-preserved : goal.loop-self-preserved
loop-self-preserved c = (
  ap (drop_gone c.args.gone) c.drop_first.ensures.rest ∙ first_gone c.args.gone c.loop-self.self.entries (sym c.starts_gone.ensures ∙ c.loop-self-test.true) ∙ c.loop-self.invariant.0,
  omega (arith, c.drop_first.ensures.more, c.loop-self.invariant.1),
)

pub returns-clause-rest : goal.returns-clause-rest
returns-clause-rest c = none_gone c.args.gone c.loop-self.self.entries (sym c.starts_gone.ensures ∙ c.loop-self-test.false) ∙ c.loop-self.invariant.0
