use Rattle.std.proofs.Common.{None, IfOk, sym, ◌∙◌, subst}
use Rattle.std.proofs.lemmas.Result.{IfOk-weaker}
use Rattle.std.specs.Option.{option_copied}
use Rattle.rambo_atomic.specs.declared.verdict.Rule.TheVariants.{Missing}
use Rattle.rambo_witness.specs.Witnesses.{Decides}
use Rattle.rambo_witness.proofs.Due.{decides-missing}
use Rattle.rambo_witness.proofs.witnesses.Witnesses.missing.Goals as goal

pub returns-in-Some-clause-found : goal.returns-in-Some-clause-found
returns-in-Some-clause-found c =
    subst (λ k. IfOk c.missing_of.result (Decides Missing c.args.self.now (option_copied k) c.args.order.now)) (sym c.in-Some.is) c.missing_of.ensures.found

pub returns-in_ok-dues-in-None-clause-found : goal.returns-in_ok-dues-in-None-clause-found
returns-in_ok-dues-in-None-clause-found c =
    IfOk-weaker c.first_out.result _ _ (λ o out.
    subst (λ h. Decides Missing h (option_copied c.args.key) c.args.order.now o) c.self.view_is
    (subst (λ k. Decides Missing c.self.inside.history.now.events (option_copied k) c.args.order.now o) (sym c.in-None.is)
    (decides-missing c.self.inside.history.now.events c.self.invariant.1 None c.as_slice.result.now c.args.order.now
    (c.as_slice.ensures.value ∙ c.in_ok-dues-in-None.ensures.dues) o out)))
    c.first_out.ensures.found
