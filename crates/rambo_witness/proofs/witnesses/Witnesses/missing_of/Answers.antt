use Rattle.std.proofs.Common.{Some, sym, ◌∙◌, subst}
use Rattle.std.proofs.lemmas.Result.{IfOk-weaker}
use Rattle.std.specs.Option.{IfSome}
use Rattle.rambo_atomic.specs.declared.verdict.Rule.TheVariants.{Missing}
use Rattle.rambo_witness.specs.Dues.{HasDues}
use Rattle.rambo_witness.specs.Witnesses.{Decides}
use Rattle.rambo_witness.proofs.Due.{decides-missing}
use Rattle.rambo_witness.proofs.witnesses.Witnesses.missing_of.Goals as goal
use Rattle.rambo_witness.proofs.witnesses.Witnesses.missing_of.Goals.{in-Some, in-None+in_ok-dues-in-None}

pub returns-clause-found : goal.returns-clause-found
returns-clause-found c =
    let events = c.self.inside.history.now.events in
    let has : HasDues events c.match-take.dues.entries = elim c.match-take.branch [
      | in-Some w ↦
          subst (λ d. HasDues events d.entries) (sym w.dues-is)
          (subst (λ o. IfSome o (λ d. HasDues events d.entries)) (sym c.take.ensures.value ∙ w.in-Some.is) c.self.invariant.0)
      | in-None+in_ok-dues-in-None w ↦ subst (λ d. HasDues events d.entries) (sym w.dues-is) w.in_ok-dues-in-None.ensures.dues
    ] in
    IfOk-weaker c.first_out-witness.result _ _ (λ o out.
    subst (λ h. Decides Missing h (Some c.args.key.now) c.args.order.now o) c.self.view_is
    (decides-missing events c.self.invariant.1 (Some c.args.key.now) c.dues_of.result.now c.args.order.now
    (c.dues_of.ensures ∙ has c.args.key.now) o out))
    c.first_out-witness.ensures.found
