use Rattle.std.proofs.Common.{◌++◌, ◌∷◌, [], length, sym, ap, ◌∙◌, subst}
use Rattle.rambo_names.proofs.Sizes.{back_fits, up_fits}
use Rattle.rambo_node.specs.declared.step.StepOf.TheVariants as step
use Rattle.rambo_run.specs.Legal.{IsLegal}
use Rattle.rambo_run.specs.Runs.{run}
use Rattle.rambo_run.specs.Steps.{refusal}
use Rattle.rambo_run.proofs.Lists.{some_inj}
use Rattle.rambo_book.specs.Kept.{BookView}
use Rattle.rambo_recovery.specs.Recoveries.{WhyUntaken}
use Rattle.rambo_recovery.proofs.Owning.{either_drawn, err_map, if_err_map, ok_map, why_gone}
use Rattle.rambo_recovery.proofs.recovery.Recovery.take_delivery.Goals as goal

pub deliver-done-requires : goal.deliver-done-requires
deliver-done-requires g c = (back_fits _ _ _ (up_fits _ _ _ (back_fits _ _ _ (up_fits _ _ _ c.requires-raw.1.1.1))), (c.self.invariant.many, c.self.invariant.named))

pub invariant_of-self : goal.invariant_of-self
invariant_of-self g c =
    let i = c.self.invariant in
    let d = c.deliver-done.ensures in
    let b = c.self.inside.own.book in
    let same = either_drawn b c.deliver-done.new.book (b.steps ++ step.Deliver c.args.number ∷ []) c.deliver-done.result d.book d.same in
    record {
      endless = i.endless;
      drawer = i.drawer ∙ sym same.0;
      empty = i.empty;
      many = d.many;
      lists = ap length same.1 ∙ i.lists;
      named = d.named;
      held = λ short. d.held (i.held short);
    }

pub returns-clause-taken : goal.returns-clause-taken
returns-clause-taken g c =
    ok_map _ _ c.deliver-done.result (λ is. ap (λ (b : BookView _). b.steps) is ∙ ap (λ l. l ++ step.Deliver c.args.number ∷ []) c.self.view_is) c.deliver-done.ensures.book

pub returns-clause-accepted : goal.returns-clause-accepted
returns-clause-accepted g c =
    let s = g.Q.Quorums.system in
    ok_map _ _ c.deliver-done.result
    (λ free f founded. (λ j. refusal s (run s (sym (some_inj c.self.inside.own.book.founders f (sym c.facts.ensures.founders ∙ founded)) j) (sym c.self.view_is j)) (step.Deliver c.args.number)) ∙ free) c.deliver-done.ensures.accepted

pub returns-clause-legal : goal.returns-clause-legal
returns-clause-legal g c = λ f founded. subst (λ f. IsLegal g.Q.Quorums.system f c.deliver-done.new.book.steps) (some_inj c.deliver-done.new.book.founders f (sym c.facts-2.ensures.founders ∙ founded)) c.facts-2.ensures.legal

pub returns-clause-err : goal.returns-clause-err
returns-clause-err g c = err_map _ _ c.deliver-done.result (λ same. ap (λ (b : BookView _). b.steps) same ∙ c.self.view_is) c.deliver-done.ensures.same

pub returns-clause-cause : goal.returns-clause-cause
returns-clause-cause g c =
    let s = g.Q.Quorums.system in
    let i = c.self.invariant in
    let b = c.self.inside.own.book in
    let st = step.Deliver c.args.number in
    if_err_map _ _ c.deliver-done.result
    (λ r h f founded. subst (λ l. WhyUntaken s f g.J.Terms.capacity g.J.Terms.lose l st r) c.self.view_is
    (subst (λ f. WhyUntaken s f g.J.Terms.capacity g.J.Terms.lose b.steps st r) (some_inj b.founders f (sym c.facts.ensures.founders ∙ founded)) h))
    (why_gone s b g.J.Terms.endless g.J.Terms.capacity g.J.Terms.lose c.self.inside.is_short c.self.inside.own.keepers.all.items c.args.number c.deliver-done.result i.endless c.facts.ensures.capacity c.facts.ensures.lose i.held c.deliver-done.ensures.told)
