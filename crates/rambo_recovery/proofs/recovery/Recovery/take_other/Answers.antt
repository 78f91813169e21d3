use Rattle.std.proofs.Common.{length, sym, ap, ◌∙◌, subst, inl}
use Rattle.rambo_names.proofs.Sizes.{back_fits, up_fits}
use Rattle.rambo_run.specs.Legal.{IsLegal}
use Rattle.rambo_run.specs.Runs.{run}
use Rattle.rambo_run.specs.Steps.{refusal}
use Rattle.rambo_run.proofs.Lists.{some_inj}
use Rattle.rambo_book.specs.Kept.{BookView, Told, state}
use Rattle.rambo_recovery.specs.Recoveries.{WhyUntaken}
use Rattle.rambo_recovery.proofs.recovery.Recovery.take_other.Goals as goal

pub act-done-requires : goal.act-done-requires
act-done-requires g c = (let i = c.self.invariant in (back_fits _ _ _ (up_fits _ _ _ (back_fits _ _ _ (up_fits _ _ _ c.requires-raw.1.1.1.0))), (i.endless, (c.requires, (i.lists, (i.many, i.named))))))

pub invariant_of-self : goal.invariant_of-self
invariant_of-self g c =
    let i = c.self.invariant in
    let d = c.act-done.ensures in
    record {
      endless = i.endless;
      drawer = i.drawer ∙ sym (ap (λ (b : BookView _). b.drawn) c.in-Ok.ensures.book);
      empty = i.empty;
      many = d.many;
      lists = d.lists;
      named = d.named;
      held = λ short. c.in-Ok.ensures.held (c.is_short_now-self-inside.ensures short).1 (i.held (c.is_short_now-self-inside.ensures short).0);
    }

pub invariant_of-self-in-Err : goal.invariant_of-self-in-Err
invariant_of-self-in-Err g c =
    let i = c.self.invariant in
    let d = c.act-done.ensures in
    record {
      endless = i.endless;
      drawer = i.drawer ∙ sym (ap (λ (b : BookView _). b.drawn) c.in-Err.ensures.same);
      empty = i.empty;
      many = d.many;
      lists = d.lists;
      named = d.named;
      held = λ short. c.in-Err.ensures.trays (i.held short);
    }

pub returns-in-Ok-clause-accepted : goal.returns-in-Ok-clause-accepted
returns-in-Ok-clause-accepted g c = λ f founded.
    let s = g.Q.Quorums.system in
    (λ j. refusal s (run s (sym (some_inj c.self.inside.own.book.founders f (sym c.facts.ensures.founders ∙ founded)) j) (sym c.self.view_is j)) c.args.step) ∙ c.in-Ok.ensures.accepted

pub returns-in-Ok-clause-legal : goal.returns-in-Ok-clause-legal
returns-in-Ok-clause-legal g c = λ f founded. subst (λ f. IsLegal g.Q.Quorums.system f c.act-done.new.book.steps) (some_inj c.act-done.new.book.founders f (sym c.facts-2.ensures.founders ∙ founded)) c.facts-2.ensures.legal

pub returns-in-Err-clause-legal : goal.returns-in-Err-clause-legal
returns-in-Err-clause-legal g c = λ f founded. subst (λ f. IsLegal g.Q.Quorums.system f c.act-done.new.book.steps) (some_inj c.act-done.new.book.founders f (sym c.facts-2.ensures.founders ∙ founded)) c.facts-2.ensures.legal

pub returns-in-Err-clause-cause : goal.returns-in-Err-clause-cause
returns-in-Err-clause-cause g c = λ f founded.
    let s = g.Q.Quorums.system in
    let b = c.self.inside.own.book in
    subst (λ l. WhyUntaken s f g.J.Terms.capacity g.J.Terms.lose l c.args.step c.in-Err.refusal) c.self.view_is
    (subst (λ f. WhyUntaken s f g.J.Terms.capacity g.J.Terms.lose b.steps c.args.step c.in-Err.refusal) (some_inj b.founders f (sym c.facts.ensures.founders ∙ founded))
    (inl (subst (λ n. Told (refusal s (state s b) c.args.step) (length b.steps) n c.in-Err.refusal) c.facts.ensures.capacity c.in-Err.ensures.told)))
