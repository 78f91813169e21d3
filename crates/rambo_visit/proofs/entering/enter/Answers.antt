use Rattle.std.proofs.Common.{Some, sym, ap, ◌∙◌, subst}
use Rattle.rambo_book.specs.Kept.{BookView}
use Rattle.rambo_run.specs.Legal.{IsLegal}
use Rattle.rambo_visit.proofs.Happenings.{done_so, no_room_so}
use Rattle.rambo_visit.proofs.Visits.{same_either, same_refused}
use Rattle.rambo_visit.proofs.entering.enter.Goals as goal

pub returns-clause-same : goal.returns-clause-same
returns-clause-same g c = let h = c.commit_ready.ensures in same_either _ c.commit_ready.result c.args.keeper.now c.commit_ready.new.keeper _ h.keeper h.same

pub returns-clause-did : goal.returns-clause-did
returns-clause-did g c =
    let s = g.Q.Quorums.system in
    let h = c.commit_ready.ensures in
    let facts = c.facts.ensures in
    let lent = c.deref.ensures ∙ sym c.deref_mut.ensures.value in
    let founded = facts.founders ∙ ap (λ (b : BookView _). Some b.founders) lent in
    let terms = sym (ap (λ (b : BookView _). b.capacity) lent) ∙ facts.capacity in
    let legal = subst (λ (b : BookView _). IsLegal s b.founders b.steps) lent facts.legal in
    done_so s g.J.Terms.founders g.J.Terms.capacity c.deref_mut.result.now founded terms legal c.commit_ready.result c.args.half.step h.legal h.room h.effect

pub returns-clause-err : goal.returns-clause-err
returns-clause-err g c = let h = c.commit_ready.ensures in same_refused _ c.commit_ready.result c.args.keeper.now c.commit_ready.new.keeper h.same

pub returns-clause-cause : goal.returns-clause-cause
returns-clause-cause g c =
    let s = g.Q.Quorums.system in
    let h = c.commit_ready.ensures in
    let facts = c.facts.ensures in
    let lent = c.deref.ensures ∙ sym c.deref_mut.ensures.value in
    let founded = facts.founders ∙ ap (λ (b : BookView _). Some b.founders) lent in
    let terms = sym (ap (λ (b : BookView _). b.capacity) lent) ∙ facts.capacity in
    let legal = subst (λ (b : BookView _). IsLegal s b.founders b.steps) lent facts.legal in
    no_room_so s g.J.Terms.founders g.J.Terms.capacity c.deref_mut.result.now founded terms legal c.commit_ready.result h.told
