use Rattle.std.proofs.Common.{IfOk, sym, ap, ◌∙◌, subst}
use Rattle.rambo_names.proofs.Sizes.{up_fits, back_fits, variant_fits}
use Rattle.rambo_node.specs.Acts.{Meant}
use Rattle.rambo_run.proofs.Lists.{some_inj}
use Rattle.rambo_book.specs.Kept.{KeeperView}
use Rattle.rambo_book.specs.Readying.{IsReadyFor}
use Rattle.rambo_node.specs.declared.step.StepOf.TheVariants as step
use Rattle.rambo_visit.proofs.Happenings.{sent_so, unsent_so}
use Rattle.rambo_post.proofs.post.Post.send.Goals as goal

pub keeper_of-keeper-requires : goal.keeper_of-keeper-requires
keeper_of-keeper-requires g c = let post = c.requires-raw.1.1.1.1 in (post, back_fits _ _ _ (up_fits _ _ _ (back_fits _ _ _ (up_fits _ _ _ (variant_fits _ _ _ _ (back_fits _ _ _ (up_fits _ _ _ post)))))))

pub ready-half-requires : goal.ready-half-requires
ready-half-requires g c =
    let post = c.requires-raw.1.1.1.1 in
    let name = ap (λ (k : KeeperView _). k.name) c.deref_mut.ensures.value ∙ c.keeper_of-keeper.ensures in
    (back_fits _ _ _ (up_fits _ _ _ (back_fits _ _ _ (up_fits _ _ _ (variant_fits _ _ _ _ (back_fits _ _ _ (up_fits _ _ _ post)))))), (λ f e m is. sym (ap (λ (m : Meant _). m.name) (some_inj _ m is)) ∙ sym name, λ number e. absurd cc))

pub send_in-requires : goal.send_in-requires
send_in-requires g c =
    let post = c.requires-raw.1.1.1.1 in
    let name = ap (λ (k : KeeperView _). k.name) (c.deref_mut-3.ensures.value ∙ c.ready-half.ensures.same) ∙ ap (λ (k : KeeperView _). k.name) c.deref_mut.ensures.value ∙ c.keeper_of-keeper.ensures in
    (back_fits _ _ _ (up_fits _ _ _ (back_fits _ _ _ (up_fits _ _ _ (variant_fits _ _ _ _ (back_fits _ _ _ (up_fits _ _ _ post)))))), (name, (c.ready-half.ensures.step, subst (λ k. IfOk c.ready-half.result (IsReadyFor g.Q.Quorums.system g.J.Terms.founders k)) (sym c.deref_mut-3.ensures.value) c.ready-half.ensures.ready)))

pub drop-keeper-requires-room-T-Destruct : goal.drop-keeper-requires-room-T-Destruct
drop-keeper-requires-room-T-Destruct g c κs within = let post = c.requires-raw.1.1.1.1 in back_fits _ _ _ (up_fits _ _ _ (back_fits _ _ _ (up_fits _ _ _ (variant_fits _ _ _ _ (back_fits _ _ _ (up_fits _ _ _ post))))))

pub returns-clause-sent : goal.returns-clause-sent
returns-clause-sent g c =
    let h = c.send_in.ensures in
    sent_so g.Q.Quorums.system g.J.Terms.founders g.J.Terms.capacity c.deref_mut-2.result.now h.terms.0 h.terms.1 h.before c.send_in.result (step.Send c.args.from c.args.to) h.accepted h.room h.effect

pub returns-clause-told : goal.returns-clause-told
returns-clause-told g c =
    let h = c.send_in.ensures in
    unsent_so g.Q.Quorums.system g.J.Terms.founders g.J.Terms.capacity c.deref_mut-2.result.now h.terms.0 h.terms.1 h.before c.send_in.result (step.Send c.args.from c.args.to) h.fits h.told

pub is_open-asks-requires : goal.is_open-asks-requires
is_open-asks-requires g c = back_fits _ _ _ (up_fits _ _ _ (back_fits _ _ _ (up_fits _ _ _ (variant_fits _ _ _ _ (back_fits _ _ _ (up_fits _ _ _ c.requires-raw.1.1.1.1))))))
