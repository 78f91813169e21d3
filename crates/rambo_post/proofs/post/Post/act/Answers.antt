use Rattle.std.proofs.Common.{◌≡◌, false, Some, IfOk, sym, ap, ◌∙◌, subst}
use Rattle.rambo_names.proofs.Sizes.{up_fits, back_fits, variant_fits}
use Rattle.std.specs.Sync.Mutex.{mutex_guard_value}
use Rattle.rambo_book.specs.Kept.{KeeperView, IsServedBy, state}
use Rattle.rambo_book.specs.Windows.{delivers_gone, gone_of}
use Rattle.rambo_book.specs.Readying.{IsReadyFor}
use Rattle.rambo_pass.specs.Passes.{IsHalf}
use Rattle.rambo_pass.proofs.Acts.{acted, caused, told_named}
use Rattle.rambo_pass.proofs.Halves.{half_of, own_name, no_delivery}
use Rattle.rambo_post.proofs.post.Post.act.Goals as goal

pub both-keeper-requires : goal.both-keeper-requires
both-keeper-requires g c = let post = c.requires-raw.1.1.1.1 in (post, back_fits _ _ _ (up_fits _ _ _ (back_fits _ _ _ (up_fits _ _ _ (variant_fits _ _ _ _ (back_fits _ _ _ (up_fits _ _ _ post)))))))

pub act_in-requires : goal.act_in-requires
act_in-requires g c =
    let post = c.requires-raw.1.1.1.1 in (
      back_fits _ _ _ (up_fits _ _ _ (back_fits _ _ _ (up_fits _ _ _ (variant_fits _ _ _ _ (back_fits _ _ _ (up_fits _ _ _ post)))))),
      subst (λ b. delivers_gone (gone_of g.J.Terms.endless g.J.Terms.capacity (state g.Q.Quorums.system b)) c.args.step ≡ false → IsServedBy (state g.Q.Quorums.system b) c.args.step c.deref_mut-in_default.result.now.name) (sym c.deref_mut.ensures.value)
          (subst (λ (k : KeeperView _). delivers_gone (gone_of g.J.Terms.endless g.J.Terms.capacity (state g.Q.Quorums.system (mutex_guard_value c.both-keeper.result.1))) c.args.step ≡ false → IsServedBy (state g.Q.Quorums.system (mutex_guard_value c.both-keeper.result.1)) c.args.step k.name) (sym c.deref_mut-in_default.ensures.value) c.both-keeper.ensures),
    )

pub drop-keeper-requires-room-T-Destruct : goal.drop-keeper-requires-room-T-Destruct
drop-keeper-requires-room-T-Destruct g c κs within = let post = c.requires-raw.1.1.1.1 in back_fits _ _ _ (up_fits _ _ _ (back_fits _ _ _ (up_fits _ _ _ (variant_fits _ _ _ _ (back_fits _ _ _ (up_fits _ _ _ post))))))

pub drop-keeper-requires-2-room-T-Destruct : goal.drop-keeper-requires-2-room-T-Destruct
drop-keeper-requires-2-room-T-Destruct g c κs within = let post = c.requires-raw.1.1.1.1 in back_fits _ _ _ (up_fits _ _ _ (back_fits _ _ _ (up_fits _ _ _ (variant_fits _ _ _ _ (back_fits _ _ _ (up_fits _ _ _ post))))))

pub returns-in_default-clause-acted : goal.returns-in_default-clause-acted
returns-in_default-clause-acted g c =
    let h = c.act_in.ensures in
    acted g.Q.Quorums.system g.J.Terms.founders c.deref_mut.result.now c.act_in.result c.args.pass.now c.act_in.new.pass c.args.step h.terms.0 h.between h.last h.legal h.accepted h.effect h.mine

pub returns-in_default-clause-cause : goal.returns-in_default-clause-cause
returns-in_default-clause-cause g c =
    let h = c.act_in.ensures in
    caused g.Q.Quorums.system g.J.Terms.founders g.J.Terms.endless g.J.Terms.capacity c.deref_mut.result.now c.args.pass.now c.act_in.new.pass c.args.step h.terms.0 h.terms.1 h.between h.before c.act_in.result h.cause h.shown

pub keeper_of-keeper-requires : goal.keeper_of-keeper-requires
keeper_of-keeper-requires g c = let post = c.requires-raw.1.1.1.1 in (post, back_fits _ _ _ (up_fits _ _ _ (back_fits _ _ _ (up_fits _ _ _ (variant_fits _ _ _ _ (back_fits _ _ _ (up_fits _ _ _ post)))))))

pub ready-half-requires : goal.ready-half-requires
ready-half-requires g c =
    let post = c.requires-raw.1.1.1.1 in
    let named = sym c.in-Some.ensures in
    let name = ap (λ (k : KeeperView _). k.name) c.deref_mut-2.ensures.value ∙ c.keeper_of-keeper.ensures in
    (back_fits _ _ _ (up_fits _ _ _ (back_fits _ _ _ (up_fits _ _ _ (variant_fits _ _ _ _ (back_fits _ _ _ (up_fits _ _ _ post)))))), (λ f e m is. own_name c.args.step c.in-Some.name m named is ∙ sym name, λ number e. no_delivery c.args.step c.in-Some.name number named e))

pub act_ready_in-requires : goal.act_ready_in-requires
act_ready_in-requires g c =
    let post = c.requires-raw.1.1.1.1 in
    (back_fits _ _ _ (up_fits _ _ _ (back_fits _ _ _ (up_fits _ _ _ (variant_fits _ _ _ _ (back_fits _ _ _ (up_fits _ _ _ post)))))), c.asking_if-half.ensures.ready g.J.Terms.founders c.deref_mut-4.result.now (subst (λ k. IfOk c.ready-half.result (IsReadyFor g.Q.Quorums.system g.J.Terms.founders k)) (sym c.deref_mut-4.ensures.value) c.ready-half.ensures.ready))

pub returns-clause-acted : goal.returns-clause-acted
returns-clause-acted g c =
    let h = c.act_ready_in.ensures in
    let named = sym c.in-Some.ensures in
    let name = ap (λ (k : KeeperView _). k.name) c.deref_mut-2.ensures.value ∙ c.keeper_of-keeper.ensures in
    let half = half_of g.Q.Quorums.system g.J.Terms.founders c.deref_mut-2.result.now c.ready-half.new.keeper c.args.step c.ready-half.result c.ready-half.ensures.same (named ∙ ap Some (sym name)) c.ready-half.ensures.step c.ready-half.ensures.refused in
    let here = c.asking_if-half.ensures.half g.J.Terms.founders c.deref_mut-4.result.now c.args.step (subst (λ k. IsHalf g.Q.Quorums.system g.J.Terms.founders k c.args.step c.ready-half.result) (sym c.deref_mut-4.ensures.value) half) in
    acted g.Q.Quorums.system g.J.Terms.founders c.deref_mut-3.result.now c.act_ready_in.result c.args.pass.now c.act_ready_in.new.pass c.args.step h.terms.0 h.between (h.last c.args.step here) h.legal (h.accepted c.args.step here) (h.effect c.args.step here) h.mine

pub returns-clause-cause : goal.returns-clause-cause
returns-clause-cause g c =
    let h = c.act_ready_in.ensures in
    let named = sym c.in-Some.ensures in
    let name = ap (λ (k : KeeperView _). k.name) c.deref_mut-2.ensures.value ∙ c.keeper_of-keeper.ensures in
    let half = half_of g.Q.Quorums.system g.J.Terms.founders c.deref_mut-2.result.now c.ready-half.new.keeper c.args.step c.ready-half.result c.ready-half.ensures.same (named ∙ ap Some (sym name)) c.ready-half.ensures.step c.ready-half.ensures.refused in
    let here = c.asking_if-half.ensures.half g.J.Terms.founders c.deref_mut-4.result.now c.args.step (subst (λ k. IsHalf g.Q.Quorums.system g.J.Terms.founders k c.args.step c.ready-half.result) (sym c.deref_mut-4.ensures.value) half) in
    caused g.Q.Quorums.system g.J.Terms.founders g.J.Terms.endless g.J.Terms.capacity c.deref_mut-3.result.now c.args.pass.now c.act_ready_in.new.pass c.args.step h.terms.0 h.terms.1 h.between h.before c.act_ready_in.result (told_named g.Q.Quorums.system g.J.Terms.endless g.J.Terms.capacity (state g.Q.Quorums.system c.deref_mut-3.result.now) c.args.step c.in-Some.name _ _ c.act_ready_in.result named (h.cause c.args.step here)) h.shown

pub is_open-requires : goal.is_open-requires
is_open-requires g c = back_fits _ _ _ (up_fits _ _ _ (back_fits _ _ _ (up_fits _ _ _ (variant_fits _ _ _ _ (back_fits _ _ _ (up_fits _ _ _ c.requires-raw.1.1.1.1))))))
