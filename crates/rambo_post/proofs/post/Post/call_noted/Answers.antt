use Rattle.std.proofs.Common.{Some, IfOk, sym, ap, ◌∙◌, subst}
use Rattle.rambo_names.proofs.Sizes.{up_fits, back_fits, variant_fits}
use Rattle.rambo_node.specs.declared.step.StepOf.TheVariants as step
use Rattle.rambo_node.specs.Acts.{Meant}
use Rattle.rambo_run.proofs.Lists.{some_inj}
use Rattle.rambo_book.specs.Kept.{KeeperView}
use Rattle.rambo_book.specs.Readying.{IsReadyFor}
use Rattle.rambo_pass.specs.Passes.{IsHalf}
use Rattle.rambo_pass.proofs.Acts.{called, caused}
use Rattle.rambo_pass.proofs.Halves.{half_of}
use Rattle.rambo_post.proofs.post.Post.call_noted.Goals as goal
use Rattle.rambo_post.proofs.post.Post.call_noted.Goals.{in-Ok, in_default}

pub keeper_of-keeper-requires : goal.keeper_of-keeper-requires
keeper_of-keeper-requires g c = let post = c.requires-raw.1.1.1.1.1.0 in (post, back_fits _ _ _ (up_fits _ _ _ (back_fits _ _ _ (up_fits _ _ _ (variant_fits _ _ _ _ (back_fits _ _ _ (up_fits _ _ _ post)))))))

pub ready-half-requires : goal.ready-half-requires
ready-half-requires g c =
    let post = c.requires-raw.1.1.1.1.1.0 in
    let name = ap (λ (k : KeeperView _). k.name) c.deref_mut.ensures.value ∙ c.keeper_of-keeper.ensures in
    (back_fits _ _ _ (up_fits _ _ _ (back_fits _ _ _ (up_fits _ _ _ (variant_fits _ _ _ _ (back_fits _ _ _ (up_fits _ _ _ post)))))), (λ f e m is. sym (ap (λ (m : Meant _). m.name) (some_inj _ m is)) ∙ sym name, λ number e. absurd cc))

pub call_in-called-requires : goal.call_in-called-requires
call_in-called-requires g c =
    let half = half_of g.Q.Quorums.system g.J.Terms.founders c.deref_mut.result.now c.ready-half.new.keeper (step.Call c.args.name c.args.op) c.ready-half.result c.ready-half.ensures.same
    (ap Some (sym (ap (λ (k : KeeperView _). k.name) c.deref_mut.ensures.value ∙ c.keeper_of-keeper.ensures))) c.ready-half.ensures.step c.ready-half.ensures.refused in
    let here = subst (λ k. IsHalf g.Q.Quorums.system g.J.Terms.founders k (step.Call c.args.name c.args.op) c.ready-half.result) (sym c.deref_mut-3.ensures.value) half in
    let post = c.requires-raw.1.1.1.1.1.0 in
    (back_fits _ _ _ (up_fits _ _ _ (back_fits _ _ _ (up_fits _ _ _ (variant_fits _ _ _ _ (back_fits _ _ _ (up_fits _ _ _ post)))))), (subst (λ k. IfOk c.ready-half.result (IsReadyFor g.Q.Quorums.system g.J.Terms.founders k)) (sym c.deref_mut-3.ensures.value) c.ready-half.ensures.ready, (c.args.op, here)))

pub drop-keeper-requires-room-T-Destruct : goal.drop-keeper-requires-room-T-Destruct
drop-keeper-requires-room-T-Destruct g c κs within = let post = c.requires-raw.1.1.1.1.1.0 in back_fits _ _ _ (up_fits _ _ _ (back_fits _ _ _ (up_fits _ _ _ (variant_fits _ _ _ _ (back_fits _ _ _ (up_fits _ _ _ post))))))

pub returns-clause-acted : goal.returns-clause-acted
returns-clause-acted g c =
    let h = c.call_in-called.ensures in
    let half = half_of g.Q.Quorums.system g.J.Terms.founders c.deref_mut.result.now c.ready-half.new.keeper (step.Call c.args.name c.args.op) c.ready-half.result c.ready-half.ensures.same
    (ap Some (sym (ap (λ (k : KeeperView _). k.name) c.deref_mut.ensures.value ∙ c.keeper_of-keeper.ensures))) c.ready-half.ensures.step c.ready-half.ensures.refused in
    let here = subst (λ k. IsHalf g.Q.Quorums.system g.J.Terms.founders k (step.Call c.args.name c.args.op) c.ready-half.result) (sym c.deref_mut-3.ensures.value) half in
    called g.Q.Quorums.system g.J.Terms.founders c.deref_mut-2.result.now c.call_in-called.result c.args.pass.now c.call_in-called.new.pass (step.Call c.args.name c.args.op) h.terms.0 h.between (h.last c.args.op here) h.legal (h.accepted c.args.op here) (h.effect c.args.op here) h.mine

pub returns-clause-cause : goal.returns-clause-cause
returns-clause-cause g c =
    let h = c.call_in-called.ensures in
    let half = half_of g.Q.Quorums.system g.J.Terms.founders c.deref_mut.result.now c.ready-half.new.keeper (step.Call c.args.name c.args.op) c.ready-half.result c.ready-half.ensures.same
    (ap Some (sym (ap (λ (k : KeeperView _). k.name) c.deref_mut.ensures.value ∙ c.keeper_of-keeper.ensures))) c.ready-half.ensures.step c.ready-half.ensures.refused in
    let here = subst (λ k. IsHalf g.Q.Quorums.system g.J.Terms.founders k (step.Call c.args.name c.args.op) c.ready-half.result) (sym c.deref_mut-3.ensures.value) half in
    caused g.Q.Quorums.system g.J.Terms.founders g.J.Terms.endless g.J.Terms.capacity c.deref_mut-2.result.now c.args.pass.now c.call_in-called.new.pass (step.Call c.args.name c.args.op) h.terms.0 h.terms.1 h.between h.before c.call_in-called.result (h.cause c.args.op here) h.shown

pub returns-clause-noted : goal.returns-clause-noted
returns-clause-noted g c = elim c.match-called.branch [
  | in-Ok w ↦ subst (λ r. IfOk r (λ id. g.F.FnOnce.post c.args.noted (id, tt) tt)) (sym w.in-Ok.is) w.noted.ensures
  | in_default w ↦ subst (λ r. IfOk r (λ id. g.F.FnOnce.post c.args.noted (id, tt) tt)) (sym w.in_default.is) tt
]
