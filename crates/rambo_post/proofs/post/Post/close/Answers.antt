use Rattle.std.proofs.Common.{◌≡◌, sym, ◌∙◌, subst}
use Rattle.rambo_names.proofs.Sizes.{up_fits, back_fits, variant_fits}
use Rattle.rambo_run.proofs.Lists.{some_inj}
use Rattle.rambo_history.specs.Proper.{IsProperForAll}
use Rattle.rambo_run.specs.Legal.{IsLegal}
use Rattle.rambo_run.specs.Runs.{run, given_order}
use Rattle.rambo_post.proofs.Closings.{left_order}
use Rattle.rambo_post.proofs.post.Post.close.Goals as goal

pub drop-spare-requires-room-T-Destruct : goal.drop-spare-requires-room-T-Destruct
drop-spare-requires-room-T-Destruct g c κs within = back_fits _ _ _ (up_fits _ _ _ (back_fits _ _ _ (up_fits _ _ _ (variant_fits _ _ _ _ (back_fits _ _ _ (up_fits _ _ _ c.requires-raw.1.1.1.0))))))

pub drop-keepers-requires-room-T-Destruct : goal.drop-keepers-requires-room-T-Destruct
drop-keepers-requires-room-T-Destruct g c κs within = back_fits _ _ _ (up_fits _ _ _ (back_fits _ _ _ (up_fits _ _ _ (variant_fits _ _ _ _ (back_fits _ _ _ (up_fits _ _ _ c.requires-raw.1.1.1.0))))))

pub returns-clause-legal : goal.returns-clause-legal
returns-clause-legal g c = λ f e. subst (λ f. IsLegal g.Q.Quorums.system f c.close_in.result.steps) (some_inj _ f (sym c.close_in.ensures.founders ∙ e)) c.close_in.ensures.legal

pub returns-clause-order : goal.returns-clause-order
returns-clause-order g c =
    let h = c.close_in.ensures in
    left_order g.J.Terms.founders c.into_inner.result.founders c.into_inner.result.steps c.close_in.result.steps c.close_in.result.order (λ f l o. o ≡ given_order (run g.Q.Quorums.system f l)) h.founders h.all h.order

pub returns-clause-explained : goal.returns-clause-explained
returns-clause-explained g c =
    let h = c.close_in.ensures in
    left_order g.J.Terms.founders c.into_inner.result.founders c.into_inner.result.steps c.close_in.result.steps c.close_in.result.order (λ f l o. IsProperForAll (run g.Q.Quorums.system f l).history o) h.founders h.all h.explained
