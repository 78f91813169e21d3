use Rattle.std.proofs.Common.{◌≡◌, sym, ◌∙◌, subst}
use mathlib.Core.List.{IsPrefix}
use Rattle.rambo_names.proofs.Sizes.{up_fits, back_fits, variant_fits}
use Rattle.rambo_run.proofs.Lists.{some_inj}
use Rattle.rambo_run.specs.Legal.{IsLegal}
use Rattle.rambo_book.specs.Kept.{BookView}
use Rattle.rambo_post.proofs.post.Post.end.Goals as goal

pub drop-spare-requires-room-T-Destruct : goal.drop-spare-requires-room-T-Destruct
drop-spare-requires-room-T-Destruct g c κs within = back_fits _ _ _ (up_fits _ _ _ (back_fits _ _ _ (up_fits _ _ _ (variant_fits _ _ _ _ (back_fits _ _ _ (up_fits _ _ _ c.requires-raw.1.1.1.0))))))

pub drop-keepers-requires-room-T-Destruct : goal.drop-keepers-requires-room-T-Destruct
drop-keepers-requires-room-T-Destruct g c κs within = back_fits _ _ _ (up_fits _ _ _ (back_fits _ _ _ (up_fits _ _ _ (variant_fits _ _ _ _ (back_fits _ _ _ (up_fits _ _ _ c.requires-raw.1.1.1.0))))))

pub returns-clause-legal : goal.returns-clause-legal
returns-clause-legal g c = λ f e. subst (λ f. IsLegal g.Q.Quorums.system f c.end_in.result.all) (some_inj _ f (sym c.end_in.ensures.founders ∙ e)) c.end_in.ensures.legal

pub returns-clause-shown : goal.returns-clause-shown
returns-clause-shown g c = subst (IsPrefix c.args.shown) (sym c.end_in.ensures.all) (subst (λ (b : BookView _). IsPrefix c.args.shown b.steps) (sym c.begins.ensures.book) c.begins.ensures.begins)
