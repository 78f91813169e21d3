use Rattle.std.proofs.Common.{ap, ◌∙◌}
use Rattle.rambo_names.proofs.Sizes.{up_fits, back_fits, variant_fits}
use Rattle.rambo_book.specs.Kept.{KeeperView}
use Rattle.rambo_pass.proofs.Taken.{legal_of, answer_of, going_of, why_not}
use Rattle.rambo_post.proofs.post.Post.ungiven.Goals as goal

pub keeper_of-keeper-requires : goal.keeper_of-keeper-requires
keeper_of-keeper-requires g c = (c.requires-raw.1.1.1.1, back_fits _ _ _ (up_fits _ _ _ (back_fits _ _ _ (up_fits _ _ _ (variant_fits _ _ _ _ (back_fits _ _ _ (up_fits _ _ _ c.requires-raw.1.1.1.1)))))))

pub take_in-requires : goal.take_in-requires
take_in-requires g c = (back_fits _ _ _ (up_fits _ _ _ (back_fits _ _ _ (up_fits _ _ _ (variant_fits _ _ _ _ (back_fits _ _ _ (up_fits _ _ _ c.requires-raw.1.1.1.1)))))), ap (λ (k : KeeperView _). k.name) c.deref_mut-2.ensures.value ∙ c.keeper_of-keeper.ensures)

pub drop-keeper-requires-room-T-Destruct : goal.drop-keeper-requires-room-T-Destruct
drop-keeper-requires-room-T-Destruct g c κs within = back_fits _ _ _ (up_fits _ _ _ (back_fits _ _ _ (up_fits _ _ _ (variant_fits _ _ _ _ (back_fits _ _ _ (up_fits _ _ _ c.requires-raw.1.1.1.1))))))

pub returns-clause-legal : goal.returns-clause-legal
returns-clause-legal g c = legal_of g.Q.Quorums.system g.J.Terms.founders g.J.Terms.endless c.deref_mut.result.now c.args.pass.now c.take_in.new.pass c.args.id c.take_in.ensures.founders c.take_in.result c.take_in.ensures.legal

pub returns-clause-answer : goal.returns-clause-answer
returns-clause-answer g c = answer_of g.Q.Quorums.system g.J.Terms.founders g.J.Terms.endless c.deref_mut.result.now c.args.pass.now c.take_in.new.pass c.args.id c.take_in.ensures.founders c.take_in.result c.take_in.ensures.seen c.take_in.ensures.answer

pub returns-clause-cause : goal.returns-clause-cause
returns-clause-cause g c = why_not g.Q.Quorums.system g.J.Terms.founders g.J.Terms.endless c.deref_mut.result.now c.args.pass.now c.take_in.new.pass c.args.id c.take_in.ensures.founders c.take_in.result c.take_in.ensures.before c.take_in.ensures.answered c.take_in.ensures.cause

pub returns-clause-going : goal.returns-clause-going
returns-clause-going g c = going_of g.Q.Quorums.system g.J.Terms.founders g.J.Terms.endless c.deref_mut.result.now c.args.pass.now c.take_in.new.pass c.args.id c.take_in.ensures.founders c.take_in.result c.take_in.ensures.seen c.take_in.ensures.going
