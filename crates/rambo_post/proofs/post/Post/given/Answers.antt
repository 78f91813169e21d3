use Rattle.rambo_pass.proofs.Taken.{given_of, why_ungiven}
use Rattle.rambo_post.proofs.post.Post.given.Goals as goal

pub returns-clause-given : goal.returns-clause-given
returns-clause-given g c =
    given_of g.Q.Quorums.system g.J.Terms.founders g.J.Terms.endless c.deref_mut.result.now c.args.pass.now c.take_given.new.pass c.args.id.now c.take_given.ensures.founders c.take_given.result c.take_given.ensures.seen c.take_given.ensures.legal c.take_given.ensures.answer

pub returns-clause-cause : goal.returns-clause-cause
returns-clause-cause g c =
    why_ungiven g.Q.Quorums.system g.J.Terms.founders g.J.Terms.endless c.deref_mut.result.now c.args.pass.now c.take_given.new.pass c.args.id.now c.take_given.ensures.founders c.take_given.result c.take_given.ensures.legal c.take_given.ensures.answered c.take_given.ensures.cause
