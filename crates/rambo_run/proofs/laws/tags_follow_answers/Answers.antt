use Rattle.rambo_run.proofs.TagClaims.{tags_follow_answers}
use Rattle.rambo_run.proofs.laws.tags_follow_answers.Goals as goal

pub returns : goal.returns
returns g c = record { follow = tags_follow_answers g.Q.Quorums.system g.met.Q.Quorums.sound }
