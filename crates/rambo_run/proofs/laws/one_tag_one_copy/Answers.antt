use Rattle.rambo_run.proofs.TagClaims.{one_tag_one_copy}
use Rattle.rambo_run.proofs.laws.one_tag_one_copy.Goals as goal

pub returns : goal.returns
returns g c = record { copy = one_tag_one_copy g.Q.Quorums.system }
