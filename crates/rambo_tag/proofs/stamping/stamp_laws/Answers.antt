use Rattle.rambo_tag.proofs.StampLaws.{since_is_enough, all_since_zero, merges_are_stamped, short_is_alike}
use Rattle.rambo_tag.proofs.stamping.stamp_laws.Goals as goal

pub returns-clause-enough : goal.returns-clause-enough
returns-clause-enough c = since_is_enough

pub returns-clause-all : goal.returns-clause-all
returns-clause-all c = all_since_zero

pub returns-clause-stamped : goal.returns-clause-stamped
returns-clause-stamped c = merges_are_stamped

pub returns-clause-short : goal.returns-clause-short
returns-clause-short c = short_is_alike
