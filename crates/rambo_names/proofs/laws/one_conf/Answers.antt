use Rattle.rambo_names.proofs.ConfOnce.{one_conf_is}
use Rattle.rambo_names.proofs.laws.one_conf.Goals as goal

pub returns : goal.returns
returns c = one_conf_is
