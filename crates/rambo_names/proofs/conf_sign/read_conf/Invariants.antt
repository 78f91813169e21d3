use Rattle.rambo_names.specs.Weights.{weight_of}
use Rattle.rambo_names.proofs.ReadSteps.{Reads}
use Rattle.rambo_names.proofs.conf_sign.read_conf.Given as goal

abbrev pub invariant-loop-place : goal.invariant-loop-place
invariant-loop-place l = Reads l.fn.bytes l.first (weight_of l.conf) l.rest l.place
