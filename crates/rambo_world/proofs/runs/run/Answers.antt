use Rattle.rambo_run.proofs.EveryRun.{agrees}
use Rattle.rambo_world.proofs.Fitting.{running_fits}
use Rattle.rambo_world.proofs.Longer.{run_outcome, told_proper, outcome_ordered, outcome_explained}
use Rattle.rambo_world.proofs.Turns.{err_alone}
use Rattle.rambo_world.proofs.runs.run.Goals as goal

pub new-requires-2 : goal.new-requires-2
new-requires-2 g c = running_fits g.row.Q g.Q.Quorums g.Q.PartialEq (record { copies = λ r. r.copies; stamps = λ r. r.stamps; spare = λ r. r.spare }) g.met.Q.Quorums.small

pub finish-requires : goal.finish-requires
finish-requires g c = running_fits g.row.Q g.Q.Quorums g.Q.PartialEq (record { copies = λ r. r.copies; stamps = λ r. r.stamps; spare = λ r. r.spare }) g.met.Q.Quorums.small

pub returns-clause-outcome : goal.returns-clause-outcome
returns-clause-outcome g c = run_outcome g.Q.Quorums.system c.args.founders c.args.steps.now c.in_ok-new.field-0 c.finish.result c.in_ok-new.ensures.made c.finish.ensures.outcome

pub returns-clause-proper : goal.returns-clause-proper
returns-clause-proper g c = told_proper g.Q.Quorums.system g.met.Q.Quorums.sound c.args.founders c.args.steps.now c.finish.result (returns-clause-outcome g c)

pub returns-clause-ordered : goal.returns-clause-ordered
returns-clause-ordered g c = outcome_ordered g.Q.Quorums.system g.met.Q.Quorums.sound c.args.founders c.args.steps.now c.finish.result (returns-clause-outcome g c)

pub returns-clause-explained : goal.returns-clause-explained
returns-clause-explained g c = outcome_explained g.Q.Quorums.system g.met.Q.Quorums.sound c.args.founders c.args.steps.now c.finish.result (returns-clause-outcome g c)

pub returns-clause-refused : goal.returns-clause-refused
returns-clause-refused g c = err_alone c.finish.result _ c.in_ok-new.ensures.founded c.finish.ensures.refused

pub returns-clause-agreed : goal.returns-clause-agreed
returns-clause-agreed g c = agrees g.Q.Quorums.system g.met.Q.Quorums.sound c.args.founders c.args.steps.now

pub returns-in_err-new-clause-agreed : goal.returns-in_err-new-clause-agreed
returns-in_err-new-clause-agreed g c = agrees g.Q.Quorums.system g.met.Q.Quorums.sound c.args.founders c.args.steps.now
