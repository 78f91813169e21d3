use Rattle.std.specs.FinSet.{empty}
use Rattle.std.proofs.Common.{rules}
use Rattle.rambo_names.specs.Weights.{evenly}
use Rattle.rambo_node.specs.declared.step.StepOf.TheVariants as step
use Rattle.rambo_lines.proofs.Fitting.{is_word, step_fault}
use Rattle.rambo_lines.proofs.reading.read_quiet.Goals as goal

pub returns-in_err-name-clause-fault : goal.returns-in_err-name-clause-fault
returns-in_err-name-clause-fault c = search (rules, step_fault (step.Join 0 empty) c.args.word.now _ _ c.in_err-name.ensures.fault (is_word _ _ _ c.as_slice.ensures c.if-eq.ensures))

pub returns-in_err-called-clause-fault : goal.returns-in_err-called-clause-fault
returns-in_err-called-clause-fault c = search (rules, step_fault (step.Again (record { name = 0; number = 0 })) c.args.word.now _ _ c.in_err-called.ensures.fault (is_word _ _ _ c.as_slice-2.ensures c.if-eq-2.ensures))

pub returns-in_err-named-clause-fault : goal.returns-in_err-named-clause-fault
returns-in_err-named-clause-fault c = search (rules, step_fault (step.Collect 0) c.args.word.now _ _ c.in_err-named.ensures.fault (is_word _ _ _ c.as_slice-3.ensures c.if-eq-3.ensures))

pub returns-in_err-named-2-clause-fault : goal.returns-in_err-named-2-clause-fault
returns-in_err-named-2-clause-fault c = search (rules, step_fault (step.AdvanceCollect 0) c.args.word.now _ _ c.in_err-named-2.ensures.fault (is_word _ _ _ c.as_slice-4.ensures c.if-eq-4.ensures))

pub returns-in_err-name-2-clause-fault : goal.returns-in_err-name-2-clause-fault
returns-in_err-name-2-clause-fault c = search (rules, step_fault (step.Recon 0 (evenly empty)) c.args.word.now _ _ c.in_err-name-2.ensures.fault (is_word _ _ _ c.as_slice-5.ensures c.if-eq-5.ensures))

pub returns-in_err-named-3-clause-fault : goal.returns-in_err-named-3-clause-fault
returns-in_err-named-3-clause-fault c = search (rules, step_fault (step.Rebid 0) c.args.word.now _ _ c.in_err-named-3.ensures.fault (is_word _ _ _ c.as_slice-6.ensures c.if-eq-6.ensures))

pub returns-in_err-named-4-clause-fault : goal.returns-in_err-named-4-clause-fault
returns-in_err-named-4-clause-fault c = search (rules, step_fault (step.AdvanceRecon 0) c.args.word.now _ _ c.in_err-named-4.ensures.fault (is_word _ _ _ c.as_slice-7.ensures c.if-eq-7.ensures))

pub returns-in_err-named-5-clause-fault : goal.returns-in_err-named-5-clause-fault
returns-in_err-named-5-clause-fault c = search (rules, step_fault (step.Stop 0) c.args.word.now _ _ c.in_err-named-5.ensures.fault (is_word _ _ _ c.as_slice-8.ensures c.if-eq-8.ensures))
