use Rattle.std.proofs.Common.{rules, []}
use Rattle.std.proofs.lemmas.Result.{IfErr-weaker}
use Rattle.rambo_names.proofs.Errors.{err_kept}
use Rattle.rambo_history.specs.declared.operation.Op.TheVariants as op
use Rattle.rambo_node.specs.declared.step.StepOf.TheVariants as step
use Rattle.rambo_lines.proofs.Fitting.{BeginsNone, is_word, step_fault, call_fault, other_fault}
use Rattle.rambo_lines.proofs.reading.read_words.Goals as goal

pub returns-in_err-name-clause-fault : goal.returns-in_err-name-clause-fault
returns-in_err-name-clause-fault c = err_kept _ _ _ c.from_residual.ensures.1 (call_fault 0 (op.Get []) c.args.word.now _ _ c.in_err-name.ensures.fault (is_word _ _ _ c.as_slice.ensures c.if-eq.ensures))

pub returns-in_err-name-2-clause-fault : goal.returns-in_err-name-2-clause-fault
returns-in_err-name-2-clause-fault c = err_kept _ _ _ c.from_residual-in_err-name-2.ensures.1 (call_fault 0 (op.Set [] []) c.args.word.now _ _ c.in_err-name-2.ensures.fault (is_word _ _ _ c.as_slice-2.ensures c.if-eq-2.ensures))

pub returns-in_err-from-clause-fault : goal.returns-in_err-from-clause-fault
returns-in_err-from-clause-fault c = search (rules, step_fault (step.Send 0 0) c.args.word.now _ _ c.in_err-from.ensures.fault (is_word _ _ _ c.as_slice-3.ensures c.if-eq-3.ensures))

pub returns-in_err-numbered-clause-fault : goal.returns-in_err-numbered-clause-fault
returns-in_err-numbered-clause-fault c = search (rules, step_fault (step.Deliver 0) c.args.word.now _ _ c.in_err-numbered.ensures.fault (is_word _ _ _ c.as_slice-4.ensures c.if-eq-4.ensures))

pub returns-in_err-called-clause-fault : goal.returns-in_err-called-clause-fault
returns-in_err-called-clause-fault c = search (rules, step_fault (step.Advance (record { name = 0; number = 0 })) c.args.word.now _ _ c.in_err-called.ensures.fault (is_word _ _ _ c.as_slice-5.ensures c.if-eq-5.ensures))

pub returns-clause-fault : goal.returns-clause-fault
returns-clause-fault c =
    let other : BeginsNone c.args.word.now = (search rules, search rules, search rules, search rules, search rules) in
    IfErr-weaker c.read_quiet.result _ _ (λ f. other_fault c.args.word.now _ f other) c.read_quiet.ensures.fault
