use Rattle.std.proofs.lemmas.Grind.{common_steps}
use Rattle.std.proofs.Common.{◌≡◌, ℕ, List, [], Result, OnErr, refl, sym, ◌∙◌, append-nil, arith}
use Rattle.rambo_names.proofs.Errors.{err_ok, err_kept, on_err}
use Rattle.rambo_text.specs.Signs.{Grows}
use Rattle.rambo_outcome.proofs.Loops.{grows_on}
use Rattle.rambo_outcome.proofs.line.append_order.Goals as goal

-- what a refusal left as it was is still that text with more behind it
none : (start : List ℕ) → Grows start start
none start = ([], sym (append-nil start))

err_grows : {T E : Type 0} (r : Result T E) (start out new : List ℕ) → new ≡ out → Grows start out → OnErr r (Grows start new)
err_grows r start out new now front = on_err r (front.0, now ∙ front.1)

err_grown : {T E : Type 0} (r : Result T E) (start out new : List ℕ) → Grows out new → Grows start out → OnErr r (Grows start new)
err_grown r start out new more front = on_err r (grows_on start out new more.0 more.1 front)

pub returns-in_err-extend_from_slice-clause-ok : goal.returns-in_err-extend_from_slice-clause-ok
returns-in_err-extend_from_slice-clause-ok c = err_ok c.from_residual.result _ _ c.from_residual.ensures.1

pub returns-in_err-extend_from_slice-clause-err : goal.returns-in_err-extend_from_slice-clause-err
returns-in_err-extend_from_slice-clause-err c = err_grows c.from_residual.result _ _ _ c.in_err-extend_from_slice.ensures.items (none _)

pub returns-in_err-extend_from_slice-clause-refused : goal.returns-in_err-extend_from_slice-clause-refused
returns-in_err-extend_from_slice-clause-refused c = err_kept c.from_residual.result _ _ c.from_residual.ensures.1 refl

pub returns-in_err-append_calls-clause-ok : goal.returns-in_err-append_calls-clause-ok
returns-in_err-append_calls-clause-ok c = err_ok c.from_residual-in_err-append_calls.result _ _ c.from_residual-in_err-append_calls.ensures.1

pub returns-in_err-append_calls-clause-err : goal.returns-in_err-append_calls-clause-err
returns-in_err-append_calls-clause-err c = err_grown c.from_residual-in_err-append_calls.result _ _ _ c.in_err-append_calls.ensures.err (grows_on _ _ _ _ c.in_ok-extend_from_slice.ensures.items (none _))

pub returns-in_err-append_calls-clause-refused : goal.returns-in_err-append_calls-clause-refused
returns-in_err-append_calls-clause-refused c = err_kept c.from_residual-in_err-append_calls.result _ _ c.from_residual-in_err-append_calls.ensures.1 c.in_err-append_calls.ensures.refused

pub returns-in_err-push-clause-ok : goal.returns-in_err-push-clause-ok
returns-in_err-push-clause-ok c = err_ok c.from_residual-in_err-push.result _ _ c.from_residual-in_err-push.ensures.1

pub returns-in_err-push-clause-err : goal.returns-in_err-push-clause-err
returns-in_err-push-clause-err c = err_grows c.from_residual-in_err-push.result _ _ _ c.in_err-push.ensures.items (grows_on _ _ _ _ c.in_ok-append_calls.ensures.ok (grows_on _ _ _ _ c.in_ok-extend_from_slice.ensures.items (none _)))

pub returns-in_err-push-clause-refused : goal.returns-in_err-push-clause-refused
returns-in_err-push-clause-refused c = err_kept c.from_residual-in_err-push.result _ _ c.from_residual-in_err-push.ensures.1 refl

pub returns-clause-ok : goal.returns-clause-ok
returns-clause-ok c = grind (arith, common_steps)

pub returns-clause-err : goal.returns-clause-err
returns-clause-err c = assumption

pub returns-clause-refused : goal.returns-clause-refused
returns-clause-refused c = assumption
