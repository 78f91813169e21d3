use Rattle.std.proofs.Common.{◌≡◌, ℕ, List, [], Result, OnErr, refl, sym, ◌∙◌, append-nil}
use Rattle.rambo_names.proofs.Errors.{err_ok, err_kept, on_err}
use Rattle.rambo_text.specs.Signs.{Grows}
use Rattle.rambo_outcome.proofs.Loops.{grows_on}
use Rattle.rambo_outcome.proofs.line.append_refused.Goals as goal

-- what a refusal left as it was is still that text with more behind it
none : (start : List ℕ) → Grows start start
none start = ([], sym (append-nil start))

err_grows : {T E : Type 0} (r : Result T E) (start out new : List ℕ) → new ≡ out → Grows start out → OnErr r (Grows start new)
err_grows r start out new now front = on_err r (front.0, now ∙ front.1)

pub returns-in_err-extend_from_slice-clause-ok : goal.returns-in_err-extend_from_slice-clause-ok
returns-in_err-extend_from_slice-clause-ok c = err_ok c.from_residual.result _ _ c.from_residual.ensures.1

pub returns-in_err-extend_from_slice-clause-err : goal.returns-in_err-extend_from_slice-clause-err
returns-in_err-extend_from_slice-clause-err c = err_grows c.from_residual.result _ _ _ c.in_err-extend_from_slice.ensures.items (none _)

pub returns-in_err-extend_from_slice-clause-refused : goal.returns-in_err-extend_from_slice-clause-refused
returns-in_err-extend_from_slice-clause-refused c = err_kept c.from_residual.result _ _ c.from_residual.ensures.1 refl

pub returns-in_err-write_num-clause-ok : goal.returns-in_err-write_num-clause-ok
returns-in_err-write_num-clause-ok c = err_ok c.from_residual-in_err-write_num.result _ _ c.from_residual-in_err-write_num.ensures.1

pub returns-in_err-write_num-clause-err : goal.returns-in_err-write_num-clause-err
returns-in_err-write_num-clause-err c = err_grows c.from_residual-in_err-write_num.result _ _ _ c.in_err-write_num.ensures.err (grows_on _ _ _ _ c.in_ok-extend_from_slice.ensures.items (none _))

pub returns-in_err-write_num-clause-refused : goal.returns-in_err-write_num-clause-refused
returns-in_err-write_num-clause-refused c = err_kept c.from_residual-in_err-write_num.result _ _ c.from_residual-in_err-write_num.ensures.1 refl

pub returns-in_err-push-clause-ok : goal.returns-in_err-push-clause-ok
returns-in_err-push-clause-ok c = err_ok c.from_residual-in_err-push.result _ _ c.from_residual-in_err-push.ensures.1

pub returns-in_err-push-clause-err : goal.returns-in_err-push-clause-err
returns-in_err-push-clause-err c = err_grows c.from_residual-in_err-push.result _ _ _ c.in_err-push.ensures.items (grows_on _ _ _ _ c.in_ok-write_num.ensures.ok (grows_on _ _ _ _ c.in_ok-extend_from_slice.ensures.items (none _)))

pub returns-in_err-push-clause-refused : goal.returns-in_err-push-clause-refused
returns-in_err-push-clause-refused c = err_kept c.from_residual-in_err-push.result _ _ c.from_residual-in_err-push.ensures.1 refl

pub returns-in_err-write_num-2-clause-ok : goal.returns-in_err-write_num-2-clause-ok
returns-in_err-write_num-2-clause-ok c = err_ok c.from_residual-in_err-write_num-2.result _ _ c.from_residual-in_err-write_num-2.ensures.1

pub returns-in_err-write_num-2-clause-err : goal.returns-in_err-write_num-2-clause-err
returns-in_err-write_num-2-clause-err c = err_grows c.from_residual-in_err-write_num-2.result _ _ _ c.in_err-write_num-2.ensures.err (grows_on _ _ _ _ c.in_ok-push.ensures.items (grows_on _ _ _ _ c.in_ok-write_num.ensures.ok (grows_on _ _ _ _ c.in_ok-extend_from_slice.ensures.items (none _))))

pub returns-in_err-write_num-2-clause-refused : goal.returns-in_err-write_num-2-clause-refused
returns-in_err-write_num-2-clause-refused c = err_kept c.from_residual-in_err-write_num-2.result _ _ c.from_residual-in_err-write_num-2.ensures.1 refl

pub returns-in_err-push-2-clause-ok : goal.returns-in_err-push-2-clause-ok
returns-in_err-push-2-clause-ok c = err_ok c.from_residual-in_err-push-2.result _ _ c.from_residual-in_err-push-2.ensures.1

pub returns-in_err-push-2-clause-err : goal.returns-in_err-push-2-clause-err
returns-in_err-push-2-clause-err c = err_grows c.from_residual-in_err-push-2.result _ _ _ c.in_err-push-2.ensures.items (grows_on _ _ _ _ c.in_ok-write_num-2.ensures.ok (grows_on _ _ _ _ c.in_ok-push.ensures.items (grows_on _ _ _ _ c.in_ok-write_num.ensures.ok (grows_on _ _ _ _ c.in_ok-extend_from_slice.ensures.items (none _)))))

pub returns-in_err-push-2-clause-refused : goal.returns-in_err-push-2-clause-refused
returns-in_err-push-2-clause-refused c = err_kept c.from_residual-in_err-push-2.result _ _ c.from_residual-in_err-push-2.ensures.1 refl

pub returns-clause-err : goal.returns-clause-err
returns-clause-err c = assumption

pub returns-clause-refused : goal.returns-clause-refused
returns-clause-refused c = assumption
