-- Errors that are handed on
use Rattle.std.proofs.Common.{Result, Ok, Err, ◌≡◌, sym, subst}
use Rattle.std.specs.Prelude.{OnOk, OnErr, IfOk, IfErr, IsErrAnd}

-- what is said of an error is said of the one that it is handed on as
pub err_kept : {T E : Type 0} (r : Result T E) (P : E → Type 0) (e : E) → IsErrAnd r (λ x. x ≡ e) → P e → IfErr r P
err_kept (Ok x) P e is p = tt
err_kept (Err x) P e is p = subst P (sym is) p

-- what is said of a success is true of every error
pub err_ok : {T E : Type 0} (r : Result T E) (Q : E → Type 0) (P : Type 0) → IsErrAnd r Q → OnOk r P
err_ok (Ok x) Q P is = elim is [ ]
err_ok (Err x) Q P is = tt

pub err_if_ok : {T E : Type 0} (r : Result T E) (Q : E → Type 0) (P : T → Type 0) → IsErrAnd r Q → IfOk r P
err_if_ok (Ok x) Q P is = elim is [ ]
err_if_ok (Err x) Q P is = tt

-- what holds anyway holds where there is an error
pub on_err : {T E : Type 0} (r : Result T E) {P : Type 0} → P → OnErr r P
on_err (Ok x) p = tt
on_err (Err x) p = p
