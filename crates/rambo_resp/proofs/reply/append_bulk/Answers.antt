use Rattle.std.proofs.Common.{◌≡◌, ℕ, List, [], ◌∷◌, ◌++◌, Result, OnErr, refl, sym, ap, ◌∙◌, append-nil, append_assoc}
use Rattle.rambo_names.proofs.Errors.{err_ok, err_kept, on_err}
use Rattle.rambo_resp.proofs.reply.append_bulk.Goals as goal

-- a text with some more behind it
abbrev Grows : List ℕ → List ℕ → Type 0
Grows old new = (more : List ℕ) × (new ≡ old ++ more)

none : (start : List ℕ) → Grows start start
none start = ([], sym (append-nil start))

grows_on : (start out new more : List ℕ) → new ≡ out ++ more → Grows start out → Grows start new
grows_on start out new more now front = (front.0 ++ more, now ∙ ap (λ t. t ++ more) front.1 ∙ append_assoc start front.0 more)

err_grows : {T E : Type 0} (r : Result T E) (start out new : List ℕ) → new ≡ out → Grows start out → OnErr r (Grows start new)
err_grows r start out new now front = on_err r (front.0, now ∙ front.1)

-- five lists, appended one by one
five : (o a s d e b i j k l m : List ℕ) → d ≡ s → i ≡ o ++ a → j ≡ i ++ d → k ≡ j ++ e → l ≡ k ++ b → m ≡ l ++ e → m ≡ o ++ (a ++ ((s ++ e) ++ (b ++ e)))
five o a s d e b i j k l m z p q r t u =
    u ∙ ap (λ x. x ++ e) (t ∙ ap (λ x. x ++ b) (r ∙ ap (λ x. x ++ e) (q ∙ ap (λ x. x ++ d) p ∙ ap (λ x. (o ++ a) ++ x) z)))
    ∙ simp append_assoc

pub returns-clause-ok : goal.returns-clause-ok
returns-clause-ok c =
    five c.args.out.now.items (36 ∷ []) _ _ _ _ _ _ _ _ _ (c.as_bytes.ensures.value ∙ c.format.ensures.text)
    c.in_ok-extend_from_slice.ensures.ok c.in_ok-extend_from_slice-2.ensures.ok c.in_ok-extend_from_slice-3.ensures.ok c.in_ok-extend_from_slice-4.ensures.ok
    c.in_ok-extend_from_slice-5.ensures.ok

pub returns-in_err-extend_from_slice-clause-ok : goal.returns-in_err-extend_from_slice-clause-ok
returns-in_err-extend_from_slice-clause-ok c = err_ok c.from_residual.result _ _ c.from_residual.ensures.1

pub returns-in_err-extend_from_slice-2-clause-ok : goal.returns-in_err-extend_from_slice-2-clause-ok
returns-in_err-extend_from_slice-2-clause-ok c = err_ok c.from_residual-in_err-extend_from_slice-2.result _ _ c.from_residual-in_err-extend_from_slice-2.ensures.1

pub returns-in_err-extend_from_slice-3-clause-ok : goal.returns-in_err-extend_from_slice-3-clause-ok
returns-in_err-extend_from_slice-3-clause-ok c = err_ok c.from_residual-in_err-extend_from_slice-3.result _ _ c.from_residual-in_err-extend_from_slice-3.ensures.1

pub returns-in_err-extend_from_slice-4-clause-ok : goal.returns-in_err-extend_from_slice-4-clause-ok
returns-in_err-extend_from_slice-4-clause-ok c = err_ok c.from_residual-in_err-extend_from_slice-4.result _ _ c.from_residual-in_err-extend_from_slice-4.ensures.1

pub returns-in_err-extend_from_slice-5-clause-ok : goal.returns-in_err-extend_from_slice-5-clause-ok
returns-in_err-extend_from_slice-5-clause-ok c = err_ok c.from_residual-in_err-extend_from_slice-5.result _ _ c.from_residual-in_err-extend_from_slice-5.ensures.1

pub returns-in_err-extend_from_slice-clause-err : goal.returns-in_err-extend_from_slice-clause-err
returns-in_err-extend_from_slice-clause-err c = err_grows c.from_residual.result _ _ _ c.in_err-extend_from_slice.ensures.err (none _)

pub returns-in_err-extend_from_slice-clause-refused : goal.returns-in_err-extend_from_slice-clause-refused
returns-in_err-extend_from_slice-clause-refused c = err_kept c.from_residual.result _ _ c.from_residual.ensures.1 refl

pub returns-in_err-extend_from_slice-2-clause-err : goal.returns-in_err-extend_from_slice-2-clause-err
returns-in_err-extend_from_slice-2-clause-err c = err_grows c.from_residual-in_err-extend_from_slice-2.result _ _ _ c.in_err-extend_from_slice-2.ensures.err (grows_on _ _ _ _ c.in_ok-extend_from_slice.ensures.ok (none _))

pub returns-in_err-extend_from_slice-2-clause-refused : goal.returns-in_err-extend_from_slice-2-clause-refused
returns-in_err-extend_from_slice-2-clause-refused c = err_kept c.from_residual-in_err-extend_from_slice-2.result _ _ c.from_residual-in_err-extend_from_slice-2.ensures.1 refl

pub returns-in_err-extend_from_slice-3-clause-err : goal.returns-in_err-extend_from_slice-3-clause-err
returns-in_err-extend_from_slice-3-clause-err c = err_grows c.from_residual-in_err-extend_from_slice-3.result _ _ _ c.in_err-extend_from_slice-3.ensures.err (grows_on _ _ _ _ c.in_ok-extend_from_slice-2.ensures.ok (grows_on _ _ _ _ c.in_ok-extend_from_slice.ensures.ok (none _)))

pub returns-in_err-extend_from_slice-3-clause-refused : goal.returns-in_err-extend_from_slice-3-clause-refused
returns-in_err-extend_from_slice-3-clause-refused c = err_kept c.from_residual-in_err-extend_from_slice-3.result _ _ c.from_residual-in_err-extend_from_slice-3.ensures.1 refl

pub returns-in_err-extend_from_slice-4-clause-err : goal.returns-in_err-extend_from_slice-4-clause-err
returns-in_err-extend_from_slice-4-clause-err c = err_grows c.from_residual-in_err-extend_from_slice-4.result _ _ _ c.in_err-extend_from_slice-4.ensures.err (grows_on _ _ _ _ c.in_ok-extend_from_slice-3.ensures.ok (grows_on _ _ _ _ c.in_ok-extend_from_slice-2.ensures.ok (grows_on _ _ _ _ c.in_ok-extend_from_slice.ensures.ok (none _))))

pub returns-in_err-extend_from_slice-4-clause-refused : goal.returns-in_err-extend_from_slice-4-clause-refused
returns-in_err-extend_from_slice-4-clause-refused c = err_kept c.from_residual-in_err-extend_from_slice-4.result _ _ c.from_residual-in_err-extend_from_slice-4.ensures.1 refl

pub returns-in_err-extend_from_slice-5-clause-err : goal.returns-in_err-extend_from_slice-5-clause-err
returns-in_err-extend_from_slice-5-clause-err c = err_grows c.from_residual-in_err-extend_from_slice-5.result _ _ _ c.in_err-extend_from_slice-5.ensures.err (grows_on _ _ _ _ c.in_ok-extend_from_slice-4.ensures.ok (grows_on _ _ _ _ c.in_ok-extend_from_slice-3.ensures.ok (grows_on _ _ _ _ c.in_ok-extend_from_slice-2.ensures.ok (grows_on _ _ _ _ c.in_ok-extend_from_slice.ensures.ok (none _)))))

pub returns-in_err-extend_from_slice-5-clause-refused : goal.returns-in_err-extend_from_slice-5-clause-refused
returns-in_err-extend_from_slice-5-clause-refused c = err_kept c.from_residual-in_err-extend_from_slice-5.result _ _ c.from_residual-in_err-extend_from_slice-5.ensures.1 refl
