use Rattle.std.proofs.Common.{◌+◌, ◌≤◌, ◌^◌, length, refl, sym, ap, ◌∙◌, subst}
use Rattle.std.proofs.lemmas.Bool.{true≢false}
use Rattle.rambo_names.proofs.Errors.{err_kept, err_if_ok}
use Rattle.rambo_names.proofs.Sizes.{back_fits, up_fits, next}
use Rattle.rambo_phase.proofs.phase.Phase.copy.Goals as goal

pub copy-requires : goal.copy-requires
copy-requires g c = back_fits _ _ _ (next _ _ _ _ (up_fits _ _ _ c.requires-raw.1))

pub returns-in_err-copy-clause-ok : goal.returns-in_err-copy-clause-ok
returns-in_err-copy-clause-ok g c = err_if_ok c.from_residual.result _ _ c.from_residual.ensures.1

pub returns-in_err-copy-clause-refused : goal.returns-in_err-copy-clause-refused
returns-in_err-copy-clause-refused g c = err_kept c.from_residual.result _ _ c.from_residual.ensures.1 c.in_err-copy.ensures.refused

pub returns-in_err-copy-clause-succeeds : goal.returns-in_err-copy-clause-succeeds
returns-in_err-copy-clause-succeeds g c = λ h.
    absurd (true≢false (sym (c.in_err-copy.ensures.succeeds (subst (λ p. length p.state.configs ≤ 8) (sym c.self.view_is) h))))

pub returns-in_err-copy-clause-room : goal.returns-in_err-copy-clause-room
returns-in_err-copy-clause-room g c = err_if_ok c.from_residual.result _ _ c.from_residual.ensures.1

pub returns-in_err-copy-clause-inline : goal.returns-in_err-copy-clause-inline
returns-in_err-copy-clause-inline g c = λ _. err_if_ok c.from_residual.result _ _ c.from_residual.ensures.1

pub invariant_of-result : goal.invariant_of-result
invariant_of-result g c =
    (subst (λ xs. c.self.inside.lo + length xs ≤ 2 ^ 64) (sym c.in_ok-copy.ensures.ok) c.self.invariant.0, c.in_ok-copy.ensures.room)

pub returns-clause-ok : goal.returns-clause-ok
returns-clause-ok g c =
    (λ i. record { number = c.self.inside.number; lo = c.self.inside.lo; configs = c.in_ok-copy.ensures.ok i; repliers = c.self.inside.repliers })
    ∙ ap (λ p. p.state) c.self.view_is

pub returns-clause-refused : goal.returns-clause-refused
returns-clause-refused g c = tt

pub returns-clause-succeeds : goal.returns-clause-succeeds
returns-clause-succeeds g c = λ _. refl

pub returns-clause-room : goal.returns-clause-room
returns-clause-room g c = c.in_ok-copy.ensures.room

pub returns-clause-inline : goal.returns-clause-inline
returns-clause-inline g c = λ h. c.in_ok-copy.ensures.inline (subst (λ p. length p.state.configs ≤ 8) (sym c.self.view_is) h)
