use Rattle.std.below.core.proofs.iter.Serving.{as_err}
use Rattle.std.proofs.Common.{inl, inr, refl, rules, arith, [], ◌∷◌}
use Rattle.rambo_text.specs.Forms.{Name, Hex}
use Rattle.rambo_lines.proofs.Fitting.{count_fault, hex_fault}
use Rattle.rambo_lines.proofs.parts.named_key_value.Goals as goal

pub returns-in_err-name-clause-fault : goal.returns-in_err-name-clause-fault
returns-in_err-name-clause-fault c = search (rules, count_fault (Name ∷ Hex ∷ Hex ∷ []) _ _ c.in_err-name.ensures.fault.0 c.in_err-name.ensures.fault.1)

pub returns-in_err-key-clause-fault : goal.returns-in_err-key-clause-fault
returns-in_err-key-clause-fault c =
    let name = c.in_ok-name-2.ensures.found in
    search (rules, hex_fault (Name ∷ Hex ∷ Hex ∷ []) _ _ _ _ c.in_ok-name.ensures.found refl (_, name.0, name.1) (λ none is. inr ((_, name.0, name.1), inl (none, is))) c.in_err-key.ensures.fault)

pub returns-in_err-value-clause-fault : goal.returns-in_err-value-clause-fault
returns-in_err-value-clause-fault c =
    let name = c.in_ok-name-2.ensures.found in
    let key = c.in_ok-key.ensures.found in
    let told = hex_fault (Name ∷ Hex ∷ Hex ∷ []) _ _ _ _ c.in_ok-name.ensures.found refl (_, name.0, name.1) (λ none is. inr ((_, name.0, name.1), inr ((_, key.0, key.1), inl (none, is)))) c.in_err-value.ensures.fault in
    let is = (as_err c.from_residual-in_err-value.ensures.0).1 in
    grind (arith, is, told)
