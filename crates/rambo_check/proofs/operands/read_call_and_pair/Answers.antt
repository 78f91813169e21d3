use Rattle.std.proofs.Common.{◌∷◌, [], inl, inr, refl}
use Rattle.std.specs.Option.{option_copied}
use Rattle.std.proofs.lemmas.Result.{err_from_is_err_and}
use Rattle.rambo_text.specs.Forms.{Call, Hex}
use Rattle.rambo_check.proofs.Counts.{other_count}
use Rattle.rambo_check.proofs.operands.read_call_and_pair.Goals as goal

pub returns-in_default-clause-fault : goal.returns-in_default-clause-fault
returns-in_default-clause-fault c = other_count (Call ∷ Hex ∷ Hex ∷ []) c.args.id.now (option_copied c.args.more) 2 refl c.in_default.ensures.none

pub returns-in_err-first-clause-fault : goal.returns-in_err-first-clause-fault
returns-in_err-first-clause-fault c =
    let p = err_from_is_err_and c.from_residual.result c.from_residual.ensures.1 in
    let id = c.in-Some-read_call.ensures.found in
    rw (p.1, p.2)
    (elim c.in_err-first.ensures.fault [
      | inl h ↦ inl (h, (c.in-Some.first.now ∷ c.in-Some.second.now ∷ [], c.in-Some.ensures.found, (refl, inr ((c.in-Some-read_call.id, id.0, id.1), inl refl))))
      | inr h ↦
          inr (c.in-Some.first.now ∷ c.in-Some.second.now ∷ [], c.in-Some.ensures.found, inr (refl, inr ((c.in-Some-read_call.id, id.0, id.1), inl ((λ s. h.1 s.0 s.1 s.2), h.0))))
    ])

pub returns-in_err-second-clause-fault : goal.returns-in_err-second-clause-fault
returns-in_err-second-clause-fault c =
    let p = err_from_is_err_and c.from_residual-in_err-second.result c.from_residual-in_err-second.ensures.1 in
    let id = c.in-Some-read_call.ensures.found in
    let first = c.in_ok-first.ensures.found in
    rw (p.1, p.2)
    (elim c.in_err-second.ensures.fault [
      | inl h ↦ inl (h, (c.in-Some.first.now ∷ c.in-Some.second.now ∷ [], c.in-Some.ensures.found, (refl, inr ((c.in-Some-read_call.id, id.0, id.1), inl refl))))
      | inr h ↦
          inr (
            c.in-Some.first.now ∷ c.in-Some.second.now ∷ [],
            c.in-Some.ensures.found,
            inr (refl, inr ((c.in-Some-read_call.id, id.0, id.1), inr ((c.in_ok-first.first, first.0, first.1), inl ((λ s. h.1 s.0 s.1 s.2), h.0)))),
          )
    ])
