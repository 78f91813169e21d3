use Rattle.std.proofs.Common.{◌+◌, take, drop, refl, sym, ◌∙◌, subst, inl, inr}
use Rattle.std.proofs.lemmas.List.{take_all}
use Rattle.rambo_history.specs.Proper.{Stands}
use Rattle.rambo_history.proofs.Splits.{stands-nil}
use Rattle.rambo_witness.proofs.Fronts.{split-at, stands-push, take-item}
use Rattle.rambo_witness.proofs.Standing.{stands-to, unstands}
use Rattle.rambo_witness.proofs.missing.first_out.Goals as goal

pub loop-id-init : goal.loop-id-init
loop-id-init c d s = absurd (stands-nil d s)

pub returns-then-not-contains-clause-found : goal.returns-then-not-contains-clause-found
returns-then-not-contains-clause-found c =
    let calls = c.args.calls.now in
    let i = c.loop-id.id-index in
    let id = c.id-item.result in
    (take i calls, drop (i + 1) calls, split-at calls i id (take-item calls i id c.loop-id-test.true c.id-item.is), unstands c.args.order.now id (sym (c.in_ok-standing.ensures.calls id) ∙ sym c.contains.ensures ∙ c.if-not-contains.true), refl, c.loop-id.invariant)

pub loop-id-preserved : goal.loop-id-preserved
loop-id-preserved c d s =
    let calls = c.args.calls.now in
    let i = c.loop-id.id-index in
    let id = c.id-item.result in
    elim (stands-push (take i calls) id d (subst (λ l. Stands l d) (take-item calls i id c.loop-id-test.true c.id-item.is) s)) [
      | inl before ↦ c.loop-id.invariant d before
      | inr last ↦ subst (Stands c.args.order.now) last (stands-to c.args.order.now id (sym (c.in_ok-standing.ensures.calls id) ∙ sym c.contains.ensures ∙ c.if-not-contains.false))
    ]

pub returns-clause-found : goal.returns-clause-found
returns-clause-found c d s = c.loop-id.invariant d (subst (λ l. Stands l d) (sym (take_all c.loop-id.id-index c.args.calls.now c.loop-id-test.false)) s)
