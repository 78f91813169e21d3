use Rattle.std.proofs.Common.{◌≡◌, ℕ, Some, Result, Ok, Err, refl, sym, ap, ◌∙◌}
use Rattle.std.specs.FinSet as set
use Rattle.std.specs.Option.{ok_or}
use Rattle.std.specs.Prelude.{IsErrAnd}
use Rattle.rambo_names.specs.declared.refusal.Refusal.TheVariants as refusal
use Rattle.rambo_gc.specs.declared.stage.Stage.TheVariants.{Second}
use Rattle.rambo_gc.specs.declared.gc_move.GcMove.{GcMove}
use Rattle.rambo_gc.specs.declared.gc_move.GcMove.TheVariants.{Propagating, Done}
use Rattle.rambo_gc.specs.contracts.gc_move.GcMove.{the_type}
use Rattle.rambo_gc.specs.Collections.{CollectionState, advance_answer, moved}
use Rattle.rambo_gc.proofs.collection.Collection.advance.Goals as goal
use denote.Enum.Bare.{same_true, same_false}

an_error : {T E : Type 0} (r : Result T E) (e : E) → IsErrAnd r (λ x. x ≡ e) → r ≡ Err e
an_error (Ok x) e is = elim is [ ]
an_error (Err x) e is = ap (λ y. Err y) is

-- a collection that is done stays
stays : (move : GcMove) (number : ℕ) (g : CollectionState) → (move ≡ Propagating → ⊥) → g ≡ moved (Some move) number g
stays Propagating number g h = absurd (h refl)
stays Done number g h = refl

pub would_advance-requires : goal.would_advance-requires
would_advance-requires g c = c.requires-raw.1

pub returns-in_err-next-clause-answer : goal.returns-in_err-next-clause-answer
returns-in_err-next-clause-answer g c =
    an_error c.from_residual.result c.in_err-next.field-0.0 c.from_residual.ensures.1
    ∙ c.in_err-next.ensures.value ∙ ap (λ o. ok_or o refusal.NotYet) c.in_err-next.ensures.ok_part
    ∙ ap advance_answer (sym c.in_err-next.ensures.ok_part ∙ c.would_advance.ensures)

pub returns-in_err-next-clause-state : goal.returns-in_err-next-clause-state
returns-in_err-next-clause-state g c =
    ap (λ o. moved o c.args.number c.args.self.now) (sym c.in_err-next.ensures.ok_part ∙ c.would_advance.ensures)

pub invariant_of-self : goal.invariant_of-self
invariant_of-self g c = c.self.invariant

pub same-self-else-eq : goal.same-self-else-eq
same-self-else-eq g c = refl

pub returns-then-eq-clause-answer : goal.returns-then-eq-clause-answer
returns-then-eq-clause-answer g c = ap advance_answer (sym c.in_ok-next.ensures.ok_part ∙ c.would_advance.ensures)

pub returns-else-eq-clause-answer : goal.returns-else-eq-clause-answer
returns-else-eq-clause-answer g c = ap advance_answer (sym c.in_ok-next.ensures.ok_part ∙ c.would_advance.ensures)

pub returns-else-eq-clause-state : goal.returns-else-eq-clause-state
returns-else-eq-clause-state g c =
    stays c.in_ok-next.next c.args.number c.args.self.now (same_false the_type c.in_ok-next.next Propagating (sym c.eq.ensures ∙ c.if-eq.false))
    ∙ ap (λ o. moved o c.args.number c.args.self.now) (sym c.in_ok-next.ensures.ok_part ∙ c.would_advance.ensures)

pub same-self : goal.same-self
same-self g c = refl

pub returns-then-eq-clause-state : goal.returns-then-eq-clause-state
returns-then-eq-clause-state g c =
    let next : c.in_ok-next.next ≡ Propagating = same_true the_type tt c.in_ok-next.next Propagating (sym c.eq.ensures ∙ c.if-eq.true) in
    let repliers : c.with-self-inside.result ≡ set.insert set.empty c.args.self.now.node =
    c.with-self-inside.ensures ∙ ap (λ s. set.insert s c.self.inside.node) c.empty.ensures ∙ ap (λ v. set.insert set.empty v.node) c.self.view_is in
    (λ i. record { node = (c.self.view_is i).node; place = (c.self.view_is i).place; number = c.args.number; stage = Second; repliers = repliers i })
    ∙ ap (λ o. moved o c.args.number c.args.self.now) (sym (ap (λ m. Some m) next) ∙ sym c.in_ok-next.ensures.ok_part ∙ c.would_advance.ensures)
