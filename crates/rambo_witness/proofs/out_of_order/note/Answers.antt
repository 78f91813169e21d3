use Rattle.std.proofs.Common.{◌≡◌, sym, ap, ◌∙◌, subst, arith}
use Rattle.rambo_witness.proofs.Times.{last-new, last-same, last-unmade, none-some, same-number, same-made}
use Rattle.rambo_witness.specs.LastMade.{HasLast}
use Rattle.rambo_witness.specs.declared.out_of_order.Made.{Made}
use Rattle.rambo_witness.proofs.out_of_order.note.Goals as goal
use Rattle.rambo_witness.proofs.out_of_order.note.Goals.{in-Some-last+else-place-made, in_default-last}

pub returns-in_default : goal.returns-in_default
returns-in_default c front has = last-unmade c.args.history.now.events front c.args.id.now c.args.last.now has (sym c.called_at.ensures ∙ c.in_default.is)

pub returns-then-place-made : goal.returns-then-place-made
returns-then-place-made c front has =
    last-same c.args.history.now.events front c.args.id.now _ (subst (HasLast c.args.history.now.events front) c.in-Some-last.is has)
    (λ n e. let number : c.in-Some.place ≡ n = same-number _ n (sym c.in-Some.is ∙ c.called_at.ensures ∙ e) in omega (arith, number, c.if-place-made.true))

pub returns : goal.returns
returns c front has =
    last-new c.args.history.now.events front c.args.id.now c.in-Some.place c.args.last.now has (sym c.called_at.ensures ∙ c.in-Some.is)
    (λ m e. elim c.match-last.branch [
      | in-Some-last+else-place-made w ↦
          (let place : w.in-Some-last.made.place ≡ m.place = ap (λ (l : Made). l.place) (same-made _ m (sym w.in-Some-last.is ∙ e)) in
          omega (arith, place, w.if-place-made.false))
      | in_default-last w ↦ absurd (none-some m (sym w.in_default-last.is ∙ e))
    ])
