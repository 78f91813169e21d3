use Rattle.std.proofs.Common.{◌≡◌, Some, None, refl, sym, ap, ◌∙◌, subst, arith}
use Rattle.rambo_witness.specs.LastMade.{HasLast}
use Rattle.std.specs.Option.{option_copied}
use Rattle.rambo_witness.specs.declared.out_of_order.Made.{Made}
use Rattle.rambo_witness.proofs.Times.{answered-early, answered-late, none-some, same-made, same-number}
use Rattle.rambo_witness.proofs.out_of_order.out_of_order.Goals as goal

pub returns-in_default : goal.returns-in_default
returns-in_default c front has =
    answered-late c.args.history.now.events c.requires.calls_once front c.args.id.now None (subst (λ o. HasLast c.args.history.now.events front (option_copied o)) c.in_default.is has) (λ m n is. absurd (none-some m is))

pub returns-in_default-answered_at : goal.returns-in_default-answered_at
returns-in_default-answered_at c front has =
    answered-late c.args.history.now.events c.requires.calls_once front c.args.id.now _ has (λ m n is answered. absurd (none-some n (sym c.in_default-answered_at.is ∙ c.answered_at.ensures ∙ answered)))

pub returns-then-answered-last : goal.returns-then-answered-last
returns-then-answered-last c front has =
    let h = c.args.history.now.events in
    let last = c.in-Some.last.now in
    let is : HasLast h front (Some last) = subst (λ o. HasLast h front (option_copied o)) c.in-Some.is has in (
      refl,
      λ key. (
        last.call,
        refl,
        (is.0, last.place, is.1, is.2),
        answered-early h c.requires.calls_once c.args.id.now last.call last.place c.in-Some-answered_at.answered
            (sym c.answered_at.ensures ∙ c.in-Some-answered_at.is) is.1 c.if-answered-last.true,
      ),
    )

pub returns-else-answered-last : goal.returns-else-answered-last
returns-else-answered-last c front has =
    answered-late c.args.history.now.events c.requires.calls_once front c.args.id.now (option_copied c.args.last) has (λ m n is answered.
    let last : c.in-Some.last.now ≡ m = same-made _ m (sym (ap option_copied c.in-Some.is) ∙ is) in
    let place : c.in-Some.last.now.place ≡ m.place = ap (λ (l : Made). l.place) last in
    let number : c.in-Some-answered_at.answered ≡ n = same-number _ n (sym c.in-Some-answered_at.is ∙ c.answered_at.ensures ∙ answered) in
    omega (arith, place, number, c.if-answered-last.false))
