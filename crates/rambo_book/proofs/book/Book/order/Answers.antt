use Rattle.std.proofs.Common.{◌≡◌, IfOk, ap, sym, ◌∙◌, subst}
use Rattle.std.specs.Option.{option_copied}
use Rattle.rambo_run.specs.Runs.{given_order}
use Rattle.rambo_book.specs.Kept.{state}
use Rattle.rambo_book.proofs.OneOrder.{once, order_is, explained}
use Rattle.rambo_book.proofs.book.Book.order.Goals as goal

pub order-requires : goal.order-requires
order-requires g c =
    let b = c.self.inside in
    let v = c.in-Some.chronicle.now in
    let same = c.self.invariant.0.recorded.all v (sym c.chronicle.ensures ∙ ap option_copied c.in-Some.is) in
    once g.Q.Quorums.system g.met.Q.Quorums.sound b.founders b.steps.all v.events v.marks same.0 same.1 c.as_slice.result.now (c.as_slice.ensures.value ∙ c.in_ok-sequences.ensures.given)

pub returns-clause-given : goal.returns-clause-given
returns-clause-given g c =
    let s = g.Q.Quorums.system in
    let b = c.self.inside in
    let v = c.in-Some.chronicle.now in
    let same = c.self.invariant.0.recorded.all v (sym c.chronicle.ensures ∙ ap option_copied c.in-Some.is) in
    let is = order_is s g.met.Q.Quorums.sound b.founders b.steps.all v.events v.marks same.0 same.1 c.as_slice.result.now (c.as_slice.ensures.value ∙ c.in_ok-sequences.ensures.given) in
    subst (λ l. IfOk c.order.result (λ o. o.items ≡ l)) (is ∙ ap (λ b. given_order (state s b)) c.self.view_is) c.order.ensures.given

pub returns-clause-explained : goal.returns-clause-explained
returns-clause-explained g c = explained g.Q.Quorums.system g.met.Q.Quorums.sound c.args.self.now.founders c.args.self.now.steps (λ o. o.items) c.order.result (returns-clause-given g c)
