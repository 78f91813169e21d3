use Rattle.std.proofs.Common.{◌≡◌, ◌+◌, [], ◌∷◌, ◌++◌, take, drop, refl, sym, ap, ◌∙◌, subst}
use Rattle.std.proofs.lemmas.List.{take_all}
use Rattle.rambo_history.specs.Proper.{IsDistinct}
use Rattle.rambo_atomic.specs.Tests.{stands_in}
use Rattle.rambo_witness.proofs.Fronts.{distinct-push, split-at, take-item}
use Rattle.rambo_witness.proofs.Standing.{seen-push, stands-to, unstands, was-new, was-there}
use Rattle.rambo_witness.proofs.repeated.first_repeated.Goals as goal

pub returns-then-not-branch-clause-found : goal.returns-then-not-branch-clause-found
returns-then-not-branch-clause-found c key =
    let order = c.args.order.now in
    let i = c.loop-id.id-index in
    let id = c.id-item.result in
    let more : take (i + 1) order ≡ take i order ++ id ∷ [] = take-item order i id c.loop-id-test.true c.id-item.is in
    record {
      front = take i order;
      back = drop (i + 1) order;
      whole = split-at order i id more;
      breaks = (stands-to (take i order) id (sym (c.loop-id.invariant.0 id) ∙ was-there _ _ c.in_ok-insert.ensures.added c.if-not-branch.true), refl);
      first = c.loop-id.invariant.1;
    }

pub loop-id-preserved : goal.loop-id-preserved
loop-id-preserved c =
    let order = c.args.order.now in
    let i = c.loop-id.id-index in
    let id = c.id-item.result in
    let more : take (i + 1) order ≡ take i order ++ id ∷ [] = take-item order i id c.loop-id-test.true c.id-item.is in (
      λ q. seen-push (take i order) c.loop-id.seen.keys c.insert.new.self.keys id c.loop-id.invariant.0 c.in_ok-insert.ensures.updates.0 q ∙ ap (λ l. stands_in l q) (sym more),
      subst IsDistinct (sym more) (distinct-push (take i order) id c.loop-id.invariant.1
          (unstands (take i order) id (sym (c.loop-id.invariant.0 id) ∙ was-new _ _ c.in_ok-insert.ensures.added c.if-not-branch.false))),
    )

pub returns-clause-found : goal.returns-clause-found
returns-clause-found c key = subst IsDistinct (take_all c.loop-id.id-index c.args.order.now c.loop-id-test.false) c.loop-id.invariant.1
