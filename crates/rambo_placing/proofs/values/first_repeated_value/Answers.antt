use Rattle.std.proofs.Common.{◌≡◌, ◌+◌, ◌<◌, ◌||◌, false, [], ◌∷◌, ◌++◌, length, take, drop, arith, sym, ap, ◌∙◌, subst}
use Rattle.std.proofs.lemmas.List.{length-take-le}
use Rattle.std.specs.List.{list_any}
use Rattle.rambo_placing.specs.Values.{HasOwnValues, is_repeated, sets_to}
use Rattle.rambo_placing.proofs.Written.{any-push, split-at, splits-push, take-item}
use Rattle.rambo_placing.proofs.values.first_repeated_value.Goals as goal

pub returns-then-branch-clause-found : goal.returns-then-branch-clause-found
returns-then-branch-clause-found c =
    let h = c.events-event-items.result.now in
    let i = c.loop-place.place in
    let e = c.event-item.result in
    let more : take (i + 1) h ≡ take i h ++ e ∷ [] = take-item h i e c.loop-place-test.true c.event-item.is in (
      take i h,
      e,
      drop (i + 1) h,
      sym c.events-event-items.ensures.events ∙ split-at h i e more,
      sym (length-take-le i h (let below : i < length h = c.loop-place-test.true in omega arith)),
      sym (c.in_ok-is_repeated.ensures.repeated (take i h) c.loop-place.invariant.values) ∙ c.if-branch.true,
      c.loop-place.invariant.own,
    )

pub loop-place-preserved : goal.loop-place-preserved
loop-place-preserved c =
    let h = c.events-event-items.result.now in
    let i = c.loop-place.place in
    let e = c.event-item.result in
    let more : take (i + 1) h ≡ take i h ++ e ∷ [] = take-item h i e c.loop-place-test.true c.event-item.is in
    record {
      own = subst HasOwnValues (sym more) (splits-push (λ front x. is_repeated front x ≡ false) (take i h) e c.loop-place.invariant.own
          (sym (c.in_ok-is_repeated.ensures.repeated (take i h) c.loop-place.invariant.values) ∙ c.if-branch.false));
      values = λ k v.
          c.in_ok-is_repeated.ensures.noted k v ∙ ap (λ b. sets_to k v e || b) (c.loop-place.invariant.values k v)
          ∙ sym (any-push (sets_to k v) (take i h) e) ∙ ap (list_any (sets_to k v)) (sym more);
    }
