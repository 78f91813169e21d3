use Rattle.std.proofs.Common.{◌≡◌, ◌<◌, length, slice_set, ◌++◌, refl, sym, ap, ◌∙◌, arith}
use Rattle.std.proofs.lemmas.List.{length-set}
use Rattle.rambo_world.proofs.Cutting.{at_front, at_back, set_front, set_back}
use Rattle.rambo_world.proofs.nodes.two_of.Goals as goal

pub returns-then-first-second : goal.returns-then-first-second
returns-then-first-second g c =
    let xs = c.args.items.now in
    let i = c.args.first in
    let j = c.args.second in
    let front = c.split_at_mut-front.result.0.now in
    let back = c.split_at_mut-front.result.1.now in
    let cut = c.split_at_mut-front.ensures.value in
    let here : length front ≡ j = c.split_at_mut-front.ensures.front_len in
    let below : i < length front = omega (arith, here, c.if-first-second.true) in
    let some : 0 < length back = omega (arith, c.split_at_mut-front.ensures.back_len, c.requires.both) in (
      (
        (refl, refl),
        λ x y. sym (ap (λ l. slice_set l j y) (set_front xs front back i cut x below) ∙ set_back (slice_set front i x ++ back) (slice_set front i x) back j refl y (length-set front i x ∙ here)),
      ),
      record {
        lent = tt;
        items = record {
          at_first = at_front xs front back i cut c.index-front-first.result below c.index-front-first.is;
          at_second = at_back xs front back j cut c.index-back-0.result here some c.index-back-0.is;
        };
      },
    )

pub returns-else-first-second : goal.returns-else-first-second
returns-else-first-second g c =
    let xs = c.args.items.now in
    let i = c.args.first in
    let j = c.args.second in
    let split = c.split_at_mut-front-else-first-second in
    let front = split.result.0.now in
    let back = split.result.1.now in
    let cut = split.ensures.value in
    let here : length front ≡ i = split.ensures.front_len in
    let below : j < length front = omega (arith, here, c.if-first-second.false, c.requires.apart) in
    let some : 0 < length back = omega (arith, split.ensures.back_len, c.requires.within) in (
      (
        (refl, refl),
        λ x y. sym (ap (λ l. slice_set l j y) (set_back xs front back i cut x here) ∙ set_front (front ++ slice_set back 0 x) front (slice_set back 0 x) j refl y below),
      ),
      record {
        lent = tt;
        items = record {
          at_first = at_back xs front back i cut c.index-back-0-else-first-second.result here some c.index-back-0-else-first-second.is;
          at_second = at_front xs front back j cut c.index-front-second.result below c.index-front-second.is;
        };
      },
    )
