-- The test of a total order is that of a weak one
use Rattle.std.proofs.Common.{◌≡◌, true, false, Ordering, Less, Equal, Greater, is_lt, is_gt, refl, sym, ap, ◌∙◌, true≢false}
use Rattle.std.specs.Ordering.{ordering_reverse}
use Rattle.std.specs.Cmp.{IsTotalOrder, IsStrictWeakOrder}
use Rattle.std.proofs.lemmas.Cmp.{upto}

flipped : (o p : Ordering) → o ≡ ordering_reverse p → is_lt o ≡ is_gt p
flipped o Less e = ap is_lt e
flipped o Equal e = ap is_lt e
flipped o Greater e = ap is_lt e

not_both : (o : Ordering) → is_lt o ≡ true → is_gt o ≡ false
not_both Less h = refl
not_both Equal h = refl
not_both Greater h = absurd (true≢false (sym h))

module _ {K : Type 0} {R : K → K → Ordering} (o : IsTotalOrder R) where
  pub lt-gt : (x y : K) → is_lt (R x y) ≡ is_gt (R y x)
  lt-gt x y = flipped (R x y) (R y x) (o.antisymm x y)

  pub IsStrictWeakOrder-from_total : IsStrictWeakOrder (λ x y. is_lt (R x y))
  IsStrictWeakOrder-from_total = record {
    one_way = λ x y h. lt-gt y x ∙ not_both (R x y) h;
    chain = λ x y z h k. lt-gt x z ∙ upto o z y x (sym (lt-gt y z) ∙ k) (sym (lt-gt x y) ∙ h);
  }
