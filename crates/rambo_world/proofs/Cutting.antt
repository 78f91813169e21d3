-- A list that is cut in two
use Rattle.std.proofs.Common.{◌≡◌, ℕ, ◌+◌, ◌-◌, ◌≤◌, ◌<◌, List, ◌++◌, length, take, drop, get_or, Some, slice_get, slice_set, sym, ap, ◌∙◌, arith}
use Rattle.std.proofs.lemmas.List.{length-append, take_all, take-append-le, get_or_append_left, get_or-append-add, set-append_left, set-append_right}
use Rattle.std.proofs.lemmas.Option.{slice_get_read}

module _ {A : Type 0} (list front back : List A) (i : ℕ) (cut : list ≡ front ++ back) where
  -- an item of the first part
  pub at_front : (x : A) → i < length front → x ≡ get_or front i x → slice_get list i ≡ Some x
  at_front x below is =
      let size = length-append front back in
      ap (λ l. slice_get l i) cut
      ∙ slice_get_read (front ++ back) (length front + length back) i x (sym size) (omega (arith, below)) (is ∙ sym (get_or_append_left front back x i below))

  pub set_front : (v : A) → i < length front → slice_set list i v ≡ slice_set front i v ++ back
  set_front v below = ap (λ l. slice_set l i v) cut ∙ set-append_left front back i v below

  -- the first item of the second part
  pub at_back : (x : A) → length front ≡ i → 0 < length back → x ≡ get_or back 0 x → slice_get list i ≡ Some x
  at_back x here some is =
      let size = length-append front back in
      let place : length front + 0 ≡ i = omega (arith, here) in
      ap (λ l. slice_get l i) cut
      ∙ slice_get_read (front ++ back) (length front + length back) i x (sym size) (omega (arith, here, some))
      (is ∙ sym (get_or-append-add front back 0 x) ∙ ap (λ n. get_or (front ++ back) n x) place)

  pub set_back : (v : A) → length front ≡ i → slice_set list i v ≡ front ++ slice_set back 0 v
  set_back v here =
      let none : i - i ≡ 0 = omega arith in
      ap (λ l. slice_set l i v) cut ∙ set-append_right front back i i v here (omega arith) ∙ ap (λ n. front ++ slice_set back n v) none

-- a list that is written over whole
pub written_over : {A : Type 0} (items new : List A) (n : ℕ) → n ≡ length items → length new ≡ length items → take n (new ++ drop (length new) items) ≡ new
written_over items new n all same =
    let within : n ≤ length new = omega (arith, all, same) in
    let whole : length new ≤ n = omega (arith, all, same) in
    take-append-le n new (drop (length new) items) within ∙ take_all n new whole
