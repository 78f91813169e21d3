-- Two items of a list, which are borrowed
use Rattle.std.specs.Prelude.{◌≡◌, ℕ, List, Some, slice_get, slice_set}
use Rattle.std.specs.Borrow.{LendsBoth, Fml, RattleType, MutBor, Array}

-- a list with two items put in places
abbrev pub with_both : {A : Type 0} → List A → ℕ → ℕ → A → A → List A
with_both xs first second x y = slice_set (slice_set xs first x) second y

-- which items are there
pub record AreBoth {A : Type 0} (xs : List A) (first second : ℕ) (x y : A) : Type 0 where
  pub at_first : slice_get xs first ≡ Some x
  pub at_second : slice_get xs second ≡ Some y

-- once both are given back, the list has what was left in them
abbrev pub lends_both : (T : RattleType) → MutBor (List T.Denot) → ℕ → ℕ → MutBor T.Denot × MutBor T.Denot → Fml
lends_both T items first second r = LendsBoth (Array T 0) T T items r (with_both items.now first second)
