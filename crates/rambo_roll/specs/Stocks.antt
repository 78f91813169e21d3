-- A list of steps of which the first may be drawn
use Rattle.std.specs.Prelude.{◌≡◌, ◌≤◌, ◌-◌, ℕ, List, length, drop}

-- all steps; how many of them, the first, were drawn; and for how many more there is room
pub record StockView (E : Type 0) : Type 0 where
  pub all : List E
  pub drawn : ℕ
  pub room : ℕ

-- there are so many steps, and those at hand are the last of them
pub record IsStocked {E : Type 0} (all kept : List E) (count : ℕ) : Type 0 where
  pub counted : count ≡ length all
  pub few : length kept ≤ count
  pub last : kept ≡ drop (count - length kept) all
