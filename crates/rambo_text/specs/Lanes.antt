-- Digits of many bytes at once
use Rattle.std.specs.Prelude.{ℕ, ◌-◌, if◌then◌else◌, nat_lt, ◌&&◌, List, [], ◌∷◌}

-- the number of a digit to base 16, and 255 for what is no digit
abbrev pub number_or_255 : ℕ → ℕ
number_or_255 d = if nat_lt 47 d && nat_lt d 58 then d - 48 else if nat_lt 96 d && nat_lt d 103 then d - 87 else 255

-- the first of each list, the second of each, and so on
abbrev pub in_turn : List ℕ → List ℕ → List ℕ
in_turn [] ys = []
in_turn (x ∷ xs) [] = []
in_turn (x ∷ xs) (y ∷ ys) = x ∷ y ∷ in_turn xs ys
