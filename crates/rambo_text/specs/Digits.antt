-- Digits in twos and fours
use Rattle.std.specs.Prelude.{ℕ, ◌+◌, ◌/◌, ◌%◌, List, [], ◌∷◌, ◌++◌}

-- two digits of a number below 100
abbrev pub pair : ℕ → List ℕ
pair n = (48 + n / 10) ∷ (48 + n % 10) ∷ []

-- four digits of a number below 10,000
abbrev pub four : ℕ → List ℕ
four n = pair (n / 100) ++ pair (n % 100)
