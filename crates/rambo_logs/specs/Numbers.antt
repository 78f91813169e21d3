-- Lists that grow at their ends, and keys by their numbers
use Rattle.std.specs.Prelude.{◌≡◌, ℕ, ◌<◌, List, [], ◌∷◌, ◌++◌, map, length, nat_eq, if◌then◌else◌, Some}
use Rattle.std.specs.List.{range_with_len}
use Rattle.std.specs.Map.{lookup}
use Rattle.std.specs.Str.{bytes_eq}

-- new is old with more at its end
abbrev pub Extends : {X : Type 0} → List X → List X → Type 0
Extends {X} old new = (more : List X) × (new ≡ old ++ more)

-- the key that has a number, among keys with their numbers in any order
abbrev pub key_of : List (List ℕ × ℕ) → ℕ → List ℕ
key_of [] n = []
key_of (e ∷ es) n = if nat_eq e.1 n then e.0 else key_of es n

-- the keys by their numbers
abbrev pub by_number : List (List ℕ × ℕ) → List (List ℕ)
by_number es = map (key_of es) (range_with_len 0 (length es))

-- the numbers are those below the number of keys, and each is that of one key
pub record AreNumbers (es : List (List ℕ × ℕ)) : Type 0 where
  pub known : (key : List ℕ) (n : ℕ) → lookup (bytes_eq key) es ≡ Some n → (n < length es) × (key_of es n ≡ key)
  pub each : (n : ℕ) → n < length es → lookup (bytes_eq (key_of es n)) es ≡ Some n
