-- What keys hold, as a checker keeps it
use Rattle.std.specs.Prelude.{ℕ, List, Option, None, if◌then◌else◌}
use Rattle.std.specs.Borrow.{Bor}
use Rattle.std.specs.Map.{lookup}
use Rattle.std.specs.Option.{option_map}
use Rattle.std.specs.Str.{bytes_eq}
use Rattle.rambo_atomic.specs.declared.scope.Scope.{Scope}
use Rattle.rambo_atomic.specs.declared.scope.Scope.TheVariants as scope

-- what a list of keys with values has at a key
abbrev pub held_in : List (Bor (List ℕ) × Bor (List ℕ)) → List ℕ → Option (List ℕ)
held_in entries key = option_map (λ v. v.now) (lookup (λ k. bytes_eq key k.now) entries)

-- what a key holds, where calls of one key were made alone, or of all keys
abbrev pub held_of : Scope → Option (Bor (List ℕ)) → List (Bor (List ℕ) × Bor (List ℕ)) → List ℕ → Option (List ℕ)
held_of (scope.Key own) one each key = if bytes_eq own.now key then option_map (λ v. v.now) one else None
held_of scope.AllKeys one each key = held_in each key
