-- How commands are spelt
use Rattle.std.specs.Prelude.{◌≡◌, ℕ, ◌≤◌, ◌⊎◌, List, [], ◌∷◌, ◌++◌, length, Option, Some, None, decimal, codes}
use Rattle.std.specs.List.{flat_map, AllByRecursion}

-- a carriage return and a line feed
abbrev pub line_end : List ℕ
line_end = 13 ∷ 10 ∷ []

-- a line with a number: a sign, and the number in plain decimal
abbrev pub number_line : ℕ → ℕ → List ℕ
number_line sign n = (sign ∷ decimal n) ++ line_end

-- an item: `$` and its length in a line, then its bytes and the end of their line
abbrev pub item_spelling : List ℕ → List ℕ
item_spelling bytes = number_line 36 (length bytes) ++ (bytes ++ line_end)

-- a command: `*` and the number of its items in a line, then its items
abbrev pub command_spelling : List (List ℕ) → List ℕ
command_spelling items = number_line 42 (length items) ++ flat_map item_spelling items

-- an item has at most 4,096 bytes
abbrev pub IsShort : List ℕ → Type 0
IsShort bytes = length bytes ≤ 4096

-- a command has 1 to 128 items
pub record IsCommand (items : List (List ℕ)) : Type 0 where
  pub some : 1 ≤ length items
  pub few : length items ≤ 128
  pub short : AllByRecursion IsShort items

-- a text spells a command, or none: an array of no items, or of -1
abbrev pub Spells : List ℕ → Option (List (List ℕ)) → Type 0
Spells text (Some items) = IsCommand items × (text ≡ command_spelling items)
Spells text None = (text ≡ codes "*0" ++ line_end) ⊎ (text ≡ codes "*-1" ++ line_end)
