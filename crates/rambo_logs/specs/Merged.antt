-- How much of each other's logs nodes have merged: a list of the counts of all pairs of names
use Rattle.std.specs.Prelude.{ℕ, ◌+◌, ◌-◌, ◌*◌, max, List, slice_index, slice_set}

-- how much of one name's log another has merged
abbrev pub merged_at : List ℕ → ℕ → ℕ → ℕ
merged_at counts to from = slice_index counts ((to - 1) * 64 + (from - 1))

abbrev pub merged_raised : List ℕ → ℕ → ℕ → ℕ → List ℕ
merged_raised counts to from n = slice_set counts ((to - 1) * 64 + (from - 1)) (max (merged_at counts to from) n)
