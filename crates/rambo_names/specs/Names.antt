-- Names and sets of names
use Rattle.std.specs.Prelude.{◌≡◌, true, ℕ, zero, suc, ◌+◌, ◌≤◌, Bool, ◌&&◌, List, [], ◌∷◌, cond, filter}
use Rattle.std.specs.Coded.{Coded, coded_ℕ}
use Rattle.std.specs.Ordering.{nat_cmp}
use Rattle.std.specs.FinSet.{FinSet, code, is_subset, contains}

-- a number that names a node
abbrev pub IsName : ℕ → Type 0
IsName n = (1 ≤ n) × (n ≤ 64)

-- a set of names
abbrev pub NameSet : Type 0
NameSet = FinSet nat_cmp

-- every number in the set is a name
abbrev pub AreNames : NameSet → Type 0
AreNames s = (n : ℕ) → contains s n ≡ true → IsName n

-- how proofs compare two sets
abbrev pub names_code : Coded NameSet
names_code = code coded_ℕ

-- k numbers from n on
unfoldable pub rising : ℕ → ℕ → List ℕ
rising zero n = []
rising (suc k) n = n ∷ rising k (n + 1)

-- the names in a set, from the least on
unfoldable pub names : NameSet → List ℕ
names s = filter (contains s) (rising 64 1)

-- how many numbers of a list pass a test
abbrev pub how_many : (ℕ → Bool) → List ℕ → ℕ
how_many p [] = 0
how_many p (x ∷ xs) = cond (p x) 1 0 + how_many p xs

-- how many names a set has
unfoldable pub count_of : NameSet → ℕ
count_of s = how_many (contains s) (rising 64 1)

-- whether two sets have the same names
abbrev pub same_names : NameSet → NameSet → Bool
same_names a b = is_subset a b && is_subset b a
