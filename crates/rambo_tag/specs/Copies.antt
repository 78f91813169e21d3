-- The copies that a node holds, and how they are merged
use Rattle.std.specs.Prelude.{ℕ, ◌≤◌, if◌then◌else◌, List, [], ◌∷◌}
use Rattle.std.specs.Ordering.{nat_cmp}
use Rattle.std.specs.Cmp.Lexicographic.{slice_cmp}
use Rattle.std.specs.FinMap.{FinMap, code, insert, get, entries, len}
use Rattle.std.specs.Coded.{Coded, coded_list, coded_ℕ}
use Rattle.rambo_tag.specs.contracts.version.Version.{the_row}
use Rattle.rambo_tag.specs.declared.version.Version.{Version}
use Rattle.rambo_tag.specs.Tags.{is_newer}

-- a finite map from keys to copies
abbrev pub Copies : Type 0
Copies = FinMap (slice_cmp nat_cmp) Version

-- how proofs compare two such maps
abbrev pub copies_code : Coded Copies
copies_code = code (coded_list coded_ℕ) the_row.coded

-- the copy takes the key's place where it is newer
abbrev pub with_newer : Copies → List ℕ → Version → Copies
with_newer a key v = if is_newer (get a key) v then insert a key v else a

abbrev pub with_all : Copies → List (List ℕ × Version) → Copies
with_all a [] = a
with_all a (e ∷ es) = with_all (with_newer a e.0 e.1) es

-- the greater copy of each key
unfoldable pub joined : Copies → Copies → Copies
joined a b = with_all a (entries b)

-- there is room for each key of what is sent
abbrev pub HasRoom : ℕ → Copies → Type 0
HasRoom spare sent = len sent ≤ spare
