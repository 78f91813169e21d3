-- Lists of what changed
use Rattle.std.specs.Prelude.{◌≢◌, ◌≤◌, List, AllPairs}
use Rattle.rambo_tag.specs.declared.keyed_version.KeyedVersion.{KeyedVersion}
use Rattle.rambo_tag.specs.Stamps.{Stamps, stamp_at}

-- no two of these copies are of one key
abbrev pub HasEachKeyOnce : List KeyedVersion → Type 0
HasEachKeyOnce changes = AllPairs (λ a b. a.key ≢ b.key) changes

-- no stamp is above one before it
abbrev pub IsLatestFirst : Stamps → List KeyedVersion → Type 0
IsLatestFirst s changes = AllPairs (λ a b. stamp_at s b.key ≤ stamp_at s a.key) changes
