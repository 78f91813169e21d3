-- What merging keeps, in whatever order and however often nodes do it
use Rattle.std.specs.Prelude.{◌≡◌, ℕ, false, List, ◌++◌, Some}
use Rattle.std.specs.FinMap.{get}
use Rattle.rambo_tag.specs.declared.keyed_version.KeyedVersion.{KeyedVersion}
use Rattle.rambo_tag.specs.declared.version.Version.{Version}
use Rattle.rambo_tag.specs.Tags.{is_newer, greater}
use Rattle.rambo_tag.specs.Copies.{Copies}
use Rattle.rambo_tag.specs.Logs.{greatest_of}

abbrev pub IsIdempotent : (Copies → Copies → Copies) → Type 0
IsIdempotent merge = (a : Copies) → merge a a ≡ a

abbrev pub IsCommutative : (Copies → Copies → Copies) → Type 0
IsCommutative merge = (a b : Copies) → merge a b ≡ merge b a

abbrev pub IsAssociative : (Copies → Copies → Copies) → Type 0
IsAssociative merge = (a b c : Copies) → merge (merge a b) c ≡ merge a (merge b c)

-- no copy is newer than what replaced it
abbrev pub NeverLowers : (Copies → Copies → Copies) → Type 0
NeverLowers merge = (a b : Copies) (key : List ℕ) (v : Version) → get a key ≡ Some v → is_newer (get (merge a b) key) v ≡ false

-- of each key the greater copy remains
abbrev pub TakesGreater : (Copies → Copies → Copies) → Type 0
TakesGreater merge = (a b : Copies) (key : List ℕ) → get (merge a b) key ≡ greater (get a key) (get b key)

-- what is appended to a log is merged into its copies
abbrev pub JoinsLogs : (Copies → Copies → Copies) → Type 0
JoinsLogs merge = (log more : List KeyedVersion) → greatest_of (log ++ more) ≡ merge (greatest_of log) (greatest_of more)
