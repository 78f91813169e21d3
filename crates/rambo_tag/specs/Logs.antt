-- Lists of copies, and the greatest copy of each key
use Rattle.std.specs.Prelude.{if◌then◌else◌, List, [], ◌∷◌}
use Rattle.std.specs.FinMap.{empty, insert, get}
use Rattle.rambo_tag.specs.declared.keyed_version.KeyedVersion.{KeyedVersion}
use Rattle.rambo_tag.specs.Tags.{is_newer}
use Rattle.rambo_tag.specs.Copies.{Copies, with_newer}

-- a map with the greater copy of each key of a list
abbrev pub greatest_after : Copies → List KeyedVersion → Copies
greatest_after a [] = a
greatest_after a (c ∷ cs) = greatest_after (with_newer a c.key c.version) cs

-- the greatest copy of each key of a list
unfoldable pub greatest_of : List KeyedVersion → Copies
greatest_of cs = greatest_after empty cs

-- the copies that are newer than what the map, with those before, holds
abbrev pub lacking : Copies → List KeyedVersion → List KeyedVersion
lacking a [] = []
lacking a (c ∷ cs) = if is_newer (get a c.key) c.version then c ∷ lacking (insert a c.key c.version) cs else lacking a cs
