-- The copies that an act brings to a node from another
use Rattle.std.specs.Prelude.{List, [], ◌∷◌, Option, None, Some}
use Rattle.std.specs.FinMap as copies
use Rattle.rambo_tag.specs.declared.keyed_version.KeyedVersion.{KeyedVersion}
use Rattle.rambo_tag.specs.Copies.{Copies}
use Rattle.rambo_gossip.specs.Kinds.{Kind}
use Rattle.rambo_gossip.specs.Kinds as kind
use Rattle.rambo_node.specs.Acts.{Act}
use Rattle.rambo_node.specs.Acts as act

-- the copies of gossip
abbrev pub copies_in : {Q : Type 0} → Kind Q → Copies
copies_in kind.Join = copies.empty
copies_in (kind.Gossip g) = g.copies

-- no act but a letter that comes brings any
abbrev pub copies_brought : {Q : Type 0} → Act Q → Copies
copies_brought (act.Hear l) = copies_in l.kind
copies_brought _ = copies.empty

-- a copy, if there is one, as a list
abbrev pub listed : Option KeyedVersion → List KeyedVersion
listed None = []
listed (Some c) = c ∷ []
