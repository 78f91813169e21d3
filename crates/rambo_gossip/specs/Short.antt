-- Letters that leave out copies which their addressee doesn't need
use Rattle.std.specs.Prelude.{◌≡◌, ℕ, List, None, Some, false}
use Rattle.std.specs.FinMap as map
use Rattle.rambo_tag.specs.Copies.{Copies}
use Rattle.rambo_tag.specs.Tags.{is_newer}
use Rattle.rambo_tag.specs.declared.version.Version.{Version}
use Rattle.rambo_gossip.specs.Letters.{LetterState, letter_with}
use Rattle.rambo_gossip.specs.Kinds.{Kind}
use Rattle.rambo_gossip.specs.Kinds as kind

-- the copies that a letter carries; a wish to join carries none
abbrev pub copies_in : {Q : Type 0} → Kind Q → Copies
copies_in kind.Join = map.empty
copies_in (kind.Gossip g) = g.copies

-- a letter can replace a whole one where its addressee holds these copies: the two differ in copies alone. Each of its
-- copies is one of the whole letter's, and each that it lacks is at most what the addressee holds
pub record IsShort {Q : Type 0} (l whole : LetterState Q) (held : Copies) : Type 0 where
  pub rest : letter_with l (copies_in whole.kind) ≡ whole
  pub part : (key : List ℕ) (v : Version) → map.get (copies_in l.kind) key ≡ Some v → map.get (copies_in whole.kind) key ≡ Some v
  pub held_anyway : (key : List ℕ) (v : Version) → map.get (copies_in whole.kind) key ≡ Some v → map.get (copies_in l.kind) key ≡ None
      → is_newer (map.get held key) v ≡ false
