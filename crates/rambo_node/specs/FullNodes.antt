-- A node with its stamps and bases: which copies it need not send to another again
use Rattle.std.specs.Prelude.{◌≡◌, ℕ, replicate, List, [], ◌∷◌, Option, Some, None}
use Rattle.std.specs.FinMap as map
use Rattle.rambo_names.specs.Quorums.{QuorumSystem}
use Rattle.rambo_tag.specs.declared.keyed_version.KeyedVersion.{KeyedVersion}
use Rattle.rambo_tag.specs.Copies.{Copies}
use Rattle.rambo_tag.specs.Stamps.{Stamps, stamps_merged, IsSince}
use Rattle.rambo_gossip.specs.Kinds.{Kind}
use Rattle.rambo_gossip.specs.Kinds as kind
use Rattle.rambo_gossip.specs.Letters.{LetterState, letter_with}
use Rattle.rambo_node.specs.Acts.{Act}
use Rattle.rambo_node.specs.Changes.{made_by, advanced}
use Rattle.rambo_node.specs.Letters.{letter_for}
use Rattle.rambo_node.specs.Nodes.{NodeState, Beside, RoomyNode, first_node, open_call, heard_from, raised}
use Rattle.rambo_node.specs.Acts as act

-- stamps: of each key the phase number before the step that last changed its copy; bases: of the names 1, 2, .. the
-- greatest heard number that their letters carried
pub record FullNode (Q : Type 0) : Type 0 where
  pub state : NodeState Q
  pub stamps : Stamps
  pub bases : List ℕ

-- the heard number that a letter carries: the greatest phase number of its addressee that its sender had heard
abbrev pub heard_in : {Q : Type 0} → Kind Q → ℕ
heard_in kind.Join = 0
heard_in (kind.Gossip g) = g.heard

-- a copy that a set puts is stamped
abbrev pub stamp_put : ℕ → Stamps → Option KeyedVersion → Stamps
stamp_put now s None = s
stamp_put now s (Some c) = map.insert s c.key now

-- and so is each copy of a letter that is newer than what is held
abbrev pub stamps_heard : {Q : Type 0} → NodeState Q → Stamps → Kind Q → Stamps
stamps_heard x s kind.Join = s
stamps_heard x s (kind.Gossip g) = stamps_merged x.number x.registers s g.copies

-- the stamps after an act: what it puts or merges anew has the phase number before it
abbrev pub stamps_after : {Q : Type 0} → NodeState Q → Stamps → Act Q → Stamps
stamps_after x s (act.Hear l) = stamps_heard x s l.kind
stamps_after x s (act.Advance id) = stamp_put x.number s (advanced x id (open_call x id)).deed.copy
stamps_after x s _ = s

-- the bases after an act: a letter raises that of its sender to the heard number that it carries
abbrev pub bases_after : {Q : Type 0} → List ℕ → Act Q → List ℕ
bases_after b (act.Hear l) = raised b l.sender (heard_in l.kind)
bases_after b _ = b

-- stamps and bases after an act
abbrev pub beside_after : {Q : Type 0} → NodeState Q → Beside → Act Q → Beside
beside_after x b a = record { stamps = stamps_after x b.stamps a; bases = bases_after b.bases a }

-- and after a letter of j that says this
abbrev pub beside_heard : {Q : Type 0} → NodeState Q → Beside → ℕ → Kind Q → Beside
beside_heard x b j k = record { stamps = stamps_heard x b.stamps k; bases = raised b.bases j (heard_in k) }

-- at first nothing is stamped and no letter has come
abbrev pub first_beside : Beside
first_beside = record { stamps = map.empty; bases = replicate 64 0 }

-- a node without the room that it has made
abbrev pub full : {Q : Type 0} → RoomyNode Q → FullNode Q
full v = record { state = v.state; stamps = v.beside.stamps; bases = v.beside.bases }

-- what an act makes that isn't refused
unfoldable pub full_after : {Q : Type 0} → FullNode Q → Act Q → FullNode Q
full_after v a = record { state = (made_by v.state a).node; stamps = stamps_after v.state v.stamps a; bases = bases_after v.bases a }

-- a node after a list of acts, none of which was refused
abbrev pub fully_replayed : {Q : Type 0} → FullNode Q → List (Act Q) → FullNode Q
fully_replayed v [] = v
fully_replayed v (a ∷ later) = fully_replayed (full_after v a) later

-- a node of a store at first
abbrev pub first_full : {Q : Type 0} → QuorumSystem Q → Q → ℕ → FullNode Q
first_full s founders n = record { state = first_node s founders n; stamps = map.empty; bases = replicate 64 0 }

-- what a node has since its base for a name
abbrev pub IsDelta : {Q : Type 0} → FullNode Q → ℕ → Copies → Type 0
IsDelta v to p = IsSince v.state.registers v.stamps (heard_from v.bases to) p

-- a node's letter with these copies in place of all that it has
abbrev pub delta_letter : {Q : Type 0} → FullNode Q → ℕ → Copies → LetterState Q
delta_letter v to p = letter_with (letter_for v.state to) p

-- such a letter with what it has since its base for its addressee
abbrev pub IsDeltaLetter : {Q : Type 0} → FullNode Q → ℕ → LetterState Q → Type 0
IsDeltaLetter v to l = (p : Copies) × IsDelta v to p × (l ≡ delta_letter v to p)
