-- Letters as they are stored share what their senders reported of configurations: each has the place of its own
use Rattle.std.specs.Prelude.{◌≡◌, ◌<◌, ℕ, true, if◌then◌else◌, List, Option, None, slice_get, Some}
use Rattle.std.specs.Option.{option_map}
use Rattle.std.specs.FinMap as copies
use Rattle.rambo_gossip.specs.Gossips.{GossipState}
use Rattle.rambo_letters.specs.declared.sent.Sent.{Sent}
use Rattle.rambo_gossip.specs.declared.standing.Standing.{Standing}
use Rattle.rambo_gossip.specs.Letters.{kind_of}
use Rattle.rambo_letters.specs.Kept.{SentState}

-- what an active node knew, with this as its report of configurations
abbrev pub gossip_with : {Q : Type 0} → Sent → Standing Q → GossipState Q
gossip_with s t = record { known = s.known; copies = copies.empty; map = t.map; number = s.number; heard = s.heard; vote = t.vote; offer = t.offer }

-- with the standing at its place
abbrev pub gossip_in : {Q : Type 0} → List (Standing Q) → Sent → Option (GossipState Q)
gossip_in standings s = if s.gossips then option_map (gossip_with s) (slice_get standings s.standing) else None

-- the letter that is stored so, where the standings are these
abbrev pub sent_in : {Q : Type 0} → List (Standing Q) → Sent → SentState Q
sent_in standings s = record { letter = record { sender = s.sender; addressee = s.addressee; kind = kind_of (gossip_in standings s) }; told = s.told }

-- its standing is one of this many
abbrev pub IsHeld : ℕ → Sent → Type 0
IsHeld count s = s.gossips ≡ true → s.standing < count

abbrev pub AreHeld : ℕ → List Sent → Type 0
AreHeld count ss = (place : ℕ) (s : Sent) → slice_get ss place ≡ Some s → IsHeld count s
