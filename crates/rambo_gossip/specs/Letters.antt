-- Letters, also with other copies
use Rattle.std.specs.Prelude.{ℕ, Option, None, Some}
use Rattle.rambo_tag.specs.Copies.{Copies}
use Rattle.rambo_gossip.specs.Gossips.{GossipState}
use Rattle.rambo_gossip.specs.Kinds.{Kind}
use Rattle.rambo_gossip.specs.Kinds as kind

-- who sends it, whom it goes to, and what it says
pub record LetterState (Q : Type 0) : Type 0 where
  pub sender : ℕ
  pub addressee : ℕ
  pub kind : Kind Q

-- what a letter says: what an active node knows, or that its sender wants to join
abbrev pub kind_of : {Q : Type 0} → Option (GossipState Q) → Kind Q
kind_of None = kind.Join
kind_of (Some g) = kind.Gossip g

abbrev pub gossip_with : {Q : Type 0} → GossipState Q → Copies → GossipState Q
gossip_with g copies = record g { copies = copies }

abbrev pub kind_with : {Q : Type 0} → Kind Q → Copies → Kind Q
kind_with kind.Join copies = kind.Join
kind_with (kind.Gossip g) copies = kind.Gossip (gossip_with g copies)

-- a letter with these copies in place of its own
abbrev pub letter_with : {Q : Type 0} → LetterState Q → Copies → LetterState Q
letter_with l copies = record l { kind = kind_with l.kind copies }
