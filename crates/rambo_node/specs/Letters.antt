-- The letter that a node sends
use Rattle.std.specs.Prelude.{ℕ, if◌then◌else◌}
use Rattle.rambo_config_map.specs.Maps.{end_of}
use Rattle.rambo_gossip.specs.Letters.{LetterState}
use Rattle.rambo_gossip.specs.Gossips.{GossipState}
use Rattle.rambo_gossip.specs.Kinds as kind
use Rattle.rambo_joiner.specs.Statuses.{is_active}
use Rattle.rambo_bids.specs.Hearing.{offer_for}
use Rattle.rambo_node.specs.Nodes.{NodeState, heard_from}

-- what an active node sends to another
abbrev pub gossip_for : {Q : Type 0} → NodeState Q → ℕ → GossipState Q
gossip_for x to = record { known = x.known; copies = x.registers; map = x.map; number = x.number; heard = heard_from x.heard to; vote = x.vote; offer = offer_for (end_of x.map) x.attempt }

-- an active node sends what it knows, and a joining one that it wants to join
abbrev pub letter_for : {Q : Type 0} → NodeState Q → ℕ → LetterState Q
letter_for x to = record { sender = x.name; addressee = to; kind = if is_active x.status then kind.Gossip (gossip_for x to) else kind.Join }
