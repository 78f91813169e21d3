-- What a node makes of a letter (Lynch and Shvartsman, "RAMBO", DISC 2002)
use Rattle.std.specs.Prelude.{ℕ, map, Option, None, Some}
use Rattle.std.specs.FinSet as set
use Rattle.rambo_tag.specs.Copies.{joined}
use Rattle.rambo_config_map.specs.Maps.{merged_map}
use Rattle.rambo_gc.specs.Collections.{CollectionState}
use Rattle.rambo_gc.specs.Collections as collection
use Rattle.rambo_paxos.specs.Attempts.{AttemptState}
use Rattle.rambo_paxos.specs.Votes.{VoteState}
use Rattle.rambo_joiner.specs.Statuses.{woken}
use Rattle.rambo_gossip.specs.Letters.{LetterState}
use Rattle.rambo_gossip.specs.Gossips.{GossipState}
use Rattle.rambo_gossip.specs.Kinds.{Kind}
use Rattle.rambo_gossip.specs.Kinds as kind
use Rattle.rambo_calls.specs.Hearing as calls
use Rattle.rambo_calls.specs.Hearing.{heard_call}
use Rattle.rambo_bids.specs.Hearing as bids
use Rattle.rambo_node.specs.Nodes.{NodeState, raised}

-- the phase number after a letter: greater by one where some phase restarts
abbrev pub number_after : {Q : Type 0} → NodeState Q → GossipState Q → ℕ
number_after x g = calls.number_after x.number g.heard g.map x.calls

-- a collection counts a reply to it
abbrev pub collection_after : Option CollectionState → ℕ → ℕ → Option CollectionState
collection_after None j heard = None
collection_after (Some c) j heard = Some (collection.heard c j heard)

-- its vote and its attempt hear what is for the first place that neither knows
abbrev pub vote_after : {Q : Type 0} → NodeState Q → GossipState Q → VoteState Q
vote_after x g = bids.vote_after x.map x.vote g.map g.offer

abbrev pub attempt_after : {Q : Type 0} → NodeState Q → ℕ → GossipState Q → Option (AttemptState Q)
attempt_after x j g = bids.attempt_after x.map x.attempt j g.map g.vote

-- the node after gossip from j: everything is merged, open calls count it or restart, a collection counts it, and votes
-- come last
unfoldable pub heard_gossip : {Q : Type 0} → NodeState Q → ℕ → GossipState Q → NodeState Q
heard_gossip x j g = record x {
  status = woken x.status;
  known = set.union x.known g.known;
  registers = joined x.registers g.copies;
  map = merged_map x.map g.map;
  number = number_after x g;
  heard = raised x.heard j g.number;
  calls = map (heard_call g.heard j g.map (number_after x g) (merged_map x.map g.map) x.name) x.calls;
  collection = collection_after x.collection j g.heard;
  attempt = attempt_after x j g;
  vote = vote_after x g;
}

-- all of that but the copies
abbrev pub heard_rest : {Q : Type 0} → NodeState Q → ℕ → GossipState Q → NodeState Q
heard_rest x j g = record (heard_gossip x j g) { registers = x.registers }

-- a letter of a joining node makes its sender known
unfoldable pub heard_join : {Q : Type 0} → NodeState Q → ℕ → NodeState Q
heard_join x j = record x { known = set.insert x.known j }

abbrev pub heard_kind : {Q : Type 0} → NodeState Q → ℕ → Kind Q → NodeState Q
heard_kind x j kind.Join = heard_join x j
heard_kind x j (kind.Gossip g) = heard_gossip x j g

abbrev pub heard_letter : {Q : Type 0} → NodeState Q → LetterState Q → NodeState Q
heard_letter x l = heard_kind x l.sender l.kind
