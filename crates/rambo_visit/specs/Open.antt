-- What is open at a node
use Rattle.std.specs.Prelude.{ℕ, Bool, true, false, map, Option, None, Some}
use Rattle.std.specs.FinSet as set
use Rattle.rambo_names.specs.Names.{NameSet}
use Rattle.rambo_calls.specs.Calls.{CallState}
use Rattle.rambo_gc.specs.Collections.{CollectionState}
use Rattle.rambo_joiner.specs.declared.status.Status.{Status}
use Rattle.rambo_joiner.specs.declared.status.Status.TheVariants.{Idle, Joining, Active, Stopped}
use Rattle.rambo_node.specs.Nodes.{NodeState}
use Rattle.rambo_outbox.specs.Outboxes.{CallNumbers, OpenedState}
use Rattle.rambo_outbox.specs.declared.opened.BidStage.{BidStage}
use Rattle.rambo_paxos.specs.Attempts.{AttemptState, offer_of}
use Rattle.rambo_paxos.specs.declared.offer.Offer.{Offer}
use Rattle.rambo_paxos.specs.declared.offer.Offer.TheVariants.{Prepare, Propose}

-- the names that a node may write to, by its status and those that it knows; its own may be among them
abbrev pub reach_of : Status → NameSet → NameSet
reach_of Idle known = set.empty
reach_of Joining known = known
reach_of Active known = known
reach_of Stopped known = set.empty

abbrev pub is_joining : Status → Bool
is_joining Idle = false
is_joining Joining = true
is_joining Active = false
is_joining Stopped = false

-- the phase number of a collection that may be open
abbrev pub number_in : Option CollectionState → Option ℕ
number_in None = None
number_in (Some c) = Some c.number

-- how far an attempt is, by what it offers
abbrev pub stage_of : {Q : Type 0} → Offer Q → BidStage
stage_of (Prepare ballot) = record { ballot = ballot; proposes = false }
stage_of (Propose ballot config) = record { ballot = ballot; proposes = true }

abbrev pub stage_in : {Q : Type 0} → Option (AttemptState Q) → Option BidStage
stage_in None = None
stage_in (Some a) = Some (stage_of (offer_of a))

-- the numbers of an open call
abbrev pub call_numbers : {Q : Type 0} → CallState Q → CallNumbers
call_numbers c = record { number = c.number; phase = c.phase.number }

-- what is open at a node, where somebody waits for room or not
abbrev pub open_at : {Q : Type 0} → NodeState Q → Bool → OpenedState Q
open_at x wants_room = record { me = x.name; reach = set.remove (reach_of x.status x.known) x.name; joins = is_joining x.status; calls = map call_numbers x.calls; wants_room = wants_room; collection = number_in x.collection; bid = stage_in x.attempt; configs = x.map.configs }
