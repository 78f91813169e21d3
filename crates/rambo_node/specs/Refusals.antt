-- Why a node refuses an act of each kind: of the causes that hold, the least number is answered
use Rattle.std.specs.Prelude.{ℕ, ◌^◌, ◌-◌, Bool, true, false, not, ◌&&◌, ◌||◌, nat_eq, nat_le, nat_lt, List, [], ◌∷◌, length, Option, None, Some, is_none}
use Rattle.std.specs.FinSet as set
use Rattle.std.specs.FinMap as map
use Rattle.rambo_names.specs.declared.refusal.Refusal.TheVariants.{NameUsed, NotActive, Stopped, NotKnown, NoSuchCall, NotYet, Busy, NothingToCollect, CollectOpen, NoCollect, NoRecon, EmptyMembers, KeyTooLong, ValueTooLong, NumbersSpent}
use Rattle.rambo_names.specs.Names.{NameSet, count_of}
use Rattle.rambo_names.specs.Quorums.{QuorumSystem}
use Rattle.rambo_names.specs.Refusals.{Cause, cause}
use Rattle.rambo_tag.specs.Tags.{tag_of}
use Rattle.rambo_history.specs.declared.event.CallId.{CallId}
use Rattle.rambo_history.specs.declared.operation.Op.{Op}
use Rattle.rambo_history.specs.declared.operation.Op.TheVariants as op
use Rattle.rambo_history.specs.Calls.{key_of}
use Rattle.rambo_config_map.specs.Maps.{end_of}
use Rattle.rambo_gc.specs.declared.gc_move.GcMove.{GcMove}
use Rattle.rambo_gc.specs.declared.gc_move.GcMove.TheVariants.{Propagating, Done}
use Rattle.rambo_gc.specs.Collections.{CollectionState, move_of}
use Rattle.rambo_paxos.specs.Votes.{is_spent}
use Rattle.rambo_joiner.specs.Statuses.{is_idle, is_early, is_stopped}
use Rattle.rambo_gossip.specs.Kinds.{Kind}
use Rattle.rambo_gossip.specs.Kinds as kind
use Rattle.rambo_calls.specs.Calls.{is_missing, is_unmet, query_in}
use Rattle.rambo_calls.specs.Hearing.{any_gap}
use Rattle.rambo_bids.specs.Wishes.{wish_causes, is_for, attempt_waits}
use Rattle.rambo_node.specs.Nodes.{NodeState, open_call}

-- whether a counter can't rise
abbrev pub is_last : ℕ → Bool
is_last n = nat_eq n (2 ^ 64 - 1)

abbrev pub value_is_long : Op → Bool
value_is_long (op.Get key) = false
value_is_long (op.Set key value) = nat_lt 4096 (length value)

abbrev pub join_causes : {Q : Type 0} → NodeState Q → NameSet → List Cause
join_causes x contacts = cause NameUsed (not (is_idle x.status)) ∷ cause EmptyMembers (nat_eq (count_of contacts) 0) ∷ []

abbrev pub call_causes : {Q : Type 0} → NodeState Q → Op → List Cause
call_causes x o =
    cause NotActive (is_early x.status) ∷ cause Stopped (is_stopped x.status) ∷ cause Busy (nat_le 64 (length x.calls))
    ∷ cause KeyTooLong (nat_lt 256 (length (key_of o))) ∷ cause ValueTooLong (value_is_long o)
    ∷ cause NumbersSpent (is_last x.number) ∷ cause NumbersSpent (is_last x.made) ∷ []

abbrev pub send_causes : {Q : Type 0} → NodeState Q → ℕ → List Cause
send_causes x to =
    cause NotActive (is_idle x.status) ∷ cause Stopped (is_stopped x.status)
    ∷ cause NotKnown (nat_eq to x.name || not (set.contains x.known to)) ∷ []

-- whether a letter would restart a phase
abbrev pub restarts : {Q : Type 0} → NodeState Q → Kind Q → Bool
restarts x kind.Join = false
restarts x (kind.Gossip g) = any_gap g.heard g.map x.calls

abbrev pub hear_causes : {Q : Type 0} → NodeState Q → Kind Q → List Cause
hear_causes x k =
    cause NotActive (is_idle x.status) ∷ cause Stopped (is_stopped x.status)
    ∷ cause NumbersSpent (restarts x k && is_last x.number) ∷ []

-- whether a set can take no further tag
abbrev pub tags_spent : {Q : Type 0} → NodeState Q → Op → Bool
tags_spent x (op.Get key) = false
tags_spent x (op.Set key value) = is_last (tag_of (map.get x.registers key)).sequence

-- whether the query of what is asked for can't advance
abbrev pub query_spent : {Q : Type 0} → NodeState Q → Option Op → Bool
query_spent x None = false
query_spent x (Some o) = is_last x.number || tags_spent x o

abbrev pub advance_causes : {Q : Type 0} → QuorumSystem Q → NodeState Q → CallId → List Cause
advance_causes s x id =
    let found = open_call x id in
    cause NotActive (is_early x.status) ∷ cause Stopped (is_stopped x.status) ∷ cause NoSuchCall (is_missing found)
    ∷ cause NotYet (is_unmet s found) ∷ cause NumbersSpent (query_spent x (query_in found)) ∷ []

abbrev pub again_causes : {Q : Type 0} → NodeState Q → CallId → List Cause
again_causes x id =
    cause NotActive (is_early x.status) ∷ cause Stopped (is_stopped x.status) ∷ cause NoSuchCall (is_missing (open_call x id))
    ∷ cause NumbersSpent (is_last x.number) ∷ []

abbrev pub stop_causes : {Q : Type 0} → NodeState Q → List Cause
stop_causes x = cause NotActive (is_idle x.status) ∷ cause Stopped (is_stopped x.status) ∷ []

abbrev pub collect_causes : {Q : Type 0} → NodeState Q → List Cause
collect_causes x =
    cause NotActive (is_early x.status) ∷ cause Stopped (is_stopped x.status)
    ∷ cause NothingToCollect (nat_le (length x.map.configs) 1) ∷ cause CollectOpen (not (is_none x.collection))
    ∷ cause NumbersSpent (is_last x.number) ∷ []

-- what the advance of a collection would do, if one is open and it wouldn't be refused
abbrev pub collection_turn : {Q : Type 0} → QuorumSystem Q → NodeState Q → Option CollectionState → Option GcMove
collection_turn s x None = None
collection_turn s x (Some g) = move_of s x.map g

-- whether that asks the next configuration, under a new number
abbrev pub needs_number : Option GcMove → Bool
needs_number None = false
needs_number (Some Propagating) = true
needs_number (Some Done) = false

abbrev pub advance_collect_causes : {Q : Type 0} → QuorumSystem Q → NodeState Q → List Cause
advance_collect_causes s x =
    let turn = collection_turn s x x.collection in
    cause NotActive (is_early x.status) ∷ cause Stopped (is_stopped x.status)
    ∷ cause NotYet (not (is_none x.collection) && is_none turn) ∷ cause NoCollect (is_none x.collection)
    ∷ cause NumbersSpent (needs_number turn && is_last x.number) ∷ []

abbrev pub recon_causes : {Q : Type 0} → QuorumSystem Q → NodeState Q → Q → List Cause
recon_causes s x wish =
    cause NotActive (is_early x.status) ∷ cause Stopped (is_stopped x.status) ∷ wish_causes s x.name x.known x.map x.vote x.attempt wish

abbrev pub rebid_causes : {Q : Type 0} → NodeState Q → List Cause
rebid_causes x =
    cause NotActive (is_early x.status) ∷ cause Stopped (is_stopped x.status)
    ∷ cause NoRecon (not (is_for (end_of x.map) x.attempt)) ∷ cause NumbersSpent (is_spent x.vote) ∷ []

abbrev pub advance_recon_causes : {Q : Type 0} → QuorumSystem Q → NodeState Q → List Cause
advance_recon_causes s x =
    cause NotActive (is_early x.status) ∷ cause Stopped (is_stopped x.status)
    ∷ cause NotYet (attempt_waits s x.map x.attempt) ∷ cause NoRecon (is_none x.attempt) ∷ []
