-- What a node holds, and what a new one holds
use Rattle.std.specs.Prelude.{ℕ, ◌-◌, max, nat_eq, if◌then◌else◌, List, [], Option, None, replicate, slice_index, slice_set}
use Rattle.std.specs.FinSet as set
use Rattle.std.specs.FinMap as map
use Rattle.rambo_names.specs.Names.{NameSet}
use Rattle.rambo_names.specs.Quorums.{QuorumSystem}
use Rattle.rambo_tag.specs.Copies.{Copies}
use Rattle.rambo_tag.specs.Stamps.{Stamps}
use Rattle.rambo_history.specs.declared.event.CallId.{CallId}
use Rattle.rambo_config_map.specs.Maps.{MapState, first_map}
use Rattle.rambo_gc.specs.Collections.{CollectionState}
use Rattle.rambo_paxos.specs.Attempts.{AttemptState}
use Rattle.rambo_paxos.specs.Votes.{VoteState, empty_vote}
use Rattle.rambo_joiner.specs.declared.status.Status.{Status}
use Rattle.rambo_joiner.specs.declared.status.Status.TheVariants.{Idle, Active}
use Rattle.rambo_calls.specs.Calls.{CallState, find_call}
use Rattle.rambo_calls.specs.Kept.{KeptCalls}

-- `status`, `known`: whether it takes part, and who does, as far as it knows. `registers`: its copies. `map`: its
-- configurations. `number`: its phase number. `made`: the number of its last call. `heard`: of the names 1, 2, .. the
-- greatest phase number that it heard. `calls`: its open calls, the oldest first. `collection`: of its lowest place, if
-- it is open. `attempt`: to have a configuration chosen, if one is open. `vote`: for the first place that the map
-- doesn't know
pub record NodeState (Q : Type 0) : Type 0 where
  pub name : ℕ
  pub status : Status
  pub known : NameSet
  pub registers : Copies
  pub map : MapState Q
  pub number : ℕ
  pub made : ℕ
  pub heard : List ℕ
  pub calls : List (CallState Q)
  pub collection : Option CollectionState
  pub attempt : Option (AttemptState Q)
  pub vote : VoteState Q

-- the room that a node has made: for how many more keys, and its open calls as they are stored
pub record Room (Q : Type 0) : Type 0 where
  pub keys : ℕ
  pub calls : KeptCalls Q

-- what a node keeps for letters that carry only what is new. Of each key it has the phase number before the change that
-- last put or merged its copy. Of the names 1, 2, .. it has the greatest phase number of the node that their letters
-- carried as heard
pub record Beside : Type 0 where
  pub stamps : Stamps
  pub bases : List ℕ

-- a node, the room that it has made, and its stamps and bases
pub record RoomyNode (Q : Type 0) : Type 0 where
  pub state : NodeState Q
  pub room : Room Q
  pub beside : Beside

-- the open call of an id: none where the id is of another node
abbrev pub open_call : {Q : Type 0} → NodeState Q → CallId → Option (CallState Q)
open_call x id = if nat_eq id.name x.name then find_call id.number x.calls else None

-- the greatest phase number of a name that was heard
abbrev pub heard_from : List ℕ → ℕ → ℕ
heard_from heard name = slice_index heard (name - 1)

abbrev pub raised : List ℕ → ℕ → ℕ → List ℕ
raised heard name number = slice_set heard (name - 1) (max (heard_from heard name) number)

-- founders are active from the start and know each other
abbrev pub first_status : NameSet → ℕ → Status
first_status founders name = if set.contains founders name then Active else Idle

abbrev pub first_known : NameSet → ℕ → NameSet
first_known founders name = if set.contains founders name then founders else set.empty

-- every map starts with the founders at place 0
unfoldable pub first_node : {Q : Type 0} → QuorumSystem Q → Q → ℕ → NodeState Q
first_node s founders name = record {
  name = name;
  status = first_status (s.members founders) name;
  known = first_known (s.members founders) name;
  registers = map.empty;
  map = first_map founders;
  number = 0;
  made = 0;
  heard = replicate 64 0;
  calls = [];
  collection = None;
  attempt = None;
  vote = empty_vote;
}
