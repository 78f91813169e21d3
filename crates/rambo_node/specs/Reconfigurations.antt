-- How a node has the first unknown place's configuration chosen (Lamport, "Paxos Made Simple", 2001), and its lowest
-- place removed (Lynch and Shvartsman, "RAMBO", DISC 2002)
use Rattle.std.specs.Prelude.{◌+◌, nat_lt, if◌then◌else◌, None, Some}
use Rattle.rambo_config_map.specs.Maps.{MapState, end_of, learnt, without_lowest}
use Rattle.rambo_gc.specs.declared.gc_move.GcMove.{GcMove}
use Rattle.rambo_gc.specs.declared.gc_move.GcMove.TheVariants.{Propagating, Done}
use Rattle.rambo_gc.specs.Collections.{CollectionState, next_move}
use Rattle.rambo_gc.specs.Collections as collection
use Rattle.rambo_paxos.specs.Attempts.{AttemptState, opened, rebid, vote_opened, advanced, vote_advanced}
use Rattle.rambo_node.specs.Nodes.{NodeState}

-- an attempt begins: the node's own vote takes its offer
unfoldable pub attempt_opened : {Q : Type 0} → NodeState Q → Q → NodeState Q
attempt_opened x wish = record x {
  attempt = Some (opened (end_of x.map) wish x.vote x.name);
  vote = vote_opened x.vote x.name;
}

-- it is retried with a fresh ballot
unfoldable pub attempt_rebid : {Q : Type 0} → NodeState Q → AttemptState Q → NodeState Q
attempt_rebid x a = record x {
  attempt = Some (rebid a x.vote);
  vote = vote_opened x.vote a.ballot.name;
}

-- it advances from promises to a proposal, which the node's own vote takes
unfoldable pub attempt_moved : {Q : Type 0} → NodeState Q → AttemptState Q → NodeState Q
attempt_moved x a = record x {
  attempt = Some (advanced a x.vote);
  vote = vote_advanced a x.vote;
}

-- its configuration is chosen: it is learnt, and the vote for the next place is empty
unfoldable pub config_learnt : {Q : Type 0} → NodeState Q → AttemptState Q → Q → NodeState Q
config_learnt x a c = record x {
  map = learnt x.map c;
  attempt = None;
  vote = vote_advanced a x.vote;
}

-- it ends where its place has become known
unfoldable pub attempt_ended : {Q : Type 0} → NodeState Q → NodeState Q
attempt_ended x = record x { attempt = None }

-- a collection of the lowest place begins, under a new phase number
unfoldable pub collection_opened : {Q : Type 0} → NodeState Q → NodeState Q
collection_opened x = record x {
  number = x.number + 1;
  collection = Some (collection.opened x.map (x.number + 1) x.name);
}

-- what an advance of a collection does that isn't refused: one whose place is removed already is done
abbrev pub collection_move : {Q : Type 0} → MapState Q → CollectionState → GcMove
collection_move m g = if nat_lt g.place m.floor then Done else next_move g.stage

-- its first quorum had replied: it asks the next configuration, under a new phase number
unfoldable pub collection_moved : {Q : Type 0} → NodeState Q → CollectionState → NodeState Q
collection_moved x g = record x {
  number = x.number + 1;
  collection = Some (collection.moved (Some Propagating) (x.number + 1) g);
}

-- its second quorum had replied, or its place is removed already
unfoldable pub collection_ended : {Q : Type 0} → NodeState Q → CollectionState → NodeState Q
collection_ended x g = record x {
  map = if nat_lt g.place x.map.floor then x.map else without_lowest x.map;
  collection = None;
}
