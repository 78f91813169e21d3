-- Collections: how a node has the oldest configuration removed (Lynch and Shvartsman, "RAMBO", DISC 2002)
use Rattle.std.specs.Prelude.{ℕ, ◌+◌, Bool, false, nat_le, nat_lt, if◌then◌else◌, length, Option, None, Some, Result, Ok, Err}
use Rattle.std.specs.FinSet as set
use Rattle.rambo_names.specs.declared.refusal.Refusal.{Refusal}
use Rattle.rambo_names.specs.declared.refusal.Refusal.TheVariants as refusal
use Rattle.rambo_names.specs.Names.{NameSet}
use Rattle.rambo_names.specs.Quorums.{QuorumSystem}
use Rattle.rambo_config_map.specs.Maps.{MapState, active_at}
use Rattle.rambo_gc.specs.declared.stage.Stage.{Stage}
use Rattle.rambo_gc.specs.declared.stage.Stage.TheVariants.{First, Second}
use Rattle.rambo_gc.specs.declared.gc_move.GcMove.{GcMove}
use Rattle.rambo_gc.specs.declared.gc_move.GcMove.TheVariants.{Propagating, Done}

-- the node that collects, the place that it wants removed, the number and stage of the question that it asks, and who
-- replied to it
pub record CollectionState : Type 0 where
  pub node : ℕ
  pub place : ℕ
  pub number : ℕ
  pub stage : Stage
  pub repliers : NameSet

-- the set of one name
abbrev pub only : ℕ → NameSet
only n = set.insert set.empty n

-- node me begins to collect its lowest active place, and replies to itself
abbrev pub opened : {Q : Type 0} → MapState Q → ℕ → ℕ → CollectionState
opened m number me = record { node = me; place = m.floor; number = number; stage = First; repliers = only me }

-- which needs that the next place is active too
abbrev pub open_answer : {Q : Type 0} → MapState Q → ℕ → ℕ → Result CollectionState Refusal
open_answer m number me = if nat_le (length m.configs) 1 then Err refusal.NothingToCollect else Ok (opened m number me)

-- the collection after a letter from j, who had heard this number
abbrev pub heard : CollectionState → ℕ → ℕ → CollectionState
heard g j number = if nat_le g.number number then record g { repliers = set.insert g.repliers j } else g

-- the place whose configuration is asked: its own first, and then the next
abbrev pub asked_place : Stage → ℕ → ℕ
asked_place First place = place
asked_place Second place = place + 1

-- the names contain a quorum of the configuration, if there is one
abbrev pub has_quorum : {Q : Type 0} → QuorumSystem Q → Option Q → NameSet → Bool
has_quorum s None who = false
has_quorum s (Some q) who = s.is_quorum q who

-- the repliers contain a quorum of the configuration that is asked
abbrev pub is_met : {Q : Type 0} → QuorumSystem Q → MapState Q → CollectionState → Bool
is_met s m g = has_quorum s (active_at m (asked_place g.stage g.place)) g.repliers

-- what a met question leads to
abbrev pub next_move : Stage → GcMove
next_move First = Propagating
next_move Second = Done

-- what an advance does: it ends the collection of a place that is removed already, and else needs that quorum
abbrev pub move_of : {Q : Type 0} → QuorumSystem Q → MapState Q → CollectionState → Option GcMove
move_of s m g =
    if nat_lt g.place m.floor then Some Done
    else (if is_met s m g then Some (next_move g.stage) else None)

abbrev pub advance_answer : Option GcMove → Result GcMove Refusal
advance_answer None = Err refusal.NotYet
advance_answer (Some move) = Ok move

-- the second stage begins under a new number, with the node's own reply alone. A collection that is done is dropped by
-- its owner
abbrev pub moved : Option GcMove → ℕ → CollectionState → CollectionState
moved None number g = g
moved (Some Done) number g = g
moved (Some Propagating) number g = record { node = g.node; place = g.place; number = number; stage = Second; repliers = only g.node }

abbrev pub advanced : {Q : Type 0} → QuorumSystem Q → MapState Q → ℕ → CollectionState → CollectionState
advanced s m number g = moved (move_of s m g) number g
