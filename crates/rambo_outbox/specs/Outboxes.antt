-- What an outbox holds, and what it reads of its node
use Rattle.std.specs.Prelude.{ℕ, Bool, false, nat_eq, if◌then◌else◌, List, [], map, Option, None, Some}
use Rattle.std.specs.FinSet as set
use Rattle.rambo_names.specs.Names.{NameSet}
use Rattle.rambo_calls.specs.declared.open_call.OpenCall.{OpenCall}
use Rattle.rambo_outbox.specs.declared.entry.Entry.{Entry}
use Rattle.rambo_outbox.specs.declared.opened.BidStage.{BidStage}
use Rattle.rambo_outbox.specs.declared.opened.Opened.{Opened}
use Rattle.rambo_outbox.specs.Waiting.{forgotten}

-- waiting: the calls that somebody waits for
-- asked, bid, joins: what was asked for, which is the phase numbers up to one, a bid, and to join
-- owes: who asked and is owed a letter
-- first, silent: who was asked first and hasn't replied yet, and who was silent then until it was asked again
-- turn, stood, due: how many reminders there were, which says whose turn it is, how many since something went on, and
-- when the next one is due
-- bids, rebid_at: how many bids of the attempt were asked for, and when the attempt is to be retried
-- idle: the call that is kept open
pub record OutboxState : Type 0 where
  pub waiting : List Entry
  pub asked : ℕ
  pub bid : Option BidStage
  pub joins : Bool
  pub owes : NameSet
  pub first : NameSet
  pub silent : NameSet
  pub turn : ℕ
  pub stood : ℕ
  pub due : ℕ
  pub bids : ℕ
  pub rebid_at : ℕ
  pub idle : Option ℕ

-- an outbox of a node that has asked for nothing
abbrev pub first_outbox : OutboxState
first_outbox = record { waiting = []; asked = 0; bid = None; joins = false; owes = set.empty; first = set.empty; silent = set.empty; turn = 0; stood = 0; due = 0; bids = 0; rebid_at = 0; idle = None }

-- the number of an open call, and that of its phase
pub record CallNumbers : Type 0 where
  pub number : ℕ
  pub phase : ℕ

-- what is open at a node: whom it may write to is never itself
pub record OpenedState (Q : Type 0) : Type 0 where
  pub me : ℕ
  pub reach : NameSet
  pub joins : Bool
  pub calls : List CallNumbers
  pub wants_room : Bool
  pub collection : Option ℕ
  pub bid : Option BidStage
  pub configs : List Q

abbrev pub numbers_of : {Q : Type 0} → OpenCall Q → CallNumbers
numbers_of c = record { number = c.number; phase = c.phase.state.number }

abbrev pub seen : {Q : Type 0} → Opened Q → OpenedState Q
seen o = record { me = o.me; reach = set.remove o.reach o.me; joins = o.is_joining; calls = map numbers_of o.calls.now; wants_room = o.wants_room; collection = o.collection; bid = o.bid; configs = o.map.now.configs }

-- something went on
abbrev pub progressed : OutboxState → OutboxState
progressed b = record b { stood = 0 }

-- whether a call is the one that is kept open
abbrev pub is_idle : Option ℕ → ℕ → Bool
is_idle None number = false
is_idle (Some idle) number = nat_eq idle number

-- a call was answered
abbrev pub answered : ℕ → OutboxState → OutboxState
answered number b = record (progressed b) { waiting = forgotten number b.waiting; idle = if is_idle b.idle number then None else b.idle }

-- a letter came, that asks or doesn't: its sender isn't silent
abbrev pub heard_by : OutboxState → ℕ → Bool → OutboxState
heard_by b from asks = record b { owes = if asks then set.insert b.owes from else b.owes; first = set.remove b.first from; silent = set.remove b.silent from }
