-- What happens to an outbox, and how often its node asks again
use Rattle.std.specs.Prelude.{ℕ, ◌+◌, ◌≤◌, Bool, true, false, if◌then◌else◌, List, [], ◌∷◌, Some}
use Rattle.rambo_names.specs.Names.{NameSet}
use Rattle.rambo_names.specs.Quorums.{QuorumSystem}
use Rattle.rambo_outbox.specs.declared.asks.Asks.{Asks}
use Rattle.rambo_outbox.specs.declared.asks.Asks.TheVariants.{Nothing, More, First, Again}
use Rattle.rambo_outbox.specs.declared.entry.Entry.{Entry}
use Rattle.rambo_outbox.specs.Outboxes.{OutboxState, OpenedState, progressed, answered, heard_by}
use Rattle.rambo_outbox.specs.Rounds.{after_round}
use Rattle.rambo_outbox.specs.Wishes.{asks_of}

-- others wait than before: calls were made, connections ended; a call is answered; something else goes on; a letter comes, that
-- asks or doesn't; others are owed one; a call is kept open; it is told whom the node writes to, at a time
pub data Event (Q : Type 0) : Type 0 where
  Waits : List Entry → Event Q
  Answers : ℕ → Event Q
  Moves : Event Q
  Hears : ℕ → Bool → Event Q
  Owes : NameSet → Event Q
  KeepsOpen : ℕ → Event Q
  Rounds : OpenedState Q → ℕ → Event Q

abbrev pub happened : {Q : Type 0} → QuorumSystem Q → OutboxState → Event Q → OutboxState
happened s b (Waits es) = record b { waiting = es }
happened s b (Answers number) = answered number b
happened s b Moves = progressed b
happened s b (Hears from asks) = heard_by b from asks
happened s b (Owes who) = record b { owes = who }
happened s b (KeepsOpen number) = record b { idle = Some number }
happened s b (Rounds o now) = after_round s b o now

-- whether a call or something else goes on
abbrev pub is_progress : {Q : Type 0} → Event Q → Bool
is_progress (Waits es) = false
is_progress (Answers number) = true
is_progress Moves = true
is_progress (Hears from asks) = false
is_progress (Owes who) = false
is_progress (KeepsOpen number) = false
is_progress (Rounds o now) = false

-- how often that is
abbrev pub progresses : {Q : Type 0} → List (Event Q) → ℕ
progresses [] = 0
progresses (e ∷ es) = (if is_progress e then 1 else 0) + progresses es

-- the time of an event, which is that of the one before it where none is told
abbrev pub time_of : {Q : Type 0} → ℕ → Event Q → ℕ
time_of before (Waits es) = before
time_of before (Answers number) = before
time_of before Moves = before
time_of before (Hears from asks) = before
time_of before (Owes who) = before
time_of before (KeepsOpen number) = before
time_of before (Rounds o now) = now

-- the times of these events rise, from the first one to the last
abbrev pub Rise : {Q : Type 0} → ℕ → List (Event Q) → ℕ → Type 0
Rise first [] last = first ≤ last
Rise first (e ∷ es) last = (first ≤ time_of first e) × Rise (time_of first e) es last

abbrev pub is_again : Asks → Bool
is_again Nothing = false
is_again More = false
is_again First = false
is_again Again = true

-- whether all is asked for again
abbrev pub is_reminder : {Q : Type 0} → OutboxState → Event Q → Bool
is_reminder b (Waits es) = false
is_reminder b (Answers number) = false
is_reminder b Moves = false
is_reminder b (Hears from asks) = false
is_reminder b (Owes who) = false
is_reminder b (KeepsOpen number) = false
is_reminder b (Rounds o now) = is_again (asks_of b o now)

-- how often that is, from an outbox on
abbrev pub reminders : {Q : Type 0} → QuorumSystem Q → OutboxState → List (Event Q) → ℕ
reminders s b [] = 0
reminders s b (e ∷ es) = (if is_reminder b e then 1 else 0) + reminders s (happened s b e) es
