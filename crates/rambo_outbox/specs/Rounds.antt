-- Whom a node writes to, and when it looks again
use Rattle.std.specs.Prelude.{ℕ, min, max, Bool, not, ◌&&◌, ◌||◌, if◌then◌else◌, nat_le, Option, None, Some, is_some}
use Rattle.std.specs.FinSet as set
use Rattle.rambo_names.specs.Names.{NameSet}
use Rattle.rambo_names.specs.Quorums.{QuorumSystem}
use Rattle.rambo_outbox.specs.declared.asking.Choice.{Choice}
use Rattle.rambo_outbox.specs.declared.asks.Asks.{Asks}
use Rattle.rambo_outbox.specs.declared.asks.Asks.TheVariants.{Nothing, More, First, Again}
use Rattle.rambo_outbox.specs.declared.round.Round.{Round}
use Rattle.rambo_outbox.specs.Asking.{next_turn, first_asked}
use Rattle.rambo_outbox.specs.Bids.{is_asked_bid}
use Rattle.rambo_outbox.specs.Outboxes.{OutboxState, OpenedState}
use Rattle.rambo_outbox.specs.Pauses.{pause, more, later, patience}
use Rattle.rambo_outbox.specs.Wishes.{wished, greatest, has_wished, asks_of}

abbrev pub choice_of : {Q : Type 0} → OutboxState → OpenedState Q → Choice
choice_of b o = record { me = o.me; reach = o.reach; silent = b.silent; turn = b.turn }

-- who is asked for what is new: all by who joins, and else a quorum
abbrev pub newly_asked : {Q : Type 0} → QuorumSystem Q → OutboxState → OpenedState Q → NameSet
newly_asked s b o = if o.joins then o.reach else first_asked s (choice_of b o) o.configs

abbrev pub whom : {Q : Type 0} → QuorumSystem Q → OutboxState → OpenedState Q → Asks → NameSet
whom s b o Nothing = set.empty
whom s b o More = newly_asked s b o
whom s b o First = newly_asked s b o
whom s b o Again = o.reach

-- when the next reminder is due: one pause after what is asked now, and else as it was, but never later than in one
-- pause
abbrev pub due_after : OutboxState → Asks → ℕ → ℕ
due_after b Nothing now = min b.due (later now (pause b.stood))
due_after b More now = min b.due (later now (pause b.stood))
due_after b First now = later now (pause b.stood)
due_after b Again now = later now (pause (more b.stood))

-- whether it is time to retry the attempt that was asked for
abbrev pub rebids : {Q : Type 0} → OutboxState → OpenedState Q → ℕ → Bool
rebids b o now = is_asked_bid b.bid o.bid && nat_le b.rebid_at now

-- whether a bid's time begins
abbrev pub begins : {Q : Type 0} → OutboxState → OpenedState Q → ℕ → Bool
begins b o now = not (is_asked_bid b.bid o.bid) || nat_le b.rebid_at now

abbrev pub rebid_after : {Q : Type 0} → OutboxState → OpenedState Q → ℕ → ℕ
rebid_after b o now = if begins b o now then later now (patience b.stood b.bids o.me) else b.rebid_at

abbrev pub bids_after : {Q : Type 0} → OutboxState → OpenedState Q → ℕ → ℕ
bids_after b o now = if is_some o.bid then (if begins b o now then more b.bids else b.bids) else 0

-- all that is wished for then counts as asked. At a reminder, who was asked first and hasn't replied counts as silent,
-- and it is the next one's turn
abbrev pub noted : OutboxState → Asks → NameSet → ℕ → OutboxState
noted b Nothing asked last = b
noted b More asked last = record b { asked = max b.asked last; first = asked }
noted b First asked last = record b { asked = max b.asked last; first = asked }
noted b Again asked last = record b { asked = max b.asked last; first = set.empty; silent = set.union b.silent b.first; turn = next_turn b.turn; stood = more b.stood }

-- when to look again at the latest: never where nobody wishes for anything
abbrev pub wake_of : {Q : Type 0} → Bool → OpenedState Q → ℕ → ℕ → Option ℕ
wake_of some o due rebid_at = if is_some o.bid then Some (min due rebid_at) else (if some || o.joins then Some due else None)

abbrev pub round_by : {Q : Type 0} → QuorumSystem Q → OutboxState → OpenedState Q → Asks → ℕ → Round
round_by s b o a now = record { asked = whom s b o a; owed = set.intersection b.owes o.reach; wake = wake_of (has_wished b o) o (due_after b a now) (rebid_after b o now) }

abbrev pub after_by : {Q : Type 0} → QuorumSystem Q → OutboxState → OpenedState Q → Asks → ℕ → OutboxState
after_by s b o a now = record (noted b a (whom s b o a) (greatest (wished b o))) { bid = o.bid; joins = o.joins; owes = set.empty; due = due_after b a now; bids = bids_after b o now; rebid_at = rebid_after b o now }

-- whom a node writes to now, and when it looks again at the latest
abbrev pub round_of : {Q : Type 0} → QuorumSystem Q → OutboxState → OpenedState Q → ℕ → Round
round_of s b o now = round_by s b o (asks_of b o now) now

-- what an outbox holds then
abbrev pub after_round : {Q : Type 0} → QuorumSystem Q → OutboxState → OpenedState Q → ℕ → OutboxState
after_round s b o now = after_by s b o (asks_of b o now) now
