-- What holds of every outbox
use Rattle.std.specs.Prelude.{◌≡◌, ◌≢◌, ℕ, ◌+◌, ◌-◌, ◌*◌, ◌/◌, ◌^◌, ◌≤◌, ◌<◌, Bool, true, false, nat_eq, List, ◌∷◌, ◌++◌, filter, Some}
use Rattle.std.specs.List.{list_any}
use Rattle.std.specs.FinSet as set
use Rattle.rambo_names.specs.Names.{NameSet, IsName, count_of}
use Rattle.rambo_names.specs.Quorums.{QuorumSystem}
use Rattle.rambo_outbox.specs.declared.asking.Choice.{Choice}
use Rattle.rambo_outbox.specs.declared.entry.Entry.{Entry}
use Rattle.rambo_outbox.specs.declared.opened.Opened.{Opened}
use Rattle.rambo_outbox.specs.Asking.{others, with_me, first_asked}
use Rattle.rambo_outbox.specs.Outboxes.{OutboxState, OpenedState, CallNumbers, seen}
use Rattle.rambo_outbox.specs.Reminders.{Event, Rise, progresses, reminders}
use Rattle.rambo_outbox.specs.Rounds.{round_of}
use Rattle.rambo_outbox.specs.Turns.{first_in_turn, choice_on, AreHeard}
use Rattle.rambo_outbox.specs.Wishes.{has_wish}

-- the call of an entry is among the open ones
abbrev pub is_open : List CallNumbers → Entry → Bool
is_open cs e = list_any (λ c. nat_eq c.number e.number) cs

-- with those entries alone whose calls are open
abbrev pub opened_only : {Q : Type 0} → OpenedState Q → OutboxState → OutboxState
opened_only o b = record b { waiting = filter (is_open o.calls) b.waiting }

-- an entry whose call isn't open changes neither whom a node writes to nor when it looks again
abbrev pub HoldsNobodyBack : {Q : Type 0} → QuorumSystem Q → Type 0
HoldsNobodyBack {Q} s = (b : OutboxState) (o : OpenedState Q) (now : ℕ) → round_of s (opened_only o b) o now ≡ round_of s b o now

-- while somebody wishes for something there is a time at which the node looks again, a second from now at the latest
abbrev pub SomebodyLooksAgain : {Q : Type 0} → QuorumSystem Q → Type 0
SomebodyLooksAgain {Q} s = (b : OutboxState) (o : OpenedState Q) (now : ℕ) → has_wish b o ≡ true
    → (t : ℕ) × ((round_of s b o now).wake ≡ Some t) × (t ≤ now + 1000)

-- whoever comes and goes, all is asked for again at most once in 20 milliseconds; and at most once a second but for 53 times, and
-- 53 more for each time that something goes on
abbrev pub FewReminders : {Q : Type 0} → QuorumSystem Q → Type 0
FewReminders {Q} s =
    (b : OutboxState) (es : List (Event Q)) (first last : ℕ) → last + 1000 < 2 ^ 64 → Rise first es last
    → (reminders s b es ≤ 1 + (last - first) / 20) × (reminders s b es ≤ 53 * (1 + progresses es) + (last - first) / 1000)

-- in as many successive turns as a configuration has members that may be written to, each of them has one: it is asked first
-- then, unless it is silent, and at none of the others at which none of them is silent
abbrev pub EachHasItsTurn : {Q : Type 0} → QuorumSystem Q → Type 0
EachHasItsTurn {Q} s =
    (c : Choice) (silent : ℕ → NameSet) (q : Q) (n : ℕ) → set.contains (others s c.reach q) n ≡ true → IsName n
    → c.turn + count_of (others s c.reach q) ≤ 2 ^ 64
    → (i : ℕ) × (i < count_of (others s c.reach q)) × (set.contains (silent i) n ≡ false → first_in_turn s (choice_on silent c i) q ≡ Some n)
    × ((j : ℕ) → j < count_of (others s c.reach q) → AreHeard (silent j) (others s c.reach q) → first_in_turn s (choice_on silent c j) q ≡ Some n → j ≡ i)

-- who is first in turn is asked, unless the node and those asked for the configurations before are a quorum already
abbrev pub FirstIsAsked : {Q : Type 0} → QuorumSystem Q → Type 0
FirstIsAsked {Q} s =
    (c : Choice) (before : List Q) (q : Q) (behind : List Q) (n : ℕ) → s.is_quorum q (with_me s c before) ≡ false → first_in_turn s c q ≡ Some n → n ≢ c.me
    → set.contains (first_asked s c (before ++ q ∷ behind)) n ≡ true

-- each of these may be written to, and none is the node itself
abbrev pub AreReached : {Q : Type 0} → Opened Q → NameSet → Type 0
AreReached o who = (n : ℕ) → set.contains who n ≡ true → (set.contains o.reach n ≡ true) × (n ≢ o.me)

-- only who may be written to is asked, or owed a letter
abbrev pub OnlyReached : {Q : Type 0} → QuorumSystem Q → Type 0
OnlyReached {Q} s = (b : OutboxState) (o : Opened Q) (now : ℕ) → AreReached o (round_of s b (seen o) now).asked × AreReached o (round_of s b (seen o) now).owed
