-- What somebody wishes for, and what of it was asked for
use Rattle.std.specs.Prelude.{ℕ, ◌+◌, max, Bool, true, false, not, ◌&&◌, ◌||◌, if◌then◌else◌, nat_le, nat_lt, List, [], ◌∷◌, ◌++◌, fold, Option, option_to_list, is_some}
use Rattle.std.specs.List.{list_any}
use Rattle.rambo_outbox.specs.declared.asks.Asks.{Asks}
use Rattle.rambo_outbox.specs.declared.asks.Asks.TheVariants.{Nothing, More, First, Again}
use Rattle.rambo_outbox.specs.Bids.{is_asked_bid, is_new_bid}
use Rattle.rambo_outbox.specs.Waiting.{is_waited}
use Rattle.rambo_outbox.specs.Outboxes.{OutboxState, OpenedState, CallNumbers, is_idle}

-- a call is wished for where somebody waits for it, or for room
abbrev pub is_wished : OutboxState → Bool → ℕ → Bool
is_wished b wants_room number = is_waited b.waiting number || (wants_room && not (is_idle b.idle number))

-- the phase numbers of such calls
abbrev pub phases : OutboxState → Bool → List CallNumbers → List ℕ
phases b wants_room [] = []
phases b wants_room (c ∷ cs) = if is_wished b wants_room c.number then c.phase ∷ phases b wants_room cs else phases b wants_room cs

-- the phase numbers of what is wished for: of such calls, and of the collection
abbrev pub wished : {Q : Type 0} → OutboxState → OpenedState Q → List ℕ
wished b o = phases b o.wants_room o.calls ++ option_to_list o.collection

abbrev pub greatest : List ℕ → ℕ
greatest ns = fold max 0 ns

-- a phase was asked for, and isn't over
abbrev pub is_under_way : {Q : Type 0} → OutboxState → OpenedState Q → Bool
is_under_way b o = list_any (λ n. nat_le n b.asked) (wished b o)

-- something was asked for, and hasn't come yet
abbrev pub has_asked : {Q : Type 0} → OutboxState → OpenedState Q → Bool
has_asked b o = is_under_way b o || is_asked_bid b.bid o.bid || (o.joins && b.joins)

-- something is to be asked for: a bid, or to join; or a phase, while no other is in flight
abbrev pub is_new : {Q : Type 0} → OutboxState → OpenedState Q → Bool
is_new b o = is_new_bid b.bid o.bid || (o.joins && not b.joins) || (not (is_under_way b o) && nat_lt b.asked (greatest (wished b o)))

-- somebody wishes for something: for what has a phase; or that, an attempt, or to join
abbrev pub has_wished : {Q : Type 0} → OutboxState → OpenedState Q → Bool
has_wished b o = list_any (λ n. true) (wished b o)

abbrev pub has_wish : {Q : Type 0} → OutboxState → OpenedState Q → Bool
has_wish b o = is_some o.bid || has_wished b o || o.joins

-- what a node asks for: whether something was asked for, whether that is due, and whether something is new
abbrev pub asks_by : Bool → Bool → Bool → Asks
asks_by has_asked is_due is_new =
    if has_asked && is_due then Again
    else (if is_new then (if has_asked then More else First) else Nothing)

abbrev pub asks_of : {Q : Type 0} → OutboxState → OpenedState Q → ℕ → Asks
asks_of b o now = asks_by (has_asked b o) (nat_le b.due now) (is_new b o)
