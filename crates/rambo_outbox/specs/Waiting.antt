-- Calls that somebody waits for
use Rattle.std.specs.Prelude.{ℕ, Bool, not, ◌&&◌, nat_eq, List, [], ◌∷◌, ◌++◌, Option, None, Some, filter, find}
use Rattle.std.specs.List.{list_any}
use Rattle.rambo_outbox.specs.declared.entry.Entry.{Entry}
use Rattle.rambo_outbox.specs.declared.entry.Waiter.{Waiter}

-- whether an entry is that of a call, or another
abbrev pub is_of : ℕ → Entry → Bool
is_of number e = nat_eq e.number number

abbrev pub is_other : ℕ → Entry → Bool
is_other number e = not (is_of number e)

-- whether it isn't that of a connection
abbrev pub is_anothers : ℕ → ℕ → Entry → Bool
is_anothers client connection e = not (nat_eq e.who.client client && nat_eq e.who.connection connection)

-- whether somebody waits for a call
abbrev pub is_waited : List Entry → ℕ → Bool
is_waited es number = list_any (is_of number) es

-- somebody waits for one more call
abbrev pub awaited : ℕ → Waiter → List Entry → List Entry
awaited number who es = es ++ record { number = number; who = who } ∷ []

-- nobody waits for a call any more
abbrev pub forgotten : ℕ → List Entry → List Entry
forgotten number es = filter (is_other number) es

-- a connection has gone
abbrev pub without : ℕ → ℕ → List Entry → List Entry
without client connection es = filter (is_anothers client connection) es

-- who waits, by an entry that may be there
abbrev pub waiter_in : Option Entry → Option Waiter
waiter_in None = None
waiter_in (Some e) = Some e.who

-- who waits for a call
abbrev pub waiter_of : ℕ → List Entry → Option Waiter
waiter_of number es = waiter_in (find (is_of number) es)
