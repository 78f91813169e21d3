-- What is found in an order in one pass over it
use Rattle.std.specs.Prelude.{ℕ, ◌+◌, nat_lt, max, List, [], ◌∷◌, Bool, true, false, not, ◌&&◌, Option, None, Some}
use Rattle.rambo_history.specs.declared.event.CallId.{CallId}
use Rattle.rambo_history.specs.declared.event.Event.{Event}
use Rattle.rambo_history.specs.Histories.{called_at}

-- whether a call's place is this one or a later one
abbrev pub is_from : ℕ → Option ℕ → Bool
is_from n None = false
is_from n (Some m) = not (nat_lt m n)

-- the later of a place and the one after a call's
abbrev pub past : ℕ → Option ℕ → ℕ
past n None = n
past n (Some m) = max n (m + 1)

-- whether each of these is a call that was made at place n or later, and after those before it
abbrev pub rises_from : List Event → ℕ → List CallId → Bool
rises_from h n [] = true
rises_from h n (c ∷ cs) = is_from n (called_at h c) && rises_from h (past n (called_at h c)) cs
