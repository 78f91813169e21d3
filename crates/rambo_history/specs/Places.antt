-- The places of the calls and answers of a history
use Rattle.std.specs.Prelude.{◌≡◌, ℕ, ◌-◌, nat_eq, Bool, List, [], get_or, slice_get, Option, None, Some, is_some, if◌then◌else◌}
use Rattle.std.specs.Map.{lookup}
use Rattle.std.specs.Option.{option_map}
use Rattle.rambo_history.specs.declared.event.CallId.{CallId}
use Rattle.rambo_history.specs.declared.event.Event.{Event}
use Rattle.rambo_history.specs.declared.event.Event.TheVariants as event
use Rattle.rambo_history.specs.declared.spot.Spot.{Spot}
use Rattle.rambo_history.specs.Calls.{same_call}
use Rattle.rambo_history.specs.Histories.{called_at, answered_at}
use Rattle.rambo_history.specs.Forms.{IsWellFormed}

-- the place of a call, and of its answer if it has one
pub record Places : Type 0 where
  pub called : ℕ
  pub answered : Option ℕ

-- the places of a call and its answer, where the history has the call
abbrev pub places_in : List Event → CallId → Option Places
places_in h c = option_map (λ n. record { called = n; answered = answered_at h c }) (called_at h c)

-- what a spot means: no answer is at place 0
abbrev pub places_of : Spot → Places
places_of s = record { called = s.called; answered = if nat_eq s.answered 0 then None else Some s.answered }

-- lists by name, of calls by number from 1 on; other calls; and how many more can be taken without allocating
pub record PlacesState : Type 0 where
  pub lists : List (List Spot)
  pub others : List (CallId × Spot)
  pub room : ℕ

-- what a list has for a number
abbrev pub spot_in : List Spot → ℕ → Option Spot
spot_in l n = if nat_eq n 0 then None else slice_get l (n - 1)

-- what the list of a call's name has for it
abbrev pub listed : List (List Spot) → CallId → Option Spot
listed lists c = spot_in (get_or lists c.name []) c.number

-- the first of two that is there
abbrev pub found : Option Spot → Option Spot → Option Spot
found None o = o
found (Some s) o = Some s

-- what the lists have for a call, or else the other calls
abbrev pub spot_of : PlacesState → CallId → Option Spot
spot_of s c = found (listed s.lists c) (lookup (same_call c) s.others)

-- of a call that has no answer
abbrev pub called_spot : ℕ → Spot
called_spot n = record { called = n; answered = 0 }

-- once the answer is at place n
abbrev pub answered_spot : ℕ → Spot → Spot
answered_spot n s = record s { answered = n }

-- a list has this spot for a number, and all else as before
abbrev pub IsListed : ℕ → Spot → List Spot → List Spot → Type 0
IsListed number s old new = (k : ℕ) → spot_in new k ≡ (if nat_eq number k then Some s else spot_in old k)

-- a list with the answer of a number's call at place n, and whether it has the number
pub record IsAnswered (number n : ℕ) (old new : List Spot) (has : Bool) : Type 0 where
  pub spots : (k : ℕ) → spot_in new k ≡ (if nat_eq number k then option_map (answered_spot n) (spot_in old number) else spot_in old k)
  pub has_it : has ≡ is_some (spot_in old number)

-- each call has its spot as before
abbrev pub KeepsSpots : PlacesState → PlacesState → Type 0
KeepsSpots old new = (q : CallId) → spot_of new q ≡ spot_of old q

-- a call is at place n
abbrev pub TakesCall : CallId → ℕ → PlacesState → PlacesState → Type 0
TakesCall c n old new = (q : CallId) → spot_of new q ≡ (if same_call c q then Some (called_spot n) else spot_of old q)

-- the answer of a call is at place n
abbrev pub TakesAnswer : CallId → ℕ → PlacesState → PlacesState → Type 0
TakesAnswer c n old new = (q : CallId) → spot_of new q ≡ (if same_call c q then option_map (answered_spot n) (spot_of old c) else spot_of old q)

-- an event is at place n
abbrev pub TakesEvent : Event → ℕ → PlacesState → PlacesState → Type 0
TakesEvent (event.Call c op) n old new = TakesCall c n old new
TakesEvent (event.Answer c a) n old new = TakesAnswer c n old new

-- a call that is made has no spot yet
abbrev pub FitsSpots : Event → PlacesState → Type 0
FitsSpots (event.Call c op) s = spot_of s c ≡ None
FitsSpots (event.Answer c a) s = Unit {0}

-- the spots have the places of each call of the history
abbrev pub IsIndexed : List Event → PlacesState → Type 0
IsIndexed h s = (c : CallId) → option_map places_of (spot_of s c) ≡ places_in h c

-- what holds of each history and of the places that it keeps
pub record IsHistory (h : List Event) (s : PlacesState) : Type 0 where
  pub indexed : IsIndexed h s
  pub well_formed : IsWellFormed h
