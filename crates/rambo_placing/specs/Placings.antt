-- Where gets stand in an order that has the sets of a key alone
use Rattle.std.specs.Prelude.{ℕ, List, [], ◌∷◌, ◌++◌, filter, Option, None, Some, if◌then◌else◌}
use Rattle.std.specs.Str.{bytes_eq}
use Rattle.rambo_history.specs.declared.operation.Op.{Op}
use Rattle.rambo_history.specs.declared.operation.Op.TheVariants as op
use Rattle.rambo_history.specs.declared.event.CallId.{CallId}
use Rattle.rambo_history.specs.declared.event.Event.{Event}
use Rattle.rambo_history.specs.declared.event.Event.TheVariants as event
use Rattle.rambo_history.specs.Histories.{call_in, answer_in}
use Rattle.rambo_atomic.specs.Tests.{tells}

-- the gets of a key among these events, as they were called
abbrev pub gets_of : List ℕ → List Event → List CallId
gets_of key [] = []
gets_of key (event.Call c (op.Get k) ∷ es) = if bytes_eq k key then c ∷ gets_of key es else gets_of key es
gets_of key (event.Call c (op.Set k value) ∷ es) = gets_of key es
gets_of key (event.Answer c a ∷ es) = gets_of key es

-- those that were answered what the key holds: a value, or none
abbrev pub readers : List Event → List ℕ → Option (List ℕ) → List CallId
readers h key held = filter (λ c. tells held (answer_in h c)) (gets_of key h)

-- what stands in the place of an entry: a set of the key with the gets behind it that were answered its value; no get of the
-- key, since it is placed elsewhere; and any other entry alone
abbrev pub in_place : List Event → List ℕ → CallId → Option Op → List CallId
in_place h key c None = c ∷ []
in_place h key c (Some (op.Get k)) = if bytes_eq k key then [] else c ∷ []
in_place h key c (Some (op.Set k value)) = if bytes_eq k key then c ∷ readers h key (Some value) else c ∷ []

-- entry by entry
abbrev pub in_places : List Event → List ℕ → List CallId → List CallId
in_places h key [] = []
in_places h key (c ∷ cs) = in_place h key c (call_in h c) ++ in_places h key cs

-- the order with the gets in their places: those before all sets that were answered nil
abbrev pub with_gets : List Event → List ℕ → List CallId → List CallId
with_gets h key order = readers h key None ++ in_places h key order
