-- The history of one client's requests
use Rattle.std.specs.Prelude.{◌≡◌, ℕ, List, [], ◌∷◌, ◌++◌, Option, None, Some, slice_index}
use Rattle.rambo_history.specs.declared.operation.Answer.{Answer}
use Rattle.rambo_history.specs.declared.event.CallId.{CallId}
use Rattle.rambo_history.specs.declared.event.Event.{Event}
use Rattle.rambo_history.specs.declared.event.Event.TheVariants as event
use Rattle.rambo_names.specs.Names.{NameSet, names}
use Rattle.rambo_commands.specs.declared.request.Request.{Request}
use Rattle.rambo_commands.specs.declared.request.Request.TheVariants.{Says, Does}
use Rattle.rambo_client.specs.Maps.{Map, no_values, after, answer_of}

abbrev pub id_at : ℕ → ℕ → CallId
id_at name number = record { name = name; number = number }

-- the events are, of each operation that is asked for, its call at a node and then what an ordinary map answers
abbrev pub Calls : ℕ → Map → List Request → List Event → Type 0
Calls name m [] events = events ≡ []
Calls name m (Says r ∷ qs) events = Calls name m qs events
Calls name m (Does o ∷ qs) events =
    (number : ℕ) × (more : List Event)
    × (events ≡ event.Call (id_at name number) o ∷ event.Answer (id_at name number) (answer_of m o) ∷ more)
    × Calls name (after m o) qs more

-- the history of a client of an empty store
abbrev pub IsHistory : ℕ → List Request → List Event → Type 0
IsHistory name qs history = Calls name no_values qs history

-- a prefix of it
abbrev pub BeginsHistory : ℕ → List Request → List Event → Type 0
BeginsHistory name qs history = (more : List Event) × Calls name no_values qs (history ++ more)

-- the lowest name of a set
abbrev pub lowest : NameSet → ℕ
lowest s = slice_index (names s) 0

-- what a call that advances adds to the history
abbrev pub answered : CallId → Option Answer → List Event
answered id None = []
answered id (Some a) = event.Answer id a ∷ []
