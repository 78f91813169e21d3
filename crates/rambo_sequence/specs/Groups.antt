-- Calls by their keys
use Rattle.std.specs.Prelude.{◌≡◌, ℕ, List, [], ◌∷◌, ◌++◌, Option, None, Some, map}
use Rattle.std.specs.Option.{option_map}
use Rattle.std.specs.Map.{lookup}
use Rattle.std.specs.Str.{bytes_eq}
use Rattle.std.specs.declared.vec.Vec.{Vec}
use Rattle.std.specs.declared.alloc.Global.{Global}
use Rattle.rambo_history.specs.declared.event.Event.{Event}
use Rattle.rambo_sequence.specs.declared.mark.Mark.{Mark}
use Rattle.rambo_sequence.specs.declared.ranking.RankedCall.{RankedCall}
use Rattle.rambo_sequence.specs.RankedCalls.{ranked_calls, sorted_calls}
use Rattle.rambo_sequence.specs.Sequences.{SequenceOf}

-- a key with its calls
abbrev pub Group : Type 0
Group = List ℕ × Vec RankedCall Global

-- the calls of a key, if it has a group
abbrev pub calls_at : List Group → List ℕ → Option (List RankedCall)
calls_at groups key = option_map (λ calls. calls.items) (lookup (bytes_eq key) groups)

-- these calls with one more after them
abbrev pub with_call : Option (List RankedCall) → RankedCall → Option (List RankedCall)
with_call None c = Some (c ∷ [])
with_call (Some calls) c = Some (calls ++ c ∷ [])

-- these calls, or None where there are none
abbrev pub some_calls : List RankedCall → Option (List RankedCall)
some_calls [] = None
some_calls (c ∷ calls) = Some (c ∷ calls)

-- each key that is marked has a group, of its calls in the order of the marks
abbrev pub HasGroups : List Event → List Mark → List Group → Type 0
HasGroups h marks groups = (key : List ℕ) → calls_at groups key ≡ some_calls (ranked_calls h marks key)

-- the sequence of a group
abbrev pub group_sequence : Group → SequenceOf
group_sequence g = record { key = g.0; calls = map (λ c. c.id) (sorted_calls g.1.items) }
