-- The places of the calls of all sequences
use Rattle.std.specs.Borrow.{Bor}
use Rattle.std.specs.Prelude.{ℕ, ◌+◌, List, [], ◌∷◌, ◌++◌, length, map, Option, Some, if◌then◌else◌}
use Rattle.rambo_history.specs.declared.event.CallId.{CallId}
use Rattle.rambo_history.specs.Calls.{same_call}
use Rattle.rambo_sequence.specs.declared.store_order.Place.{Place}
use Rattle.rambo_sequence.specs.Sequences.{SequenceOf}

-- the place of a call, once the calls of sequence n were noted: its own where it is one of them, and else as before
abbrev pub noted : ℕ → List CallId → CallId → Option Place → Option Place
noted n [] c place = place
noted n (d ∷ ds) c place = noted n ds c (if same_call d c then Some (record { sequence = n; behind = length ds }) else place)

-- the same, once the calls of the sequences from n on were noted
abbrev pub all_noted : ℕ → List SequenceOf → CallId → Option Place → Option Place
all_noted n [] c place = place
all_noted n (s ∷ ss) c place = all_noted (n + 1) ss c (noted n s.calls c place)

-- what is left of the sequences, where this is left of their calls
abbrev pub left_of : List SequenceOf → List (List CallId) → List SequenceOf
left_of [] ls = []
left_of (s ∷ ss) [] = []
left_of (s ∷ ss) (l ∷ ls) = record s { calls = l } ∷ left_of ss ls

-- the lists that these point to
abbrev pub lists : List (Bor (List CallId)) → List (List CallId)
lists ls = map (λ l. l.now) ls

-- the calls of all of these lists
abbrev pub joined : List (List CallId) → List CallId
joined [] = []
joined (l ∷ ls) = l ++ joined ls
