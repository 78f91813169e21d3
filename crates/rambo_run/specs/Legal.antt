-- Runs of which no step is refused, and how a run goes on
use mathlib.Core.List.{IsPrefix}
use Rattle.std.specs.Prelude.{◌≡◌, ℕ, List, [], ◌∷◌, ◌++◌, take, None, Some, slice_get}
use Rattle.rambo_names.specs.Quorums.{QuorumSystem}
use Rattle.rambo_history.specs.declared.event.Event.{Event}
use Rattle.rambo_history.specs.Faults.{fault_of}
use Rattle.rambo_tag.specs.Copies.{joined}
use Rattle.rambo_node.specs.Steps.{Step}
use Rattle.rambo_sequence.specs.declared.mark.Mark.{Mark}
use Rattle.rambo_run.specs.Worlds.{WorldState, node_at, held_by}
use Rattle.rambo_node.specs.Acts.{Meant}
use Rattle.rambo_run.specs.Steps.{meant, refusal, turn}
use Rattle.rambo_run.specs.Runs.{run}
use Rattle.rambo_run.specs.Chronicles.{IsMarked}

-- none of these steps is refused in its turn: in the world that the steps before it make
abbrev pub IsLegal : {Q : Type 0} → QuorumSystem Q → Q → List (Step Q) → Type 0
IsLegal {Q} s founders steps = (place : ℕ) (st : Step Q) → slice_get steps place ≡ Some st → refusal s (run s founders (take place steps)) st ≡ None

-- what a step that isn't refused appends to the history has no fault there
abbrev pub EventsFit : {Q : Type 0} → QuorumSystem Q → WorldState Q → Type 0
EventsFit {Q} s w = (st : Step Q) (e : Event) → refusal s w st ≡ None → (turn w st).world.history ≡ w.history ++ e ∷ [] → fault_of w.history e ≡ None

-- and what it appends to the marks is told by the history that it leaves
abbrev pub MarksFit : {Q : Type 0} → QuorumSystem Q → WorldState Q → Type 0
MarksFit {Q} s w = (st : Step Q) (m : Mark) → refusal s w st ≡ None → (turn w st).world.marks ≡ w.marks ++ m ∷ [] → IsMarked (turn w st).world.history m

-- one more step that isn't refused: the world after it is what it makes of the one before, and a legal list stays legal
abbrev pub RunsGoOn : {Q : Type 0} → QuorumSystem Q → Type 0
RunsGoOn {Q} s =
    (founders : Q) (steps : List (Step Q)) (st : Step Q) → refusal s (run s founders steps) st ≡ None
    → (run s founders (steps ++ st ∷ []) ≡ (turn (run s founders steps) st).world) × (IsLegal s founders steps → IsLegal s founders (steps ++ st ∷ []))

-- a step leaves unchanged the nodes that it doesn't mean
abbrev pub OthersStay : Type 0 → Type 0
OthersStay Q = (w : WorldState Q) (st : Step Q) (n : ℕ) → ((m : Meant Q) → meant w st ≡ Some m → m.name ≡ n → ⊥) → node_at (turn w st).world n ≡ node_at w n

-- of a longer list of steps: letters and history of a prefix begin its own, and where it is legal the prefix is
abbrev pub BeginningsHold : {Q : Type 0} → QuorumSystem Q → Type 0
BeginningsHold {Q} s =
    (founders : Q) (xs ys : List (Step Q)) → IsPrefix xs ys
    → IsPrefix (run s founders xs).letters (run s founders ys).letters × IsPrefix (run s founders xs).history (run s founders ys).history
    × (IsLegal s founders ys → IsLegal s founders xs)

-- and each node holds at least each copy that it held after a prefix
abbrev pub CopiesAreKept : {Q : Type 0} → QuorumSystem Q → Type 0
CopiesAreKept {Q} s =
    (founders : Q) (xs ys : List (Step Q)) → IsPrefix xs ys → (n : ℕ)
    → joined (held_by (run s founders ys) n) (held_by (run s founders xs) n) ≡ held_by (run s founders ys) n
