-- What is told of what was done under the locks: it is so after some steps of the book
use mathlib.Core.List.{IsPrefix}
use Rattle.std.specs.Prelude.{◌≡◌, ◌⊎◌, ℕ, ◌≤◌, List, [], ◌∷◌, ◌++◌, length, Option, None, Some}
use Rattle.rambo_names.specs.Quorums.{QuorumSystem}
use Rattle.rambo_names.specs.declared.refusal.Refusal.{Refusal}
use Rattle.rambo_names.specs.declared.refusal.Refusal.TheVariants.{OutOfMemory, HistoryFull}
use Rattle.rambo_config_map.specs.Maps.{MapState}
use Rattle.rambo_node.specs.Nodes.{NodeState}
use Rattle.rambo_node.specs.declared.effect.Effect.{Effect}
use Rattle.rambo_node.specs.Steps.{Step}
use Rattle.rambo_run.specs.Legal.{IsLegal}
use Rattle.rambo_run.specs.Runs.{run}
use Rattle.rambo_run.specs.Steps.{refusal, turn}
use Rattle.rambo_run.specs.Worlds.{WorldState, node_at}
use Rattle.rambo_turn.specs.Turns.{IsNext}
use Rattle.rambo_turn.specs.declared.turn.Turn.{Turn}
use Rattle.rambo_turn.specs.declared.turn.Turn.TheVariants as turned

-- so it is after some legal steps, at most as many as the book takes
pub record Happened {Q : Type 0} (s : QuorumSystem Q) (founders : Q) (most : ℕ) (IsSo : List (Step Q) → Type 0) : Type 0 where
  pub steps : List (Step Q)
  pub legal : IsLegal s founders steps
  pub fits : length steps ≤ most
  pub so : IsSo steps

-- the last of these steps is this one, which wasn't refused, and had this effect
pub record IsLast {Q : Type 0} (s : QuorumSystem Q) (founders : Q) (st : Step Q) (e : Effect Q) (steps : List (Step Q)) : Type 0 where
  pub before : List (Step Q)
  pub all : steps ≡ before ++ st ∷ []
  pub accepted : refusal s (run s founders before) st ≡ None
  pub told : e ≡ (turn (run s founders before) st).effect

-- the last of these steps is this one, which wasn't refused, and is what the node of a name does next by itself after a
-- beginning of those before
pub record IsTurn {Q : Type 0} (s : QuorumSystem Q) (founders : Q) (name : ℕ) (st : Step Q) (steps : List (Step Q)) : Type 0 where
  pub before : List (Step Q)
  pub all : steps ≡ before ++ st ∷ []
  pub accepted : refusal s (run s founders before) st ≡ None
  pub seen : List (Step Q)
  pub begins : IsPrefix seen before
  pub next : IsNext s founders name (Some st) seen

-- a turn of a name did its step, or the node had nothing to do
abbrev pub HasTurned : {Q : Type 0} → QuorumSystem Q → Q → ℕ → ℕ → Turn Q → Type 0
HasTurned s founders most name (turned.Did st) = Happened s founders most (IsTurn s founders name st)
HasTurned s founders most name turned.Nothing = Happened s founders most (IsNext s founders name None)

-- the book was full, and the node had something to do
abbrev pub IsHeldUp : {Q : Type 0} → QuorumSystem Q → Q → ℕ → ℕ → Type 0
IsHeldUp {Q} s founders most name =
    Happened s founders most (λ steps. length steps ≡ most)
    × Happened s founders most (λ seen. (st : Step Q) × IsNext s founders name (Some st) seen)

-- the node of a name has this map
abbrev pub HasMap : {Q : Type 0} → WorldState Q → ℕ → MapState Q → Type 0
HasMap {Q} w name map = (x : NodeState Q) × ((node_at w name ≡ Some x) × (x.map ≡ map))

-- why there is no room for a step: memory is out, or the book was full
abbrev pub HasNoRoom : {Q : Type 0} → QuorumSystem Q → Option Q → ℕ → Refusal → Type 0
HasNoRoom {Q} s agreed most r = (r ≡ OutOfMemory) ⊎ ((r ≡ HistoryFull) × ((f : Q) → agreed ≡ Some f → Happened s f most (λ steps. length steps ≡ most)))
