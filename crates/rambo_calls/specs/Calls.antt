-- The open calls of a node
use Rattle.std.specs.Prelude.{ℕ, zero, suc, Bool, true, false, not, if◌then◌else◌, nat_eq, List, [], ◌∷◌, Option, None, Some, slice_get}
use Rattle.rambo_names.specs.Quorums.{QuorumSystem}
use Rattle.rambo_tag.specs.declared.version.Version.{Version}
use Rattle.rambo_history.specs.declared.operation.Op.{Op}
use Rattle.rambo_phase.specs.Phases.{PhaseState, is_met}
use Rattle.rambo_calls.specs.declared.stage.Stage.{Stage}
use Rattle.rambo_calls.specs.declared.stage.Stage.TheVariants.{Query, Propagation}

-- an open call, by its number within the node
pub record CallState (Q : Type 0) : Type 0 where
  pub number : ℕ
  pub op : Op
  pub stage : Stage
  pub phase : PhaseState Q

-- whether a call's query was answered
abbrev pub propagates : Stage → Bool
propagates Query = false
propagates (Propagation kept) = true

-- the copy that a call propagates
abbrev pub kept_in : Stage → Option Version
kept_in Query = None
kept_in (Propagation kept) = kept

-- what a call asks for that is in its query
abbrev pub asked_in : Op → Stage → Option Op
asked_in o Query = Some o
asked_in o (Propagation kept) = None

-- the place of the first call with a number, or the length where there is none
abbrev pub place_of : {Q : Type 0} → ℕ → List (CallState Q) → ℕ
place_of number [] = zero
place_of number (c ∷ cs) = if nat_eq c.number number then zero else suc (place_of number cs)

abbrev pub find_call : {Q : Type 0} → ℕ → List (CallState Q) → Option (CallState Q)
find_call number cs = slice_get cs (place_of number cs)

-- of a call that may be there: whether it isn't, whether it is and its phase isn't met, what its query asks for
abbrev pub is_missing : {Q : Type 0} → Option (CallState Q) → Bool
is_missing None = true
is_missing (Some c) = false

abbrev pub is_unmet : {Q : Type 0} → QuorumSystem Q → Option (CallState Q) → Bool
is_unmet s None = false
is_unmet s (Some c) = not (is_met s c.phase)

abbrev pub query_in : {Q : Type 0} → Option (CallState Q) → Option Op
query_in None = None
query_in (Some c) = asked_in c.op c.stage
