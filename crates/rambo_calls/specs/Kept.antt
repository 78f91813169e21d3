-- How open calls are stored
use Rattle.std.specs.Prelude.{ℕ, ◌≤◌, List, [], ◌∷◌, map as list_map, Option, None, Some, slice_set}
use Rattle.rambo_config_map.specs.Maps.{MapState}
use Rattle.rambo_phase.specs.Phases.{PhaseState, needed}
use Rattle.rambo_tag.specs.declared.version.Version.{Version}
use Rattle.rambo_calls.specs.declared.open_call.OpenCall.{OpenCall}
use Rattle.rambo_calls.specs.declared.stage.Stage.TheVariants.{Propagation}
use Rattle.rambo_calls.specs.Calls.{CallState}

-- open calls as they are stored, and for how many more there is room
pub record KeptCalls (Q : Type 0) : Type 0 where
  pub list : List (OpenCall Q)
  pub room : ℕ

abbrev pub call_of : {Q : Type 0} → OpenCall Q → CallState Q
call_of c = record { number = c.number; op = c.op; stage = c.stage; phase = c.phase.state }

abbrev pub calls_of : {Q : Type 0} → List (OpenCall Q) → List (CallState Q)
calls_of cs = list_map call_of cs

abbrev pub call_found : {Q : Type 0} → Option (OpenCall Q) → Option (CallState Q)
call_found None = None
call_found (Some c) = Some (call_of c)

-- the calls, with the one at a place changed
abbrev pub with_call : {Q : Type 0} → ℕ → Option (CallState Q) → (CallState Q → CallState Q) → List (CallState Q) → List (CallState Q)
with_call place None f cs = cs
with_call place (Some c) f cs = slice_set cs place (f c)

-- a call that propagates a copy, in a phase
abbrev pub propagating : {Q : Type 0} → Option Version → PhaseState Q → CallState Q → CallState Q
propagating kept phase c = record { number = c.number; op = c.op; stage = Propagation kept; phase = phase }

-- to hear a letter with this map allocates nothing
abbrev pub IsRoomy : {Q : Type 0} → MapState Q → List (OpenCall Q) → Type 0
IsRoomy m [] = Unit {0}
IsRoomy m (c ∷ cs) = (needed c.phase.state m ≤ c.phase.capacity) × IsRoomy m cs
