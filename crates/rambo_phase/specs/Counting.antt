-- What counting a letter does to a phase, place by place
use Rattle.std.specs.Prelude.{◌≡◌, ℕ, ◌<◌, ◌≤◌, nat_lt, nat_eq, ◌||◌, if◌then◌else◌, Option, None}
use Rattle.std.specs.FinSet as set
use Rattle.rambo_config_map.specs.Rows.{row_at}
use Rattle.rambo_config_map.specs.Maps.{MapState, active_at}
use Rattle.rambo_phase.specs.Phases.{PhaseState, above}

-- the configuration that a phase has at a place
abbrev pub held_at : {Q : Type 0} → PhaseState Q → ℕ → Option Q
held_at p place = if nat_lt place p.lo then None else row_at p.lo p.configs place

-- the phase keeps each configuration it had, has the map's active ones above its old end and no others, and has the
-- sender as one more replier
pub record CountsReply {Q : Type 0} (p : PhaseState Q) (m : MapState Q) (sender : ℕ) (after : PhaseState Q) : Type 0 where
  pub number : after.number ≡ p.number
  pub lo : after.lo ≡ p.lo
  pub kept : (place : ℕ) → place < above p → held_at after place ≡ held_at p place
  pub gained : (place : ℕ) → above p ≤ place → held_at after place ≡ active_at m place
  pub repliers : (n : ℕ) → set.contains after.repliers n ≡ (nat_eq n sender || set.contains p.repliers n)
