-- What holds where a collection moves on
use Rattle.std.specs.Prelude.{◌≡◌, ◌⊎◌, ℕ, ◌+◌, ◌<◌, ◌≤◌, true, Some}
use Rattle.rambo_names.specs.Quorums.{QuorumSystem}
use Rattle.rambo_config_map.specs.Maps.{MapState, active_at}
use Rattle.rambo_gc.specs.declared.stage.Stage.TheVariants.{First, Second}
use Rattle.rambo_gc.specs.Collections.{CollectionState}

-- the repliers contain a quorum of the configuration that is active at a place
pub record HasQuorumAt {Q : Type 0} (s : QuorumSystem Q) (m : MapState Q) (g : CollectionState) (place : ℕ) : Type 0 where
  pub config : Q
  pub active : active_at m place ≡ Some config
  pub quorum : s.is_quorum config g.repliers ≡ true

-- the first stage is met, of a place that is active
pub record HasFirstQuorum {Q : Type 0} (s : QuorumSystem Q) (m : MapState Q) (g : CollectionState) : Type 0 where
  pub stage : g.stage ≡ First
  pub kept : m.floor ≤ g.place
  pub met : HasQuorumAt s m g g.place

-- the second one is
pub record HasSecondQuorum {Q : Type 0} (s : QuorumSystem Q) (m : MapState Q) (g : CollectionState) : Type 0 where
  pub stage : g.stage ≡ Second
  pub kept : m.floor ≤ g.place
  pub met : HasQuorumAt s m g (g.place + 1)

-- the second stage is met, or the place is removed already
abbrev pub IsOver : {Q : Type 0} → QuorumSystem Q → MapState Q → CollectionState → Type 0
IsOver s m g = (g.place < m.floor) ⊎ HasSecondQuorum s m g
