-- Phases: the round trips of a read or a write to quorums (Attiya, Bar-Noy and Dolev, "Sharing Memory Robustly in
-- Message-Passing Systems", JACM 1995). They go over the configurations of several places (Lynch and Shvartsman,
-- "RAMBO")
use Rattle.std.specs.Prelude.{ℕ, ◌+◌, ◌-◌, Bool, nat_le, if◌then◌else◌, List, [], ◌++◌, length, drop}
use Rattle.std.specs.List.{list_all}
use Rattle.std.specs.FinSet as set
use Rattle.rambo_names.specs.Names.{NameSet}
use Rattle.rambo_names.specs.Quorums.{QuorumSystem}
use Rattle.rambo_config_map.specs.Maps.{MapState}
use Rattle.rambo_phase.specs.declared.heard.Heard.{Heard}
use Rattle.rambo_phase.specs.declared.heard.Heard.TheVariants as heard

-- a number, the configurations of the places lo, lo + 1, .., and the nodes that replied
pub record PhaseState (Q : Type 0) : Type 0 where
  pub number : ℕ
  pub lo : ℕ
  pub configs : List Q
  pub repliers : NameSet

-- a phase as it is stored, and for how many configurations it has room
pub record KeptPhase (Q : Type 0) : Type 0 where
  pub state : PhaseState Q
  pub capacity : ℕ

-- the set of one name
abbrev pub only : ℕ → NameSet
only n = set.insert set.empty n

-- a phase that has not begun
abbrev pub unbegun : {Q : Type 0} → PhaseState Q
unbegun = record { number = 0; lo = 0; configs = []; repliers = set.empty }

-- a phase of node me begins: it takes the current map, and the node replies to itself
abbrev pub started : {Q : Type 0} → ℕ → MapState Q → ℕ → PhaseState Q
started number m me = record { number = number; lo = m.floor; configs = m.configs; repliers = only me }

-- the first place above the phase
abbrev pub above : {Q : Type 0} → PhaseState Q → ℕ
above p = p.lo + length p.configs

-- a letter with this map leaves no gap above the phase
abbrev pub fits : {Q : Type 0} → PhaseState Q → MapState Q → Bool
fits p m = nat_le m.floor (above p)

-- how many configurations the phase has with those that a map has above it
abbrev pub needed : {Q : Type 0} → PhaseState Q → MapState Q → ℕ
needed p m = length p.configs + (length m.configs - (above p - m.floor))

-- the phase gains what the map has above it, and a replier
abbrev pub counted : {Q : Type 0} → PhaseState Q → MapState Q → ℕ → PhaseState Q
counted p m j = record { number = p.number; lo = p.lo; configs = p.configs ++ drop (above p - m.floor) m.configs; repliers = set.insert p.repliers j }

-- what a letter with this heard number and map is to the phase
abbrev pub heard_as : {Q : Type 0} → PhaseState Q → ℕ → MapState Q → Heard
heard_as p number m = if nat_le p.number number then (if fits p m then heard.Counted else heard.Restart) else heard.Old

-- the phase after such a letter from j. A phase that has to restart is started again by its owner
abbrev pub after_letter : {Q : Type 0} → PhaseState Q → ℕ → MapState Q → ℕ → PhaseState Q
after_letter p number m j = if nat_le p.number number then (if fits p m then counted p m j else p) else p

-- the repliers contain a quorum of every configuration in the phase
abbrev pub is_met : {Q : Type 0} → QuorumSystem Q → PhaseState Q → Bool
is_met s p = list_all (λ q. s.is_quorum q p.repliers) p.configs
