-- What open calls make of a letter (Lynch and Shvartsman, "RAMBO", DISC 2002)
use Rattle.std.specs.Prelude.{ℕ, suc, Bool, true, false, not, if◌then◌else◌, nat_le, List, [], ◌∷◌}
use Rattle.rambo_config_map.specs.Maps.{MapState}
use Rattle.rambo_phase.specs.Phases.{PhaseState, fits, counted, started}
use Rattle.rambo_calls.specs.Calls.{CallState}

-- a phase that a letter with this heard number and map restarts: a reply that leaves a gap
abbrev pub has_gap : {Q : Type 0} → ℕ → MapState Q → CallState Q → Bool
has_gap heard m c = if nat_le c.phase.number heard then not (fits c.phase m) else false

abbrev pub any_gap : {Q : Type 0} → ℕ → MapState Q → List (CallState Q) → Bool
any_gap heard m [] = false
any_gap heard m (c ∷ cs) = if has_gap heard m c then true else any_gap heard m cs

-- the phase number after a letter: greater by one where some phase restarts
abbrev pub number_after : {Q : Type 0} → ℕ → ℕ → MapState Q → List (CallState Q) → ℕ
number_after number heard m cs = if any_gap heard m cs then suc number else number

-- the call with its phase restarted
abbrev pub restarted : {Q : Type 0} → ℕ → MapState Q → ℕ → CallState Q → CallState Q
restarted number m me c = record { number = c.number; op = c.op; stage = c.stage; phase = started number m me }

-- the phase after a letter from j: a reply counts, or restarts the phase under a new number with the merged map
abbrev pub heard_phase : {Q : Type 0} → ℕ → ℕ → MapState Q → ℕ → MapState Q → ℕ → PhaseState Q → PhaseState Q
heard_phase heard j m number merged me p = if nat_le p.number heard then (if fits p m then counted p m j else started number merged me) else p

abbrev pub heard_call : {Q : Type 0} → ℕ → ℕ → MapState Q → ℕ → MapState Q → ℕ → CallState Q → CallState Q
heard_call heard j m number merged me c = record { number = c.number; op = c.op; stage = c.stage; phase = heard_phase heard j m number merged me c.phase }
