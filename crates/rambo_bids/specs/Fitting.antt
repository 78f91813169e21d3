-- Attempts and the maps that they go with
use Rattle.std.specs.Prelude.{◌≤◌, length, Option, None, Some}
use Rattle.rambo_config_map.specs.Maps.{MapState, end_of}
use Rattle.rambo_paxos.specs.Attempts.{AttemptState}

-- an attempt that may be open is for a place that is known or the first one that isn't. Where it is for that one, the
-- map can learn a configuration there
abbrev pub AttemptFits : {Q : Type 0} → MapState Q → Option (AttemptState Q) → Type 0
AttemptFits m None = Unit {0}
AttemptFits m (Some a) = (a.place ≤ end_of m) × (end_of m ≤ a.place → length m.configs ≤ 7)
