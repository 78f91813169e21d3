-- How a node comes and goes
use Rattle.std.specs.Prelude.{Bool, true, false}
use Rattle.rambo_joiner.specs.declared.status.Status.{Status}
use Rattle.rambo_joiner.specs.declared.status.Status.TheVariants.{Idle, Joining, Active, Stopped}

abbrev pub is_idle : Status → Bool
is_idle Idle = true
is_idle Joining = false
is_idle Active = false
is_idle Stopped = false

abbrev pub is_stopped : Status → Bool
is_stopped Idle = false
is_stopped Joining = false
is_stopped Active = false
is_stopped Stopped = true

abbrev pub is_active : Status → Bool
is_active Idle = false
is_active Joining = false
is_active Active = true
is_active Stopped = false

-- not active yet
abbrev pub is_early : Status → Bool
is_early Idle = true
is_early Joining = true
is_early Active = false
is_early Stopped = false

-- a joining node that hears from an active one is active
abbrev pub woken : Status → Status
woken Idle = Idle
woken Joining = Active
woken Active = Active
woken Stopped = Stopped
