-- How serving many clients ends
use Rattle.std.specs.Prelude.{◌≡◌, ◌⊎◌, ◌≤◌, ℕ, Bool, true, false, List, [], Option, None, Some, is_some, length}
use Rattle.rambo_names.specs.Weights.{Weights, weighted_majorities}
use Rattle.rambo_node.specs.Steps.{Step}
use Rattle.rambo_run.specs.Legal.{IsLegal}
use Rattle.rambo_telling.specs.Telling.{Stream, Takes, Tells, listening_line, stream}
use Rattle.rambo_command_line.specs.declared.serving.Serving.{Serving}
use Rattle.rambo_serving.specs.declared.ending.Ending.{Ending}
use Rattle.rambo_serving.specs.Endings.{Fails}
use Rattle.rambo_serving.specs.Endings as serving
use Rattle.rambo_scribe.specs.declared.fault.TraceFault.{TraceFault}
use Rattle.rambo_scribe.specs.Traced.{HasWritten, Taken}
use Rattle.rambo_cluster.specs.declared.fault.ServeFault.{ServeFault}
use Rattle.rambo_main.specs.Endings.{Ends, ListensOn, server_line}
use Rattle.rambo_main.specs.Files.{LastsTo}

-- nothing was written, since the server failed
abbrev pub Unserved : Ending → Stream → Stream → Type 0
Unserved e write told = (f : ServeFault) × Takes [] write × Fails (server_line f) e told

-- how a server ends that takes so many steps: steps of which none was refused in its place, and of which the book has room,
-- are written
abbrev pub Leaves : ℕ → Weights → Ending → Stream → Stream → Type 0
Leaves most founders e write told =
    (steps : List (Step Weights)) × IsLegal weighted_majorities founders steps × (length steps ≤ most) × serving.WritesTo founders steps e write told

abbrev pub first_in : Stream → Taken
first_in s = record { bytes = s.old; failures = s.failures }

abbrev pub last_in : Stream → Taken
last_in s = record { bytes = s.new; failures = s.failures_now }

-- the trace of steps of which none was refused in its place was written whole; or a prefix of it, since the writer failed or
-- memory ran out
abbrev pub Traces : Weights → Ending → Stream → Stream → Type 0
Traces founders e write told =
    (steps : List (Step Weights)) × (fault : Option TraceFault) × IsLegal weighted_majorities founders steps
    × HasWritten (first_in write) (last_in write) founders steps fault × Ends fault e told

-- and nothing is written by one that leaves no trace
abbrev pub Drains : Ending → Stream → Stream → Type 0
Drains e write told = Takes [] write × (fault : Option TraceFault) × Ends fault e told

abbrev pub GivesBy : Bool → Bool → ℕ → Weights → Ending → Stream → Stream → Type 0
GivesBy true true most founders e write told = Drains e write told
GivesBy true false most founders e write told = Traces founders e write told
GivesBy false untraced most founders e write told = Leaves most founders e write told

-- how serving ends on a listener; or the server failed
abbrev pub GivesTo : Serving → Weights → Ending → Stream → Stream → Type 0
GivesTo s founders e write told = GivesBy s.endless s.untraced s.steps founders e write told ⊎ Unserved e write told

-- how serving ends whose trace, if it has one, goes to the writer: it doesn't listen; or its port was reported first
abbrev pub WritesTo : {E : Type 0} → (E → Option (List ℕ)) → (E → ℕ) → Serving → Weights → Ending → Stream → E → E → Type 0
WritesTo taken failures s founders e write old new =
    Unserved e write (stream taken failures old new)
    ⊎ ((port : ℕ) × ListensOn s.port port × (behind : _) × Tells (listening_line port) (stream taken failures old behind)
    × GivesTo s founders e write (stream taken failures behind new))

-- how serving ends, by whether a file is named for the trace: nothing is written then, but to the file
abbrev pub ServesBy : {E : Type 0} → (E → Option (List ℕ)) → (E → ℕ) → Serving → Bool → Weights → Ending → Stream → E → E → Type 0
ServesBy taken failures s true founders e write old new = Takes [] write × LastsTo taken failures s founders e old new
ServesBy taken failures s false founders e write old new = WritesTo taken failures s founders e write old new

abbrev pub ServesTo : {E : Type 0} → (E → Option (List ℕ)) → (E → ℕ) → Serving → Weights → Ending → Stream → E → E → Type 0
ServesTo taken failures s founders e write old new = ServesBy taken failures s (is_some s.trace) founders e write old new
