-- The steps that the nodes took which a client asks
use Rattle.std.specs.Prelude.{◌≡◌, length}
use Rattle.rambo_names.specs.Weights.{Weights, weighted_majorities}
use Rattle.rambo_run.specs.Ongoing.{RunningOf}
use Rattle.rambo_run.specs.Runs.{run}
use Rattle.rambo_world.specs.Direct.{bare}
use Rattle.rambo_client.specs.Courses.{Course}

-- the nodes have the founders of a course, and are as its steps leave them
abbrev pub took_by : RunningOf Weights → Course → Type 0
took_by d c =
    (d.founders ≡ c.founders) × (d.state ≡ bare (run weighted_majorities c.founders c.steps)) × (length (run weighted_majorities c.founders c.steps).letters ≡ c.sent)
