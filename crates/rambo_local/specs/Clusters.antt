-- The steps of the world that a client asks
use Rattle.std.specs.Prelude.{◌≡◌, length}
use Rattle.rambo_names.specs.Weights.{Weights, weighted_majorities}
use Rattle.rambo_world.specs.Worlds.{WorldOf, state}
use Rattle.rambo_client.specs.Courses.{Course}

-- the world has the founders of a course and took its steps, and no other
abbrev pub took_by : WorldOf Weights → Course → Type 0
took_by w c = (w.founders ≡ c.founders) × (w.steps ≡ c.steps) × (length (state weighted_majorities w).letters ≡ c.sent)
