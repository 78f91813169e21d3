-- The places of lines of a script
use Rattle.std.specs.Prelude.{ℕ, ◌+◌}
use Rattle.rambo_text.specs.declared.version.Version.{Version}
use Rattle.rambo_text.specs.Versions.{head_lines}
use Rattle.rambo_lines.specs.declared.place.Place.{Place}

-- the line of the step of a number, where 0 is for the founders
abbrev pub place_of : Version → ℕ → Place
place_of version step = record { line = step + 1 + head_lines version; step = step }
