-- A world as it is stored
use Rattle.std.specs.Prelude.{List}
use Rattle.rambo_history.specs.declared.event.Event.{Event}
use Rattle.rambo_run.specs.Worlds.{WorldState}
use Rattle.rambo_sequence.specs.declared.mark.Mark.{Mark}
use Rattle.rambo_letters.specs.Kept.{SentState}
use Rattle.rambo_world.specs.Kept.{KeptNode, states_of, whole_letters}

abbrev pub world_of : {Q : Type 0} → List (KeptNode Q) → List (SentState Q) → List Event → List Mark → WorldState Q
world_of ks ss h ms = record { nodes = states_of ks; letters = whole_letters ks ss; history = h; marks = ms }
