-- All calls and answers of a run, with the marks
use Rattle.std.specs.Prelude.{◌≡◌, ℕ, true, List, ◌++◌, Some, is_some}
use Rattle.rambo_tag.specs.declared.version.Version.{Version}
use Rattle.rambo_history.specs.declared.event.Event.{Event}
use Rattle.rambo_history.specs.Calls.{is_get}
use Rattle.rambo_history.specs.Histories.{call_in, answer_in}
use Rattle.rambo_sequence.specs.declared.mark.Mark.{Mark}
use Rattle.rambo_sequence.specs.declared.mark.TaggedPlace.{TaggedPlace}
use Rattle.rambo_sequence.specs.Marks.{marks_at, propagated_value}

-- both lists, and for how many more there is room
pub record ChronicleView : Type 0 where
  pub events : List Event
  pub marks : List Mark
  pub event_room : ℕ
  pub mark_room : ℕ

-- a mark is of a call of these events, with what it asked; a get was answered; and the value is the one that the call set or was answered
pub record IsMarked (es : List Event) (m : Mark) : Type 0 where
  pub called : call_in es m.id ≡ Some m.op
  pub answered : is_get m.op ≡ true → is_some (answer_in es m.id) ≡ true
  pub value : (v : Version) → m.kept ≡ Some v → v.value ≡ propagated_value es m.id m.op

-- the marks at these places stay what they are, whatever else comes
abbrev pub IsSettled : List Event → List TaggedPlace → Type 0
IsSettled es ps = (later : List Event) → marks_at (es ++ later) ps ≡ marks_at es ps
