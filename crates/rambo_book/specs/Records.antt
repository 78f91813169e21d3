-- What a book keeps of calls and answers
use Rattle.std.specs.Prelude.{◌≡◌, ℕ, List, [], Option, None, Some, min}
use Rattle.rambo_history.specs.declared.operation.Answer.{Answer}
use Rattle.rambo_history.specs.declared.event.CallId.{CallId}
use Rattle.rambo_history.specs.declared.event.Event.{Event}
use Rattle.rambo_sequence.specs.declared.mark.Mark.{Mark}
use Rattle.rambo_run.specs.Chronicles.{ChronicleView}
use Rattle.rambo_run.specs.Steps.{with_event, with_mark}
use Rattle.rambo_book.specs.OpenCalls.{AreOpen, KeepsCalls, TakesIf}

-- all calls and answers, where they are kept; else the open calls; and whether there is room for one more step's
pub record RecordView : Type 0 where
  pub all : Option ChronicleView
  pub calls : List (CallId × Option Answer)
  pub room : ℕ

abbrev pub room_in : Option ChronicleView → ℕ → ℕ
room_in None room = room
room_in (Some c) room = min c.event_room c.mark_room

-- both lists of one chronicle are those of the other
abbrev pub KeepsAll : Option ChronicleView → Option ChronicleView → Type 0
KeepsAll None new = new ≡ None
KeepsAll (Some c) new = (d : ChronicleView) × ((new ≡ Some d) × ((d.events ≡ c.events) × (d.marks ≡ c.marks)))

-- room was made, and nothing else changed
abbrev pub KeepsRecord : RecordView → RecordView → Type 0
KeepsRecord old new = KeepsAll old.all new.all × KeepsCalls old.calls new.calls

-- all of them, with this event and this mark, where there are any
abbrev pub MoreOfAll : Option Event → Option Mark → Option ChronicleView → Option ChronicleView → Type 0
MoreOfAll e m None new = new ≡ None
MoreOfAll e m (Some c) new = (d : ChronicleView) × ((new ≡ Some d) × ((d.events ≡ with_event c.events e) × (d.marks ≡ with_mark c.marks m)))

-- the event and the mark of a step were recorded
abbrev pub Recorded : Option Event → Option Mark → RecordView → RecordView → Type 0
Recorded e m old new = MoreOfAll e m old.all new.all × (old.all ≡ None → TakesIf e old.calls new.calls)

-- nothing was recorded
abbrev pub IsEmpty : RecordView → Type 0
IsEmpty r = ((c : ChronicleView) → r.all ≡ Some c → (c.events ≡ []) × (c.marks ≡ [])) × (r.calls ≡ [])

-- what is kept is so in the run that gave these: all of it, or the answers of the open calls
pub record IsRecord (history : List Event) (marks : List Mark) (r : RecordView) : Type 0 where
  pub all : (c : ChronicleView) → r.all ≡ Some c → (c.events ≡ history) × (c.marks ≡ marks)
  pub answers : r.all ≡ None → AreOpen history r.calls
