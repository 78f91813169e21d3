-- What a run tells besides its history: lines of refused steps, of ended collections and of ended attempts
use Rattle.std.specs.Prelude.{◌≡◌, ◌≤◌, ℕ, zero, suc, ◌+◌, ◌-◌, ◌*◌, max, List, [], ◌∷◌, ◌++◌, map, length, take, drop, Option, Result, Ok, Err}
use Rattle.std.specs.Io.KnownBytes.{Appends}
use Rattle.rambo_names.specs.declared.refusal.Refusal.{Refusal}
use Rattle.rambo_names.specs.Refusals.{number_of}
use Rattle.rambo_names.specs.Weights.{Weights}
use Rattle.rambo_history.specs.declared.operation.Op.{Op}
use Rattle.rambo_history.specs.declared.operation.Op.TheVariants as op
use Rattle.rambo_history.specs.declared.operation.Answer.{Answer}
use Rattle.rambo_history.specs.declared.operation.Answer.TheVariants as answer
use Rattle.rambo_history.specs.declared.event.Event.{Event}
use Rattle.rambo_history.specs.declared.event.Event.TheVariants as event
use Rattle.rambo_node.specs.declared.effect.Effect.{Effect}
use Rattle.rambo_node.specs.declared.effect.Effect.TheVariants as effect
use Rattle.rambo_check.specs.Lines.{Item, Happened, Collected, Settled, Refused, items_text}
use Rattle.rambo_outcome.specs.declared.notes.Note.{Note}

-- what is reported of a step that is no call and no answer
abbrev pub other_items : ℕ → Result (Effect Weights) Refusal → List Item
other_items n (Ok effect.Done) = []
other_items n (Ok (effect.Called c)) = []
other_items n (Ok (effect.Sent l)) = []
other_items n (Ok effect.Moved) = []
other_items n (Ok (effect.Answered c a)) = []
other_items n (Ok (effect.Collected name place)) = Collected name place ∷ []
other_items n (Ok (effect.Decided name d)) = Settled name d.place d.config ∷ []
other_items n (Err r) = Refused n (number_of r) ∷ []

-- a text after some events, counted from the text before it
pub record NoteState : Type 0 where
  pub events : ℕ
  pub text : List ℕ

-- how many events come before the last text
abbrev pub events_before : List NoteState → ℕ
events_before [] = 0
events_before (n ∷ ns) = n.events + events_before ns

-- more text after the last
abbrev pub joined : List NoteState → List ℕ → List NoteState
joined [] text = record { events = 0; text = text } ∷ []
joined (n ∷ []) text = record { events = n.events; text = n.text ++ text } ∷ []
joined (n ∷ m ∷ ns) text = n ∷ joined (m ∷ ns) text

-- a text after some more events, if there are any
abbrev pub with_text : List NoteState → ℕ → List ℕ → List NoteState
with_text ns zero text = joined ns text
with_text ns (suc more) text = ns ++ record { events = suc more; text = text } ∷ []

-- more items, after so many events in all
abbrev pub noted : List NoteState → ℕ → List Item → List NoteState
noted ns count [] = ns
noted ns count (i ∷ is) = with_text ns (count - events_before ns) (items_text (i ∷ is))

-- the lines of events
abbrev pub events_text : List Event → List ℕ
events_text es = items_text (map Happened es)

-- with the texts between them
abbrev pub woven : List Event → List NoteState → List ℕ
woven es [] = events_text es
woven es (n ∷ ns) = events_text (take n.events es) ++ (n.text ++ woven (drop n.events es) ns)

-- texts that lie one after another
abbrev pub notes_in : List Note → List ℕ → List NoteState
notes_in [] text = []
notes_in (n ∷ ns) text = record { events = n.events; text = take n.len text } ∷ notes_in ns (drop n.len text)

-- the last is longer by so many bytes
abbrev pub grown : List Note → ℕ → List Note
grown [] more = []
grown (n ∷ []) more = record { events = n.events; len = n.len + more } ∷ []
grown (n ∷ m ∷ ns) more = n ∷ grown (m ∷ ns) more

-- how long they are together
abbrev pub bytes_in : List Note → ℕ
bytes_in [] = 0
bytes_in (n ∷ ns) = n.len + bytes_in ns

-- how many bytes of keys and values a line spells
abbrev pub op_bytes : Op → ℕ
op_bytes (op.Get key) = length key
op_bytes (op.Set key value) = length key + length value

abbrev pub answer_bytes : Answer → ℕ
answer_bytes answer.Ok = 0
answer_bytes answer.Nil = 0
answer_bytes (answer.Value value) = length value

abbrev pub event_bytes : Event → ℕ
event_bytes (event.Call c o) = op_bytes o
event_bytes (event.Answer c a) = answer_bytes a

-- the most of some events
abbrev pub most_bytes : List Event → ℕ
most_bytes [] = 0
most_bytes (e ∷ es) = max (event_bytes e) (most_bytes es)

-- a piece of this room takes any line of some events once it has fewer than 2^16 bytes
abbrev pub HasRoom : ℕ → List Event → Type 0
HasRoom room es = 65536 + 2 * most_bytes es + 40 ≤ room

-- of a text one part was written, and the other waits
pub record Moves (old new : Option (List ℕ)) (text waits : List ℕ) : Type 0 where
  pub gone : List ℕ
  pub written : Appends old new gone
  pub whole : text ≡ gone ++ waits

-- what is told of a run, but for its history: the line before it, the texts between its events, and the lines after it.
-- `room`: how long the line before it may grow without allocating
pub record ToldState : Type 0 where
  pub head : List ℕ
  pub notes : List NoteState
  pub tail : List ℕ
  pub room : ℕ

-- the text, with the events of the history
abbrev pub told_text : List Event → ToldState → List ℕ
told_text es t = t.head ++ (woven es t.notes ++ t.tail)
