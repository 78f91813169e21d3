-- Marks, as the places of their calls and the tags of their copies tell them
use Rattle.std.specs.Prelude.{ℕ, List, [], ◌∷◌, slice_get, Option, None, Some}
use Rattle.std.specs.Option.{option_map}
use Rattle.rambo_tag.specs.declared.tag.Tag.{Tag}
use Rattle.rambo_tag.specs.declared.version.Version.{Version}
use Rattle.rambo_history.specs.declared.operation.Op.{Op}
use Rattle.rambo_history.specs.declared.operation.Op.TheVariants as op
use Rattle.rambo_history.specs.declared.operation.Answer.{Answer}
use Rattle.rambo_history.specs.declared.operation.Answer.TheVariants as answer
use Rattle.rambo_history.specs.declared.event.CallId.{CallId}
use Rattle.rambo_history.specs.declared.event.Event.{Event}
use Rattle.rambo_history.specs.declared.event.Event.TheVariants as event
use Rattle.rambo_history.specs.Histories.{answer_in}
use Rattle.rambo_sequence.specs.declared.mark.Mark.{Mark}
use Rattle.rambo_sequence.specs.declared.mark.TaggedPlace.{TaggedPlace}

-- the value that an answer tells, if it tells one
abbrev pub told_value : Option Answer → Option (List ℕ)
told_value (Some (answer.Value value)) = Some value
told_value _ = None

-- the value that a call propagates: what it sets, or what it is answered
abbrev pub propagated_value : List Event → CallId → Op → Option (List ℕ)
propagated_value es id (op.Set key value) = Some value
propagated_value es id (op.Get key) = told_value (answer_in es id)

-- the copy that a call propagates under a tag
abbrev pub propagated : List Event → CallId → Op → Tag → Version
propagated es id o tag = record { tag = tag; value = propagated_value es id o }

-- the mark of the call that this event makes, if it makes one
abbrev pub mark_of : List Event → Option Event → Option Tag → Option Mark
mark_of es (Some (event.Call id o)) tag = Some (record { id = id; op = o; kept = option_map (propagated es id o) tag })
mark_of es _ tag = None

-- the mark of the call at a place, if one is made there
abbrev pub mark_at : List Event → TaggedPlace → Option Mark
mark_at es p = mark_of es (slice_get es p.place) p.tag

abbrev pub with_some : Option Mark → List Mark → List Mark
with_some None ms = ms
with_some (Some m) ms = m ∷ ms

-- the marks of the calls at these places
unfoldable pub marks_at : List Event → List TaggedPlace → List Mark
marks_at es [] = []
marks_at es (p ∷ ps) = with_some (mark_at es p) (marks_at es ps)
