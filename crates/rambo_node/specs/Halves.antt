-- First halves: they are made of an act, and have what it will do besides changing its node
use Rattle.std.specs.Prelude.{◌≡◌, ◌<◌, ℕ, Box, Option, None, Some}
use Rattle.std.specs.FinMap as copies
use Rattle.rambo_names.specs.declared.refusal.Refusal.{Refusal}
use Rattle.rambo_names.specs.declared.refusal.Refusal.TheVariants.{NoSuchLetter}
use Rattle.rambo_names.specs.Names.{IsName}
use Rattle.rambo_names.specs.Quorums.{QuorumSystem}
use Rattle.rambo_history.specs.declared.event.CallId.{CallId}
use Rattle.rambo_history.specs.declared.event.Event.{Event}
use Rattle.rambo_history.specs.declared.operation.Op.{Op}
use Rattle.rambo_gossip.specs.Letters.{LetterState, letter_with}
use Rattle.rambo_sequence.specs.declared.mark.Mark.{Mark}
use Rattle.rambo_node.specs.declared.half.Going.{Going}
use Rattle.rambo_node.specs.declared.half.Half.{Half}
use Rattle.rambo_node.specs.declared.half.Half.TheVariants as half
use Rattle.rambo_node.specs.declared.half.Prepared.{Prepared}
use Rattle.rambo_node.specs.declared.prepared.Hearing.{Hearing}
use Rattle.rambo_node.specs.Acts.{Act, Meant}
use Rattle.rambo_node.specs.Acts as act
use Rattle.rambo_node.specs.Changes.{quiet_deed, refusal_of, made_by}
use Rattle.rambo_node.specs.FullNodes.{IsDeltaLetter, full}
use Rattle.rambo_node.specs.Nodes.{NodeState, RoomyNode}
use Rattle.rambo_node.specs.Prepared.{IsAlone, IsHearing, IsMoving}

-- why the node that is meant refuses it
abbrev pub judged : {Q : Type 0} → QuorumSystem Q → NodeState Q → Option (Meant Q) → Option Refusal
judged s x None = Some NoSuchLetter
judged s x (Some m) = refusal_of s x m.act

-- a letter without its copies, if there is one
abbrev pub outline_of : {Q : Type 0} → Option (LetterState Q) → Option (LetterState Q)
outline_of None = None
outline_of (Some l) = Some (letter_with l copies.empty)

-- a call of this id of which nothing is told, and which takes nothing along
pub record IsEmpty {Q : Type 0} (id : CallId) (g : Going Q) : Type 0 where
  pub told : g.deed ≡ quiet_deed
  pub named : g.moving.id ≡ id
  pub alone : IsAlone g.moving
  pub asked : g.asked ≡ None

-- a letter with this outline comes to the node, and may be heard so
pub record IsReadyDelivery {Q : Type 0} (v : RoomyNode Q) (outline : Option (LetterState Q)) (a : Act Q) (h : Hearing) : Type 0 where
  pub letter : LetterState Q
  pub delivers : a ≡ act.Hear letter
  pub told : outline ≡ Some (letter_with letter copies.empty)
  pub hearing : IsHearing v letter h

-- a call that asks for this may begin, for which there is room
pub record IsReadyCall {Q : Type 0} (v : RoomyNode Q) (a : Act Q) (g : Going Q) : Type 0 where
  pub op : Op
  pub calls : a ≡ act.Call op
  pub asked : g.asked ≡ Some op
  pub room : 0 < v.room.calls.room

-- a call may go on, and this is told of it
pub record IsReadyAdvance {Q : Type 0} (s : QuorumSystem Q) (v : RoomyNode Q) (a : Act Q) (g : Going Q) : Type 0 where
  pub advances : a ≡ act.Advance g.moving.id
  pub moving : IsMoving s v g.moving
  pub told : g.deed ≡ (made_by v.state a).deed

-- the first half of an act is made, where a letter that comes has this outline
abbrev pub IsHalf : {Q : Type 0} → QuorumSystem Q → RoomyNode Q → Option (LetterState Q) → Act Q → Half Q → Type 0
IsHalf {Q} s v outline a (half.Send l) = (to : ℕ) × (a ≡ act.Send to)
IsHalf s v outline a (half.Hear h) = IsReadyDelivery v outline a h
IsHalf s v outline a (half.Call g) = IsReadyCall v a g.value
IsHalf s v outline a (half.Advance g) = IsReadyAdvance s v a g.value
IsHalf s v outline a (half.Quiet q) = a ≡ act.Quietly q

-- what it has: an event, a mark, a letter
abbrev pub event_of : {Q : Type 0} → Half Q → Option Event
event_of (half.Call g) = g.value.deed.event
event_of (half.Advance g) = g.value.deed.event
event_of _ = None

abbrev pub mark_of : {Q : Type 0} → Half Q → Option Mark
mark_of (half.Call g) = g.value.deed.mark
mark_of (half.Advance g) = g.value.deed.mark
mark_of _ = None

abbrev pub letter_of : {Q : Type 0} → Half Q → Option (LetterState Q)
letter_of (half.Send l) = Some l
letter_of _ = None

-- what a call has that began or went on, if one did
abbrev pub event_in : {Q Z : Type 0} → Option (Box (Going Q) Z) → Option Event
event_in None = None
event_in (Some g) = g.value.deed.event

abbrev pub mark_in : {Q Z : Type 0} → Option (Box (Going Q) Z) → Option Mark
mark_in None = None
mark_in (Some g) = g.value.deed.mark

-- the letter that goes out, where the act sends this whole one to a name: it with those copies that its addressee may lack
abbrev pub SendsFor : {Q : Type 0} → RoomyNode Q → Option (LetterState Q) → Option (LetterState Q) → Type 0
SendsFor v None None = Unit {0}
SendsFor v None (Some whole) = ⊥
SendsFor v (Some l) None = ⊥
SendsFor v (Some l) (Some whole) = IsName whole.addressee × IsDeltaLetter (full v) whole.addressee l

-- and what it has is what the act does, which isn't refused
pub record IsReadyStep {Q : Type 0} (s : QuorumSystem Q) (v : RoomyNode Q) (outline : Option (LetterState Q)) (a : Act Q) (h : Half Q) : Type 0 where
  pub accepted : refusal_of s v.state a ≡ None
  pub half : IsHalf s v outline a h
  pub event : event_of h ≡ (made_by v.state a).deed.event
  pub mark : mark_of h ≡ (made_by v.state a).deed.mark
  pub letter : SendsFor v (letter_of h) (made_by v.state a).letter

-- a change with the letter that it brings along
abbrev pub IsPrepared : {Q : Type 0} → QuorumSystem Q → RoomyNode Q → Act Q → Prepared Q → Type 0
IsPrepared s v a p = IsReadyStep s v (outline_of p.letter) a p.half
