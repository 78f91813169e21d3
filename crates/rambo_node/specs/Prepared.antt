-- What is found for an act that isn't refused, and the room that is made for it
use Rattle.std.specs.Prelude.{◌≡◌, ℕ, ◌<◌, Option, None, Some, slice_get}
use Rattle.std.specs.FinMap as map
use Rattle.rambo_names.specs.Quorums.{QuorumSystem}
use Rattle.rambo_tag.specs.declared.keyed_version.KeyedVersion.{KeyedVersion}
use Rattle.rambo_tag.specs.declared.version.Version.{Version}
use Rattle.rambo_tag.specs.Copies.{Copies, HasRoom, joined}
use Rattle.rambo_tag.specs.Stamps.{AreStampedAlike}
use Rattle.rambo_tag.specs.Tags.{tag_of}
use Rattle.rambo_history.specs.declared.event.CallId.{CallId}
use Rattle.rambo_history.specs.declared.operation.Op.{Op}
use Rattle.rambo_history.specs.declared.operation.Op.TheVariants as op
use Rattle.rambo_calls.specs.Calls.{place_of, query_in}
use Rattle.rambo_calls.specs.Kept.{IsRoomy}
use Rattle.rambo_gossip.specs.Gossips.{GossipState}
use Rattle.rambo_gossip.specs.Kinds.{Kind}
use Rattle.rambo_gossip.specs.Kinds as kind
use Rattle.rambo_gossip.specs.Letters.{LetterState}
use Rattle.rambo_gossip.specs.Short.{copies_in}
use Rattle.rambo_node.specs.declared.prepared.Hearing.{Hearing}
use Rattle.rambo_node.specs.declared.prepared.Found.{Found}
use Rattle.rambo_node.specs.declared.prepared.Moving.{Moving}
use Rattle.rambo_node.specs.Changes.{refusal_of, copy_put}
use Rattle.rambo_node.specs.Hearing.{number_after}
use Rattle.rambo_node.specs.Kept.{propagation_begun}
use Rattle.rambo_node.specs.Nodes.{NodeState, Room, RoomyNode, open_call}
use Rattle.rambo_node.specs.Operations.{taken}
use Rattle.rambo_node.specs.Acts as act

-- the copy that the call puts whose query, if it is in it, is met
abbrev pub put_by : {Q : Type 0} → NodeState Q → Option Op → Option KeyedVersion
put_by x None = None
put_by x (Some o) = copy_put o (taken x o)

-- copies with one that is put, if there is one, and whether there is room for it
abbrev pub with_put : Copies → Option KeyedVersion → Copies
with_put r None = r
with_put r (Some c) = map.insert r c.key c.version

abbrev pub HasRoomFor : {Q : Type 0} → Room Q → Option KeyedVersion → Type 0
HasRoomFor room None = Unit {0}
HasRoomFor room (Some c) = 0 < room.keys

-- a node once the call at a place has advanced from its query: a copy is put, and a copy is propagated
abbrev pub query_done : {Q : Type 0} → NodeState Q → ℕ → Option Version → Option KeyedVersion → NodeState Q
query_done x place kept put = propagation_begun (record x { registers = with_put x.registers put }) place kept

-- the sequence number of the key's tag that a set in its query starts from, and 0 of any other call
abbrev pub sequence_before : {Q : Type 0} → NodeState Q → Option Op → ℕ
sequence_before x None = 0
sequence_before x (Some (op.Get key)) = 0
sequence_before x (Some (op.Set key value)) = (tag_of (map.get x.registers key)).sequence

-- an open call that may advance was found here
pub record IsFound {Q : Type 0} (s : QuorumSystem Q) (x : NodeState Q) (id : CallId) (f : Found) : Type 0 where
  pub accepted : refusal_of s x (act.Advance id) ≡ None
  pub own : f.place ≡ place_of id.number x.calls
  pub at : slice_get x.calls f.place ≡ open_call x id
  pub before : f.sequence ≡ sequence_before x (query_in (open_call x id))

-- the copy that a call takes to its propagation whose query, if it is in it, is met
abbrev pub kept_by : {Q : Type 0} → NodeState Q → Option Op → Option Version
kept_by x None = None
kept_by x (Some o) = taken x o

-- what a call takes along isn't found yet, or is taken from it
pub record IsAlone (m : Moving) : Type 0 where
  pub kept : m.kept ≡ None
  pub put : m.put ≡ None

-- a call may advance with what it takes, and there is room for the copy that it puts
pub record IsMoving {Q : Type 0} (s : QuorumSystem Q) (v : RoomyNode Q) (m : Moving) : Type 0 where
  pub found : IsFound s v.state m.id m.found
  pub kept : m.kept ≡ kept_by v.state (query_in (open_call v.state m.id))
  pub put : m.put ≡ put_by v.state (query_in (open_call v.state m.id))
  pub room : HasRoomFor v.room (put_by v.state (query_in (open_call v.state m.id)))

-- gossip may be heard with these copies, after which the phase number is this
pub record IsReadyGossip {Q : Type 0} (v : RoomyNode Q) (g : GossipState Q) (copies : Copies) (number : ℕ) : Type 0 where
  pub counted : number ≡ number_after v.state g
  pub keys : HasRoom v.room.keys copies
  pub phases : IsRoomy g.map v.room.calls.list

-- what a letter says may be heard: the wish to join needs no room
abbrev pub IsReadyKind : {Q : Type 0} → RoomyNode Q → Kind Q → Copies → ℕ → Type 0
IsReadyKind v kind.Join copies number = Unit {0}
IsReadyKind v (kind.Gossip g) copies number = IsReadyGossip v g copies number

-- a letter may be heard with these copies, which make of the node's what its own would, and are stamped alike
pub record IsHearing {Q : Type 0} (v : RoomyNode Q) (l : LetterState Q) (h : Hearing) : Type 0 where
  pub ready : IsReadyKind v l.kind h.copies h.number
  pub alike : joined v.state.registers h.copies ≡ joined v.state.registers (copies_in l.kind)
  pub stamped : AreStampedAlike v.state.registers h.copies (copies_in l.kind)
