-- What is ready tells what the change will do
use Rattle.std.proofs.Common.{◌≡◌, ℕ, ◌+◌, ◌<◌, false, Option, None, Some, slice_get, refl, sym, ap, ◌∙◌, subst}
use Rattle.std.specs.Prelude.{if◌then◌else◌}
use Rattle.std.specs.FinMap as map
use Rattle.std.specs.List.{remove}
use Rattle.rambo_names.specs.Quorums.{QuorumSystem}
use Rattle.rambo_names.specs.Refusals.{least}
use Rattle.rambo_tag.specs.declared.keyed_version.KeyedVersion.{KeyedVersion}
use Rattle.rambo_tag.specs.declared.version.Version.{Version}
use Rattle.rambo_tag.specs.Copies.{Copies, joined}
use Rattle.rambo_tag.specs.Stamps.{stamps_merged}
use Rattle.rambo_history.specs.declared.event.CallId.{CallId}
use Rattle.rambo_history.specs.declared.operation.Op.{Op}
use Rattle.rambo_history.specs.declared.operation.Op.TheVariants as op
use Rattle.rambo_gossip.specs.Gossips.{GossipState}
use Rattle.rambo_gossip.specs.Kinds.{Kind}
use Rattle.rambo_gossip.specs.Kinds as kind
use Rattle.rambo_gossip.specs.Letters.{LetterState, gossip_with, kind_with, letter_with}
use Rattle.rambo_gossip.specs.Short.{copies_in}
use Rattle.rambo_calls.specs.Calls.{place_of, find_call, query_in, is_missing}
use Rattle.rambo_node.specs.declared.prepared.Hearing.{Hearing}
use Rattle.rambo_node.specs.declared.prepared.Found.{Found}
use Rattle.rambo_node.specs.declared.prepared.Moving.{Moving}
use Rattle.rambo_node.specs.FullNodes.{beside_after, beside_heard}
use Rattle.rambo_node.specs.Changes.{refusal_of, made_by, alone}
use Rattle.rambo_node.specs.Hearing.{heard_letter, heard_kind, heard_gossip, heard_rest}
use Rattle.rambo_node.specs.Kept.{answered_from, move_deed, propagation_begun}
use Rattle.rambo_node.specs.Nodes.{NodeState, Beside, RoomyNode, open_call}
use Rattle.rambo_node.specs.Operations.{taken, with_copy}
use Rattle.rambo_node.specs.Prepared.{kept_by, put_by, with_put, query_done, sequence_before, HasRoomFor, IsAlone, IsFound, IsMoving, IsHearing, IsReadyGossip, IsReadyKind}
use Rattle.rambo_node.specs.Refusals.{hear_causes, is_last, query_spent, tags_spent}
use Rattle.rambo_node.proofs.Advances.{query_moves, call_closes}
use Rattle.rambo_node.proofs.Besides.{alike_beside}
use Rattle.rambo_node.proofs.Judged.{advance_next, asked_next}
use Rattle.rambo_node.proofs.Short.{own_copies}
use Rattle.rambo_node.proofs.Telling.{heard_alike, kind_twice}
use Rattle.rambo_node.specs.Acts as act

-- the copy that is put is that of the set, if there is one
put_is : {Q : Type 0} (x : NodeState Q) (o : Op) → with_put x.registers (put_by x (Some o)) ≡ with_copy x.registers o (taken x o)
put_is x (op.Get key) = refl
put_is x (op.Set key value) = refl

-- a met query, with what was found for it
module _ {Q : Type 0} (x : NodeState Q) (id : CallId) (o : Op) (asked : query_in (open_call x id) ≡ Some o) where
  pub query_ends : (place : ℕ) (kept : Option Version) (put : Option KeyedVersion) → place ≡ place_of id.number x.calls → kept ≡ taken x o → put ≡ put_by x (Some o)
      → query_done x place kept put ≡ (made_by x (act.Advance id)).node
  unfolding made_by
  query_ends place kept put own sent held =
      (λ i. query_done x (own i) (sent i) (held i))
      ∙ ap (λ r. propagation_begun (record x { registers = r }) (place_of id.number x.calls) (taken x o)) (put_is x o)
      ∙ (query_moves x id o asked).0

  pub query_tells : move_deed id o (taken x o) ≡ (made_by x (act.Advance id)).deed
  unfolding made_by
  query_tells = (query_moves x id o asked).1

-- a met propagation
module _ {Q : Type 0} (x : NodeState Q) (id : CallId) (there : is_missing (open_call x id) ≡ false) (round : query_in (open_call x id) ≡ None) where
  pub answer_ends : (place : ℕ) → place ≡ place_of id.number x.calls → record x { calls = remove x.calls place } ≡ (made_by x (act.Advance id)).node
  unfolding made_by
  answer_ends place own = ap (λ p. record x { calls = remove x.calls p }) own ∙ (call_closes x id there round).0

  pub answer_tells : answered_from id (find_call id.number x.calls) ≡ (made_by x (act.Advance id)).deed
  unfolding made_by
  answer_tells = (call_closes x id there round).1

-- a call that may go on, where it was found
module _ {Q : Type 0} (s : QuorumSystem Q) (x : NodeState Q) (id : CallId) (at : Found) (f : IsFound s x id at) where
  pub found_there : is_missing (open_call x id) ≡ false
  found_there = (advance_next x s id f.accepted).0

  pub found_asked : (asked : Option Op) → asked ≡ query_in (slice_get x.calls at.place) → query_in (open_call x id) ≡ asked
  found_asked asked e = sym (e ∙ ap query_in f.at)

  -- a query that goes on has a next number, and a set a next tag
  pub found_next : (o : Op) → query_in (open_call x id) ≡ Some o → (is_last x.number ≡ false) × (tags_spent x o ≡ false)
  found_next o asked = asked_next x o (sym (ap (query_spent x) asked) ∙ (advance_next x s id f.accepted).1)

  pub found_before : (o : Op) → query_in (open_call x id) ≡ Some o → at.sequence ≡ sequence_before x (Some o)
  found_before o asked = f.before ∙ ap (sequence_before x) asked

-- who is in its query takes along what is found for it
pub query_takes : {Q : Type 0} (s : QuorumSystem Q) (v : RoomyNode Q) (m : Moving) (o : Op) → IsFound s v.state m.id m.found → query_in (open_call v.state m.id) ≡ Some o
    → HasRoomFor v.room (put_by v.state (query_in (open_call v.state m.id))) → IsMoving s v (record m { kept = taken v.state o; put = put_by v.state (Some o) })
query_takes s v m o found asked room = record {
  found = found;
  kept = sym (ap (kept_by v.state) asked);
  put = sym (ap (put_by v.state) asked);
  room = room;
}

-- and who was in its propagation takes nothing along
pub answer_takes : {Q : Type 0} (s : QuorumSystem Q) (v : RoomyNode Q) (m : Moving) → IsFound s v.state m.id m.found → query_in (open_call v.state m.id) ≡ None → IsAlone m
    → HasRoomFor v.room (put_by v.state (query_in (open_call v.state m.id))) → IsMoving s v m
answer_takes s v m found round alone room = record {
  found = found;
  kept = alone.kept ∙ sym (ap (kept_by v.state) round);
  put = alone.put ∙ sym (ap (put_by v.state) round);
  room = room;
}

-- gossip whose copies were merged first
pub gossip_ends : {Q : Type 0} (x : NodeState Q) (j : ℕ) (g : GossipState Q) (copies : Copies)
    → heard_rest (record x { registers = joined x.registers copies }) j g ≡ heard_gossip x j (gossip_with g copies)
unfolding heard_gossip
gossip_ends x j g copies = refl

-- what is ready of gossip is ready of its outline
pub outline_ready : {Q : Type 0} (v : RoomyNode Q) (g o : GossipState Q) (other : Copies) (number : ℕ) → o ≡ gossip_with g map.empty → IsReadyGossip v g other number → IsReadyGossip v o other number
outline_ready v g o other number e h = subst (λ p. IsReadyGossip v p other number) (sym e) (record { counted = h.counted; keys = h.keys; phases = h.phases })

-- what a letter says is as ready with other copies
pub ready_apart : {Q : Type 0} (v : RoomyNode Q) (k : Kind Q) (copies other : Copies) (number : ℕ) → IsReadyKind v k other number → IsReadyKind v (kind_with k copies) other number
ready_apart v kind.Join copies other number h = tt
ready_apart v (kind.Gossip g) copies other number h = record { counted = h.counted; keys = h.keys; phases = h.phases }

-- other copies take the place of a letter's copies
short_is : {Q : Type 0} (l : LetterState Q) (other : Copies) → letter_with (letter_with l map.empty) other ≡ letter_with l other
short_is l other = λ i. record l { kind = kind_twice l.kind map.empty other i }

-- a letter with copies that make the same comes to the same, where it is told by its outline
pub hearing_ends : {Q : Type 0} (v : RoomyNode Q) (l o : LetterState Q) (h : Hearing) → o ≡ letter_with l map.empty → IsHearing v l h → heard_letter v.state (letter_with o h.copies) ≡ heard_letter v.state l
hearing_ends v l o h is e =
    ap (λ (n : LetterState _). heard_letter v.state (letter_with n h.copies)) is
    ∙ ap (heard_letter v.state) (short_is l h.copies)
    ∙ (heard_alike v.state l h.copies (copies_in l.kind) e.alike).0 ∙ ap (heard_letter v.state) (own_copies l)

-- and leaves beside what the whole letter would
pub hearing_beside : {Q : Type 0} (v : RoomyNode Q) (l o : LetterState Q) (h : Hearing) → o ≡ letter_with l map.empty → IsHearing v l h
    → beside_after v.state v.beside (act.Hear (letter_with o h.copies)) ≡ beside_after v.state v.beside (act.Hear l)
hearing_beside v l o h is e =
    ap (λ (n : LetterState _). beside_after v.state v.beside (act.Hear (letter_with n h.copies))) is
    ∙ alike_beside v.state v.beside l.sender l.kind h.copies e.stamped

pub hearing_ready : {Q : Type 0} (v : RoomyNode Q) (l o : LetterState Q) (h : Hearing) → o ≡ letter_with l map.empty → IsHearing v l h → IsReadyKind v o.kind h.copies h.number
hearing_ready v l o h is e = subst (λ (n : LetterState _). IsReadyKind v n.kind h.copies h.number) (sym is) (ready_apart v l.kind map.empty h.copies h.number e.ready)

-- what was found of gossip is right for a letter that has it
pub gossip_hearing : {Q : Type 0} (v : RoomyNode Q) (l : LetterState Q) (o : GossipState Q) (copies : Copies) (h : Hearing) → l.kind ≡ kind.Gossip (gossip_with o copies)
    → IsReadyGossip v o h.copies h.number → h.copies ≡ copies → IsHearing v l h
gossip_hearing v l o copies h is ready own =
    let all : h.copies ≡ copies_in l.kind = own ∙ sym (ap copies_in is) in
    record {
      ready = subst (λ k. IsReadyKind v k h.copies h.number) (sym is) (ready_apart v (kind.Gossip o) copies h.copies h.number ready);
      alike = ap (joined v.state.registers) all;
      stamped = λ now s. ap (stamps_merged now v.state.registers s) all;
    }

-- gossip comes to the letter that has it
module _ {Q : Type 0} (x : NodeState Q) (l : LetterState Q) (o : GossipState Q) (copies : Copies) (is : l.kind ≡ kind.Gossip (gossip_with o copies)) where
  pub gossip_heard : heard_gossip x l.sender (gossip_with o copies) ≡ heard_letter x l
  gossip_heard = sym (ap (heard_kind x l.sender) is)

  pub gossip_beside : (b : Beside) → beside_heard x b l.sender (kind.Gossip (gossip_with o copies)) ≡ beside_after x b (act.Hear l)
  gossip_beside b = sym (ap (beside_heard x b l.sender) is)

-- other copies are refused alike
pub copies_judged : {Q : Type 0} (s : QuorumSystem Q) (x : NodeState Q) (l : LetterState Q) (copies : Copies) → refusal_of s x (act.Hear (letter_with l copies)) ≡ refusal_of s x (act.Hear l)
copies_judged s x l copies = ap least (causes_alike x l.kind copies)
  where
    causes_alike : {Q : Type 0} (x : NodeState Q) (k : Kind Q) (copies : Copies) → hear_causes x (kind_with k copies) ≡ hear_causes x k
    causes_alike x kind.Join copies = refl
    causes_alike x (kind.Gossip g) copies = refl
