-- The first halves of steps
use Rattle.std.proofs.Common.{◌≡◌, ℕ, ◌<◌, ◌+◌, Option, None, Some, Result, IfErr, Box, Global, refl, sym, ap, ◌∙◌, subst}
use Rattle.std.specs.FinMap as map
use Rattle.rambo_names.specs.Names.{IsName}
use Rattle.std.proofs.lemmas.Result.{IfErr-weaker}
use Rattle.rambo_names.specs.declared.refusal.Refusal.{Refusal}
use Rattle.rambo_names.specs.declared.refusal.Refusal.TheVariants.{OutOfMemory}
use Rattle.rambo_names.specs.Quorums.{QuorumSystem}
use Rattle.rambo_names.specs.Refusals.{IsRefusal}
use Rattle.rambo_tag.specs.Copies.{Copies}
use Rattle.rambo_gossip.specs.Letters.{LetterState, letter_with}
use Rattle.rambo_node.specs.Acts.{Act}
use Rattle.rambo_node.specs.declared.prepared.Hearing.{Hearing}
use Rattle.rambo_node.specs.declared.prepared.Quiet.{Quiet}
use Rattle.rambo_calls.specs.Calls.{CallState}
use Rattle.rambo_calls.specs.declared.stage.Stage.{Stage}
use Rattle.rambo_calls.specs.declared.stage.Stage.TheVariants as stage
use Rattle.rambo_history.specs.declared.event.CallId.{CallId}
use Rattle.rambo_history.specs.declared.event.Event.TheVariants as event
use Rattle.rambo_history.specs.declared.operation.Op.{Op}
use Rattle.rambo_node.specs.declared.deed.Deed.{Deed}
use Rattle.rambo_node.specs.Changes.{advanced, refusal_of, made_by, stage_met}
use Rattle.rambo_node.specs.FullNodes.{IsDelta, full}
use Rattle.rambo_node.specs.Letters.{letter_for}
use Rattle.rambo_node.specs.Nodes.{RoomyNode, open_call}
use Rattle.rambo_node.specs.Prepared.{IsHearing, IsMoving}
use Rattle.rambo_node.specs.Acts as act
use Rattle.std.proofs.lemmas.Option.{none-some}
use Rattle.rambo_node.specs.declared.half.Going.{Going}
use Rattle.rambo_node.specs.declared.half.Half.{Half}
use Rattle.rambo_node.specs.declared.half.Half.TheVariants as half
use Rattle.rambo_node.specs.Halves.{IsHalf, IsReadyStep, SendsFor}
use Rattle.rambo_node.proofs.Outlines.{letter_twice}

-- where nothing else refuses it, want of memory is told
pub lacks : {p : Option Refusal} {r : Refusal} → p ≡ None → r ≡ OutOfMemory → IsRefusal p r
lacks {r = r} none out = subst (λ p. IsRefusal p r) (sym none) out

pub all_lack : {A : Type 0} {p : Option Refusal} (r : Result A Refusal) → p ≡ None → IfErr r (λ e. e ≡ OutOfMemory) → IfErr r (IsRefusal p)
all_lack r none out = IfErr-weaker r _ _ (λ e is. lacks none is) out

module _ {Q : Type 0} (s : QuorumSystem Q) (v : RoomyNode Q) where
  -- an advance sends no letter, whatever it does
  none_met : (id : CallId) (c : CallState Q) (st : Stage) → SendsFor v None (stage_met v.state id c st).letter
  none_met id c stage.Query = _
  none_met id c (stage.Propagation kept) = _

  no_letter : (id : CallId) (o : Option (CallState Q)) → SendsFor v None (advanced v.state id o).letter
  no_letter id None = _
  no_letter id (Some c) = none_met id c c.stage

  pub send_ready : (to : ℕ) (l o : LetterState Q) (copies : Copies) → IsName to → refusal_of s v.state (act.Send to) ≡ None → l ≡ letter_with o copies → o ≡ letter_with (letter_for v.state to) map.empty → IsDelta (full v) to copies
      → IsReadyStep s v None (act.Send to) (half.Send l)
  unfolding made_by
  send_ready to l o copies named ok is outline since =
      let sent : l ≡ letter_with (letter_for v.state to) copies = is ∙ ap (λ o. letter_with o copies) outline ∙ letter_twice (letter_for v.state to) map.empty copies in
      record { accepted = ok; half = (to, refl); event = refl; mark = refl; letter = (named, (copies, since, sent)) }

  pub hear_ready : (l : LetterState Q) (h : Hearing) → refusal_of s v.state (act.Hear l) ≡ None → IsHearing v l h → IsReadyStep s v (Some (letter_with l map.empty)) (act.Hear l) (half.Hear h)
  unfolding made_by
  hear_ready l h ok hearing = record { accepted = ok; half = record { letter = l; delivers = refl; told = refl; hearing = hearing }; event = refl; mark = refl; letter = _ }

  pub call_ready : (o asked told : Op) (id : CallId) (b : Box (Going Q) Global) → refusal_of s v.state (act.Call o) ≡ None → asked ≡ o → told ≡ o
      → id ≡ record { name = v.state.name; number = v.state.made + 1 } → 0 < v.room.calls.room
      → b.value.asked ≡ Some asked → b.value.deed.event ≡ Some (event.Call id told) → b.value.deed.mark ≡ None → IsReadyStep s v None (act.Call o) (half.Call b)
  unfolding made_by
  call_ready o asked told id b ok same named own room asks tells marks = record {
    accepted = ok;
    half = record { op = o; calls = refl; asked = asks ∙ ap Some same; room = room };
    event = tells ∙ λ i. Some (event.Call (own i) (named i));
    mark = marks;
    letter = _;
  }

  pub advance_ready : (id : CallId) (b : Box (Going Q) Global) → b.value.moving.id ≡ id → IsMoving s v b.value.moving → b.value.deed ≡ (made_by v.state (act.Advance id)).deed → IsReadyStep s v None (act.Advance id) (half.Advance b)
  unfolding made_by
  advance_ready id b named moving told = record {
    accepted = ap (λ n. refusal_of s v.state (act.Advance n)) (sym named) ∙ moving.found.accepted;
    half = record { advances = ap act.Advance (sym named); moving = moving; told = told };
    event = ap (λ (d : Deed Q). d.event) told;
    mark = ap (λ (d : Deed Q). d.mark) told;
    letter = no_letter id (open_call v.state id);
  }

  pub quiet_ready : (q : Quiet Q) → refusal_of s v.state (act.Quietly q) ≡ None → IsReadyStep s v None (act.Quietly q) (half.Quiet q)
  unfolding made_by
  quiet_ready q ok = record { accepted = ok; half = refl; event = refl; mark = refl; letter = _ }

  -- what is ready where no letter comes is so whatever letter would come
  half_apart : (o : Option (LetterState Q)) (c : Act Q) (h : Half Q) → IsHalf s v None c h → IsHalf s v o c h
  half_apart o c (half.Send l) e = e
  half_apart o c (half.Hear h) e = absurd (none-some _ e.told)
  half_apart o c (half.Call g) e = e
  half_apart o c (half.Advance g) e = e
  half_apart o c (half.Quiet q) e = e

  pub ready_apart : (o : Option (LetterState Q)) (c : Act Q) (h : Half Q) → IsReadyStep s v None c h → IsReadyStep s v o c h
  ready_apart o c h e = record { accepted = e.accepted; half = half_apart o c h e.half; event = e.event; mark = e.mark; letter = e.letter }
