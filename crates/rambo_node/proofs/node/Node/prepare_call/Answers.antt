use Rattle.std.proofs.Common.{◌≡◌, ◌+◌, None, sym, ap, ◌∙◌, subst}
use Rattle.rambo_node.specs.Acts as act
use Rattle.rambo_node.specs.declared.half.Going.{Going}
use Rattle.rambo_node.specs.Changes.{refusal_of}
use Rattle.rambo_node.specs.Refusals.{is_last}
use Rattle.rambo_node.proofs.Judged.{call_next}
use Rattle.rambo_node.proofs.FirstHalves.{call_ready}
use Rattle.rambo_node.proofs.node.Node.prepare_call.Goals as goal

pub next_id-id-requires : goal.next_id-id-requires
next_id-id-requires g c = (c.requires-raw.1.1.0, (call_next c.args.self.now.state c.args.op.now c.requires).1)

pub next_id-own-requires : goal.next_id-own-requires
next_id-own-requires g c = (c.requires-raw.1.1.0, ap (λ x. is_last x.made) c.in_ok-ready_call.ensures.same ∙ (call_next c.args.self.now.state c.args.op.now c.requires).1)

pub returns-clause-ready : goal.returns-clause-ready
returns-clause-ready g c =
    let s = g.Q.Quorums.system in
    let o = c.args.op.now in
    let room = c.in_ok-ready_call.ensures in
    let accepted = subst (λ x. refusal_of s x (act.Call o) ≡ None) (sym room.same) c.requires in
    let empty = c.in_ok-going.ensures.empty in
    let mark = c.tell_call.ensures.mark ∙ ap (λ (w : Going _). w.deed.mark) c.deref_mut.ensures.value ∙ ap (λ d. d.mark) empty.told in
    call_ready s c.ready_call.new.self o c.in_ok-asked.asked c.in_ok-told.told c.next_id-own.result _ accepted c.in_ok-asked.ensures.same c.in_ok-told.ensures.same c.next_id-own.ensures room.ok
    c.tell_call.ensures.asked c.tell_call.ensures.event mark
