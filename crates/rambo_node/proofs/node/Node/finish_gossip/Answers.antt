use Rattle.std.proofs.Common.{sym, ap, ◌∙◌, subst}
use Rattle.rambo_tag.specs.Copies.{joined, HasRoom}
use Rattle.rambo_tag.specs.Stamps.{stamps_merged}
use Rattle.rambo_calls.specs.Hearing.{number_after}
use Rattle.rambo_calls.specs.Kept.{IsRoomy}
use Rattle.rambo_gossip.specs.Outlines.{gossip_outlined}
use Rattle.rambo_node.specs.Hearing.{heard_rest}
use Rattle.rambo_node.specs.Nodes.{raised}
use Rattle.rambo_node.proofs.Readiness.{gossip_ends}
use Rattle.rambo_node.proofs.Late.{late_merged}
use Rattle.rambo_node.proofs.node.Node.finish_gossip.Goals as goal

pub merge_room-requires : goal.merge_room-requires
merge_room-requires g c = record { room = subst (λ n. HasRoom n.room.keys c.args.hearing.copies) (sym c.self.view_is) c.requires.keys; late = c.self.invariant.1 }

pub settle-requires : goal.settle-requires
settle-requires g c =
    let gossip = c.args.gossip.now in (
      c.requires-raw.1.1.0,
      (
        subst (λ n. IsRoomy gossip.map.now n.room.calls.list) (sym c.self.view_is) c.requires.phases,
        c.requires.counted ∙ sym (ap (λ n. number_after n.state.number gossip.heard gossip.map.now n.state.calls) c.self.view_is),
      ),
    )

pub returns-clause-state : goal.returns-clause-state
returns-clause-state g c =
    let o = gossip_outlined c.args.gossip.now in
    let v = ap (λ n. n.state) c.self.view_is in
    let copies = c.merge_room.ensures.copies ∙ ap (λ x. joined x.registers c.args.hearing.copies) v in
    c.settle.ensures.state ∙ (λ i. heard_rest (record (v i) { registers = copies i }) c.args.from o) ∙ gossip_ends c.args.self.now.state c.args.from o c.args.hearing.copies

pub invariant_of-self : goal.invariant_of-self
invariant_of-self g c = (
  c.self.invariant.0,
  late_merged (g.S.Replica.stamps c.self.inside.registers) _ (g.S.Replica.copies c.self.inside.registers) c.args.hearing.copies c.self.inside.number c.merge_room.ensures.stamped c.self.invariant.1,
)

pub returns-clause-beside : goal.returns-clause-beside
returns-clause-beside g c =
    let gossip = c.args.gossip.now in
    let stamps = c.merge_room.ensures.stamped ∙ ap (λ v. stamps_merged v.state.number v.state.registers v.beside.stamps c.args.hearing.copies) c.self.view_is in
    c.settle.ensures.beside ∙ λ i. record { stamps = stamps i; bases = raised (c.self.view_is i).beside.bases c.args.from gossip.heard }
