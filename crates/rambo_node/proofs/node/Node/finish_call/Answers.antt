use Rattle.std.proofs.Common.{◌<◌, sym, ap, ◌∙◌, subst}
use Rattle.rambo_node.specs.Refusals.{is_last}
use Rattle.rambo_node.proofs.Judged.{call_next, next_small}
use Rattle.rambo_names.proofs.Sizes.{up_fits, back_fits, next}
use Rattle.rambo_node.proofs.Late.{late_next}
use Rattle.rambo_node.proofs.node.Node.finish_call.Goals as goal

pub next_id-id-requires : goal.next_id-id-requires
next_id-id-requires g c = (c.requires-raw.1.1.0, (call_next c.args.self.now.state c.args.op c.requires.accepted).1)

pub overflow_add-self-inside : goal.overflow_add-self-inside
overflow_add-self-inside g c = next_small c.self.inside.number c.self.ranges.1.1.1.0.1 (ap (λ v. is_last v.state.number) c.self.view_is ∙ (call_next c.args.self.now.state c.args.op c.requires.accepted).0)

pub overflow_add-self : goal.overflow_add-self
overflow_add-self g c = next_small c.self.inside.number c.self.ranges.1.1.1.0.1 (ap (λ v. is_last v.state.number) c.self.view_is ∙ (call_next c.args.self.now.state c.args.op c.requires.accepted).0)

pub open_reserved-requires : goal.open_reserved-requires
open_reserved-requires g c = (
  back_fits _ _ _ (next _ _ _ _ (up_fits _ _ _ c.requires-raw.1.1.0)),
  (back_fits _ _ _ (up_fits _ _ _ c.requires-raw.1.1.0), subst (λ v. 0 < v.room.calls.room) (sym c.self.view_is) c.requires.room),
)

pub invariant_of-self : goal.invariant_of-self
invariant_of-self g c = (c.self.invariant.0, late_next (g.S.Replica.stamps c.self.inside.registers) c.self.inside.number c.self.invariant.1)
