use Rattle.std.proofs.Common.{◌+◌, slice_get, ap, ◌∙◌}
use Rattle.rambo_node.specs.Changes.{made_by}
use Rattle.rambo_calls.specs.Hearing.{restarted}
use Rattle.rambo_calls.specs.Kept.{calls_of, with_call}
use Rattle.rambo_node.specs.Refusals.{is_last}
use Rattle.rambo_node.proofs.Advances.{begins_again, next_calls}
use Rattle.rambo_node.proofs.Judged.{again_next, next_small}
use Rattle.rambo_names.proofs.Sizes.{up_fits, back_fits, next}
use Rattle.rambo_node.proofs.Late.{late_next}
use Rattle.rambo_node.proofs.node.Node.do_again.Goals as goal

pub overflow_add-self : goal.overflow_add-self
overflow_add-self g c =
    next_small c.self.inside.number c.self.ranges.1.1.1.0.1 (ap (λ v. is_last v.state.number) c.self.view_is ∙ (again_next c.args.self.now.state c.args.id c.requires).1)

pub returns-clause-state : goal.returns-clause-state
unfolding made_by
returns-clause-state g c =
    let x = c.args.self.now.state in
    ap (next_calls (calls_of c.restart.new.self.list)) (ap (λ v. v.state) c.self.view_is)
    ∙ ap (λ cs. next_calls cs x)
    (c.restart.ensures ∙ ap (λ v. with_call c.place_of-place.result (slice_get v.state.calls c.place_of-place.result) (restarted (v.state.number + 1) v.state.map v.state.name) v.state.calls) c.self.view_is
    ∙ ap (λ p. with_call p (slice_get x.calls p) (restarted (x.number + 1) x.map x.name) x.calls) (c.place_of-place.ensures.own (again_next x c.args.id c.requires).0))
    ∙ begins_again x c.args.id (again_next x c.args.id c.requires).0

pub restart-requires : goal.restart-requires
restart-requires g c = (back_fits _ _ _ (next _ _ _ _ (up_fits _ _ _ c.requires-raw.1.1.0)), back_fits _ _ _ (up_fits _ _ _ c.requires-raw.1.1.0))

pub place_of-place-requires : goal.place_of-place-requires
place_of-place-requires g c = c.requires-raw.1.1.0

pub invariant_of-self : goal.invariant_of-self
invariant_of-self g c = (c.self.invariant.0, late_next (g.S.Replica.stamps c.self.inside.registers) c.self.inside.number c.self.invariant.1)
