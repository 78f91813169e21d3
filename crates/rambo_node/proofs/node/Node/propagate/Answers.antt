use Rattle.std.proofs.Common.{ap, ◌∙◌}
use Rattle.rambo_node.specs.Refusals.{is_last}
use Rattle.rambo_node.proofs.Judged.{next_small}
use Rattle.rambo_names.proofs.Sizes.{up_fits, back_fits, next}
use Rattle.rambo_node.proofs.Late.{late_next}
use Rattle.rambo_node.proofs.node.Node.propagate.Goals as goal

pub overflow_add-self : goal.overflow_add-self
overflow_add-self g c = next_small c.self.inside.number c.self.ranges.1.1.1.0.1 (ap (λ v. is_last v.state.number) c.self.view_is ∙ c.requires)

pub propagate-requires : goal.propagate-requires
propagate-requires g c = (back_fits _ _ _ (next _ _ _ _ (up_fits _ _ _ c.requires-raw.1.1.0)), back_fits _ _ _ (up_fits _ _ _ c.requires-raw.1.1.0))

pub invariant_of-self : goal.invariant_of-self
invariant_of-self g c = (c.self.invariant.0, late_next (g.S.Replica.stamps c.self.inside.registers) c.self.inside.number c.self.invariant.1)
