use Rattle.rambo_names.proofs.Sizes.{up_fits, back_fits}
use Rattle.std.proofs.Common.{◌+◌, Some, nat_le, length, ap, ◌∙◌}
use Rattle.rambo_gc.specs.Collections.{CollectionState, opened}
use Rattle.rambo_node.specs.Nodes.{NodeState}
use Rattle.rambo_node.specs.Reconfigurations.{collection_opened}
use Rattle.rambo_node.specs.Refusals.{is_last}
use Rattle.rambo_node.proofs.Judged.{collect_next, next_small}
use Rattle.rambo_node.proofs.Late.{late_next}
use Rattle.rambo_node.proofs.node.Node.do_collect.Goals as goal

abbrev numbered : {Q : Type 0} → CollectionState → NodeState Q → NodeState Q
numbered g x = record x { number = x.number + 1; collection = Some g }

pub overflow_add-self : goal.overflow_add-self
overflow_add-self g c =
    next_small c.self.inside.number c.self.ranges.1.1.1.0.1 (ap (λ v. is_last v.state.number) c.self.view_is ∙ (collect_next c.args.self.now.state c.requires).1)

pub collection_of-requires : goal.collection_of-requires
collection_of-requires g c = (back_fits _ _ _ (up_fits _ _ _ c.requires-raw.1.1.0), ap (λ v. nat_le (length v.state.map.configs) 1) c.self.view_is ∙ (collect_next c.args.self.now.state c.requires).0)

pub returns-clause-state : goal.returns-clause-state
unfolding collection_opened
returns-clause-state g c =
    ap (numbered c.collection_of.result) (ap (λ v. v.state) c.self.view_is)
    ∙ ap (λ o. numbered o c.args.self.now.state) (c.collection_of.ensures ∙ ap (λ v. opened v.state.map (v.state.number + 1) v.state.name) c.self.view_is)

pub invariant_of-self : goal.invariant_of-self
invariant_of-self g c = (c.self.invariant.0, late_next (g.S.Replica.stamps c.self.inside.registers) c.self.inside.number c.self.invariant.1)
