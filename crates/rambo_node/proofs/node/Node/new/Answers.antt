use Rattle.std.proofs.Common.{None, ap, ◌∙◌}
use Rattle.rambo_node.specs.Nodes.{first_node, first_status, first_known}
use Rattle.rambo_calls.specs.Kept.{calls_of}
use Rattle.rambo_names.proofs.Sizes.{up_fits, back_fits, next}
use Rattle.rambo_node.proofs.Late.{late_none}
use Rattle.rambo_node.proofs.node.Node.new.Goals as goal

pub returns-clause-state : goal.returns-clause-state
unfolding first_node
returns-clause-state g c =
    let members = c.members-members.ensures in
    λ i. record {
      name = c.args.name;
      status = (c.first_status.ensures ∙ ap (λ m. first_status m c.args.name) members) i;
      known = (c.first_known.ensures ∙ ap (λ m. first_known m c.args.name) members) i;
      registers = c.requires.copies i;
      map = c.new.ensures i;
      number = 0;
      made = 0;
      heard = c.new-2.ensures i;
      calls = calls_of (c.new-4.ensures i);
      collection = None;
      attempt = None;
      vote = c.new-5.ensures i;
    }

pub first_status-requires : goal.first_status-requires
first_status-requires g c = tt

pub first_known-requires : goal.first_known-requires
first_known-requires g c = tt

pub new-requires-2 : goal.new-requires-2
new-requires-2 g c = tt

pub invariant_of-result : goal.invariant_of-result
invariant_of-result g c = (tt, late_none (g.S.Replica.stamps c.args.registers) 0 c.requires.stamps)

pub members-members-requires : goal.members-members-requires
members-members-requires g c = assumption

pub new-requires-5 : goal.new-requires-5
new-requires-5 g c = assumption

pub new-requires : goal.new-requires
new-requires g c = back_fits _ _ _ (up_fits _ _ _ c.requires-raw.1.1.0)

pub new-requires-4 : goal.new-requires-4
new-requires-4 g c = back_fits _ _ _ (next _ _ _ _ (up_fits _ _ _ c.requires-raw.1.1.0))

pub returns-clause-beside : goal.returns-clause-beside
returns-clause-beside g c = λ i. record { stamps = c.requires.stamps i; bases = c.new-3.ensures i }
