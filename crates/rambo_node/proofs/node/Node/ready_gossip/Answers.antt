use Rattle.std.proofs.Common.{sym, ap, ◌∙◌, subst}
use Rattle.rambo_calls.specs.Hearing.{number_after}
use Rattle.rambo_calls.specs.Kept.{IsRoomy}
use Rattle.rambo_names.proofs.Sizes.{up_fits, back_fits}
use Rattle.rambo_node.proofs.Late.{late_same}
use Rattle.rambo_node.proofs.node.Node.ready_gossip.Goals as goal

pub number_after-number-requires : goal.number_after-number-requires
number_after-number-requires g c = (c.requires-raw.1.1.0, (back_fits _ _ _ (up_fits _ _ _ c.requires-raw.1.1.0), c.requires))

pub room_for-requires : goal.room_for-requires
room_for-requires g c = (c.requires-raw.1.1.0, back_fits _ _ _ (up_fits _ _ _ c.requires-raw.1.1.0))

pub returns-clause-ready : goal.returns-clause-ready
returns-clause-ready g c =
    let gossip = c.args.gossip.now in
    let v = ap (λ n. n.state) c.self.view_is ∙ c.in_ok-room_for.ensures.same in
    record {
      counted = c.number_after-number.ensures ∙ sym (ap (λ x. number_after x.number gossip.heard gossip.map.now x.calls) v);
      keys = c.in_ok-room.ensures.ok;
      phases = subst (λ n. IsRoomy gossip.map.now n.room.calls.list) (sym c.self.view_is) c.in_ok-room_for.ensures.room;
    }

pub invariant_of-self : goal.invariant_of-self
invariant_of-self g c = (c.self.invariant.0, late_same (g.S.Replica.stamps c.self.inside.registers) _ c.self.inside.number c.room.ensures.stamped c.self.invariant.1)

pub invariant_of-self-2 : goal.invariant_of-self-2
invariant_of-self-2 g c = (c.self.invariant.0, late_same (g.S.Replica.stamps c.self.inside.registers) _ c.self.inside.number c.room.ensures.stamped c.self.invariant.1)
