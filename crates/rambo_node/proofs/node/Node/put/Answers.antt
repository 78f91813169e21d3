use Rattle.std.proofs.Common.{◌≡◌, ◌<◌, false, Option, None, Some, is_some, refl, sym, ap, ◌∙◌, subst}
use Rattle.std.proofs.lemmas.Bool.{true≢false}
use Rattle.std.specs.FinMap as map
use Rattle.rambo_node.specs.FullNodes.{stamp_put}
use Rattle.rambo_node.specs.Prepared.{HasRoomFor, with_put}
use Rattle.rambo_node.proofs.Late.{late_put}
use Rattle.rambo_node.proofs.node.Node.put.Goals as goal

is_none : {A : Type 0} (o : Option A) → is_some o ≡ false → o ≡ None
is_none None e = refl
is_none (Some a) e = absurd (true≢false e)

pub put_room-requires : goal.put_room-requires
put_room-requires g c = record {
  room = subst (λ v. 0 < v.room.keys) (sym c.self.view_is) (subst (HasRoomFor c.args.self.now.room) (sym c.take.ensures.value ∙ c.in-Some.is) c.requires);
  late = c.self.invariant.1;
}

pub returns-in-Some-clause-state : goal.returns-in-Some-clause-state
returns-in-Some-clause-state g c =
    let x = c.args.self.now.state in
    let copy = c.in-Some.field-0 in
    let put = c.put_room.ensures.copies ∙ ap (λ v. map.insert v.state.registers copy.key copy.version) c.self.view_is ∙ sym (ap (with_put x.registers) (sym c.take.ensures.value ∙ c.in-Some.is)) in
    λ i. record ((c.self.view_is i).state) { registers = put i }

pub invariant_of-self : goal.invariant_of-self
invariant_of-self g c = (c.self.invariant.0, late_put (g.S.Replica.stamps c.self.inside.registers) _ c.in-Some.field-0.key c.self.inside.number c.put_room.ensures.stamped c.self.invariant.1)

pub returns-in-Some-clause-beside : goal.returns-in-Some-clause-beside
returns-in-Some-clause-beside g c =
    let x = c.args.self.now in
    let copy = c.in-Some.field-0 in
    let stamps = c.put_room.ensures.stamped ∙ ap (λ v. map.insert v.beside.stamps copy.key v.state.number) c.self.view_is ∙ sym (ap (stamp_put x.state.number x.beside.stamps) (sym c.take.ensures.value ∙ c.in-Some.is)) in
    λ i. record ((c.self.view_is i).beside) { stamps = stamps i }

pub returns-then-is_none-clause-state : goal.returns-then-is_none-clause-state
returns-then-is_none-clause-state g c =
    let x = c.args.self.now.state in
    ap (λ o. record x { registers = with_put x.registers o }) (sym (is_none c.args.put.now c.if-is_none.ensures))

pub returns-then-is_none-clause-beside : goal.returns-then-is_none-clause-beside
returns-then-is_none-clause-beside g c =
    let x = c.args.self.now in
    ap (λ o. record x.beside { stamps = stamp_put x.state.number x.beside.stamps o }) (sym (is_none c.args.put.now c.if-is_none.ensures))

pub returns-then-is_none-clause-taken : goal.returns-then-is_none-clause-taken
returns-then-is_none-clause-taken g c = is_none c.args.put.now c.if-is_none.ensures
