use Rattle.std.proofs.Common.{ℕ, ◌≤◌, length, ◌∙◌, subst, arith}
use Rattle.std.specs.FinMap.{len}
use Rattle.rambo_tag.proofs.MergeSteps.{OnOk-map}
use Rattle.rambo_tag.proofs.Rooms.{len-greatest_of, none_for_empty}
use Rattle.rambo_tag.specs.Rows.{room_in}
use Rattle.rambo_tag.proofs.registers.RegistersReplica.room.Goals as goal

pub returns-in_default-clause-ok : goal.returns-in_default-clause-ok
returns-in_default-clause-ok g c =
    let copies = c.copies.result.now in
    let few : len c.args.pack.now ≤ length copies = subst (λ m. len m ≤ length copies) c.copies.ensures (len-greatest_of copies) in
    OnOk-map c.make_room.result (λ room. up_to (len c.args.pack.now) (length copies) (room_in c.make_room.new.table c.make_room.new.log) few room) c.make_room.ensures.ok
  where
    up_to : (a b c : ℕ) → a ≤ b → b ≤ c → a ≤ c
    up_to a b c h i = omega (arith, h, i)

pub returns-in_default-clause-idle : goal.returns-in_default-clause-idle
returns-in_default-clause-idle g c none = c.make_room.ensures.idle (none_for_empty c.copies.result.now (c.copies.ensures ∙ none))

pub returns-in-empty-clause-ok : goal.returns-in-empty-clause-ok
returns-in-empty-clause-ok g c =
    let copies = c.copies.result.now in
    let few : len c.args.pack.now ≤ length copies = subst (λ m. len m ≤ length copies) c.copies.ensures (len-greatest_of copies) in
    let none = c.in-empty.len_below in
    omega (arith, few, none)
