use Rattle.std.proofs.Common.{◌≡◌, [], sym, ap, ◌∙◌, arith}
use Rattle.rambo_tag.specs.Copies.{joined}
use Rattle.rambo_tag.specs.Logs.{greatest_after}
use Rattle.rambo_tag.specs.Rows.{stamps_after}
use Rattle.rambo_tag.proofs.Logged.{joined-greatest_of}
use Rattle.rambo_tag.proofs.MergeSteps.{joined-none}
use Rattle.rambo_tag.proofs.Stampings.{stamps_after-merged}
use Rattle.rambo_tag.proofs.registers.RegistersReplica.merge_room.Goals as goal

pub returns-in_default-clause-copies : goal.returns-in_default-clause-copies
returns-in_default-clause-copies g c =
    let held = c.args.self.now.copies in
    let cs = c.into_copies.result.items in
    c.write_newer.ensures.copies
    ∙ ap (λ r. greatest_after r.copies cs) c.self.view_is
    ∙ sym (joined-greatest_of held cs)
    ∙ ap (joined held) c.into_copies.ensures

pub returns-in_default-clause-stamped : goal.returns-in_default-clause-stamped
returns-in_default-clause-stamped g c =
    let held = c.args.self.now.copies in
    let cs = c.into_copies.result.items in
    let merged : greatest_after held cs ≡ joined held c.args.pack = sym (joined-greatest_of held cs) ∙ ap (joined held) c.into_copies.ensures in
    c.write_newer.ensures.stamps
    ∙ ap (λ r. stamps_after c.args.now r.copies r.stamps cs) c.self.view_is
    ∙ stamps_after-merged c.args.now held c.args.self.now.stamps cs c.args.pack merged

pub returns-in-empty-clause-copies : goal.returns-in-empty-clause-copies
returns-in-empty-clause-copies g c = joined-none c.args.self.now.copies c.args.pack c.copies.result.now (omega (arith, c.in-empty.len_below)) c.copies.ensures

pub returns-in-empty-clause-stamped : goal.returns-in-empty-clause-stamped
returns-in-empty-clause-stamped g c =
    let none = joined-none c.args.self.now.copies c.args.pack c.copies.result.now (omega (arith, c.in-empty.len_below)) c.copies.ensures in
    stamps_after-merged c.args.now c.args.self.now.copies c.args.self.now.stamps [] c.args.pack none
