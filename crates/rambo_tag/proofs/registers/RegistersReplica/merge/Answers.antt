use Rattle.std.proofs.Common.{[], ◌∷◌, ◌∙◌, arith}
use Rattle.rambo_tag.proofs.MergeSteps.{joined-none, joined-one, not_idle, OnOk-map, ok_but_for}
use Rattle.rambo_tag.proofs.Stampings.{stamps_after-merged}
use Rattle.rambo_tag.proofs.registers.RegistersReplica.merge.Goals as goal

pub returns-in-empty-clause-ok : goal.returns-in-empty-clause-ok
returns-in-empty-clause-ok g c = joined-none c.args.self.now.copies c.args.pack.now c.copies.result.now (omega (arith, c.in-empty.len_below)) c.copies.ensures

pub returns-in-empty-clause-stamped : goal.returns-in-empty-clause-stamped
returns-in-empty-clause-stamped g c =
    let none = joined-none c.args.self.now.copies c.args.pack.now c.copies.result.now (omega (arith, c.in-empty.len_below)) c.copies.ensures in
    stamps_after-merged c.args.now c.args.self.now.copies c.args.self.now.stamps [] c.args.pack.now none

pub returns-in-len1-clause-ok : goal.returns-in-len1-clause-ok
returns-in-len1-clause-ok g c =
    let one = joined-one c.args.self.now.copies c.args.pack.now c.copies.result.now c.copy-item.result (omega arith) (omega arith) c.copy-item.is c.copies.ensures in
    OnOk-map c.merge_one.result (λ h. h ∙ one) c.merge_one.ensures.ok

pub returns-in-len1-clause-stamped : goal.returns-in-len1-clause-stamped
returns-in-len1-clause-stamped g c =
    let held = c.args.self.now in
    let one = joined-one held.copies c.args.pack.now c.copies.result.now c.copy-item.result (omega arith) (omega arith) c.copy-item.is c.copies.ensures in
    OnOk-map c.merge_one.result (λ h. h ∙ stamps_after-merged c.args.now held.copies held.stamps (c.copy-item.result ∷ []) c.args.pack.now one) c.merge_one.ensures.stamped

pub returns-in-len1-clause-idle : goal.returns-in-len1-clause-idle
returns-in-len1-clause-idle g c idle =
    ok_but_for c.merge_one.result c.merge_one.ensures.newer
    (λ newer. not_idle c.args.self.now.copies c.args.pack.now c.copies.result.now 0 c.copy-item.result (omega arith) c.copy-item.is c.copies.ensures newer idle)
