use Rattle.std.proofs.Common.{sym, ap, ◌∙◌}
use Rattle.std.specs.FinMap.{get}
use Rattle.std.proofs.lemmas.List.{take_all}
use Rattle.rambo_tag.specs.Tags.{is_newer}
use Rattle.rambo_tag.proofs.MergeSteps.{IsNewerOf-newer, IsNewerOf-older, IsNewerOf-end, not_idle}
use Rattle.rambo_tag.proofs.registers.Registers.newer_copies.Goals.{then-newer+in_ok-clone+in_ok-push, else-newer}
use Rattle.rambo_tag.proofs.registers.Registers.newer_copies.Goals as goal

pub loop-copy-preserved : goal.loop-copy-preserved
loop-copy-preserved g c =
    let a = c.args.self.now.copies in
    let cs = c.copies-copy-items.result.now in
    let i = c.loop-copy.copy-index in
    let copy = c.copy-item.result in
    let tested = ap (λ m. is_newer (get m.copies copy.key) copy.version) (sym c.self.view_is) ∙ sym c.find-newer.ensures.newer in
    elim c.if-newer.branch [
      | then-newer+in_ok-clone+in_ok-push w ↦
          IsNewerOf-newer a cs c.loop-copy.copies.items c.if-newer.copies.items i copy w.in_ok-clone.field-0 c.loop-copy.invariant c.loop-copy-test.true c.copy-item.is
          (tested ∙ w.if-newer.true) w.in_ok-clone.ensures.cases (ap (λ x. x.items) w.copies-is ∙ w.in_ok-push.ensures.items)
      | else-newer w ↦
          IsNewerOf-older a cs c.loop-copy.copies.items c.if-newer.copies.items i copy c.loop-copy.invariant c.loop-copy-test.true c.copy-item.is
          (tested ∙ w.if-newer.false) (ap (λ x. x.items) w.copies-is)
    ]

pub returns-clause-all : goal.returns-clause-all
returns-clause-all g c =
    IsNewerOf-end c.args.self.now.copies c.args.pack.now c.copies-copy-items.result.now c.loop-copy.copies.items c.loop-copy.copy-index c.loop-copy.invariant
    (take_all c.loop-copy.copy-index c.copies-copy-items.result.now c.loop-copy-test.false) c.copies-copy-items.ensures

pub returns-in_err-clone-clause-idle : goal.returns-in_err-clone-clause-idle
returns-in_err-clone-clause-idle g c =
    let copy = c.copy-item.result in
    let newer = ap (λ m. is_newer (get m.copies copy.key) copy.version) (sym c.self.view_is) ∙ sym c.find-newer.ensures.newer ∙ c.if-newer.true in
    not_idle c.args.self.now.copies c.args.pack.now c.copies-copy-items.result.now c.loop-copy.copy-index copy c.loop-copy-test.true c.copy-item.is c.copies-copy-items.ensures newer

pub returns-in_err-push-clause-idle : goal.returns-in_err-push-clause-idle
returns-in_err-push-clause-idle g c =
    let copy = c.copy-item.result in
    let newer = ap (λ m. is_newer (get m.copies copy.key) copy.version) (sym c.self.view_is) ∙ sym c.find-newer.ensures.newer ∙ c.if-newer.true in
    not_idle c.args.self.now.copies c.args.pack.now c.copies-copy-items.result.now c.loop-copy.copy-index copy c.loop-copy-test.true c.copy-item.is c.copies-copy-items.ensures newer
