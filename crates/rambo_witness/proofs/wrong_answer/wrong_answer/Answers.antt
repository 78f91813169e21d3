use Rattle.std.proofs.Common.{◌≡◌, Some, refl, sym, ap, ◌∙◌, subst}
use Rattle.std.specs.Option.{option_and_then, option_copied}
use Rattle.rambo_history.specs.Histories.{call_in}
use Rattle.rambo_history.specs.Proper.{held_after}
use Rattle.rambo_atomic.specs.Tests.{tells}
use Rattle.rambo_witness.specs.Tests.{value_of}
use Rattle.rambo_witness.specs.Witnesses.{IsLatestSet}
use Rattle.rambo_witness.proofs.Latest.{untold}
use Rattle.rambo_witness.proofs.wrong_answer.wrong_answer.Goals as goal

pub returns : goal.returns
returns c front has =
    let h = c.args.history.now.events in
    let key = c.in-Get.key in
    let held = has key in
    let value : held_after h key front ≡ option_copied c.value_set.result =
    held.value ∙ ap (option_and_then (λ d. value_of (call_in h d))) (sym c.get-set.ensures.value) ∙ sym c.value_set.ensures in (
      refl,
      λ k. (
        key,
        sym c.in_ok-op.ensures.op ∙ ap Some c.in-Get.is,
        untold _ _ ((λ i. tells (value i) (sym c.in_ok-op.ensures.answer i)) ∙ sym c.tells.ensures ∙ c.if-tells.false),
        subst (IsLatestSet h key front) (sym c.get-set.ensures.value ∙ sym c.copied.ensures) held.latest,
      ),
    )
