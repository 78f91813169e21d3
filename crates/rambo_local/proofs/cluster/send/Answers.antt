use Rattle.std.proofs.Common.{◌+◌, [], ◌∷◌, refl, sym, ap, ◌∙◌, append-nil}
use Rattle.rambo_node.specs.declared.step.StepOf.TheVariants as step
use Rattle.rambo_client.specs.Courses.{history_of, lettered}
use Rattle.rambo_client.proofs.Beginnings.{begins-itself, begins-lettered, ends_early}
use Rattle.rambo_local.specs.Clusters.{took_by}
use Rattle.rambo_local.proofs.Histories.{world_history, sent, delivered, ran_on, ran_part, took_none, took_only, took_letter}
use Rattle.rambo_local.proofs.cluster.send.Goals as goal

pub returns-in_err-letter : goal.returns-in_err-letter
returns-in_err-letter c = λ k took.
    ends_early c.from_residual.result _ (took_by c.step.new.self) k (lettered k c.args.from c.args.to) (history_of k) (λ done. []) c.from_residual.ensures.1
    (took_none c.args.world.now c.step.new.self k k c.in_err-letter.ensures.err took (begins-itself k)) (begins-lettered k c.args.from c.args.to)

pub returns-in_err-step : goal.returns-in_err-step
returns-in_err-step c = λ k took.
    let whole = lettered k c.args.from c.args.to in
    let half = ran_part c.args.world.now c.step.new.self k whole took (sent c.args.world.now c.step.new.self c.args.from c.args.to c.in_ok-letter.ensures.judged c.in_ok-letter.ensures.ok)
    (took_only c.args.world.now c.step.new.self (step.Send c.args.from c.args.to) c.in_ok-letter.ensures.judged c.in_ok-letter.ensures.ok k took (step.Deliver (k.sent + 1) ∷ []) whole refl refl) in
    let still = took_none c.step.new.self c.step-in-Sent.new.self half.0 half.0 c.in_err-step.ensures.err half.1 (begins-itself half.0) in
    ends_early c.from_residual-in_err-step.result _ (took_by c.step-in-Sent.new.self) half.0 whole (history_of k) (λ done. []) c.from_residual-in_err-step.ensures.1
    (still.0, still.1, still.2, still.3 ∙ half.3) half.2

pub returns-in-Sent : goal.returns-in-Sent
returns-in-Sent c = λ k took.
    ran_on c.args.world.now c.step-in-Sent.new.self k (lettered k c.args.from c.args.to) [] took
    (took_letter c.args.world.now c.step.new.self c.step-in-Sent.new.self c.args.from c.args.to c.in-Sent.letter _ c.in_ok-letter.ensures.judged c.in_ok-letter.ensures.ok c.in_ok-letter.ensures.effect c.in-Sent.is
    c.in_ok-step.ensures.judged c.in_ok-step.ensures.ok k took)
    (delivered c.step.new.self c.step-in-Sent.new.self c.in-Sent.letter c.in_ok-step.ensures.judged c.in_ok-step.ensures.ok
    ∙ sent c.args.world.now c.step.new.self c.args.from c.args.to c.in_ok-letter.ensures.judged c.in_ok-letter.ensures.ok ∙ sym (append-nil (world_history c.args.world.now)))

pub returns : goal.returns
returns c = λ k took.
    let whole = lettered k c.args.from c.args.to in
    ran_part c.args.world.now c.step.new.self k whole took (sent c.args.world.now c.step.new.self c.args.from c.args.to c.in_ok-letter.ensures.judged c.in_ok-letter.ensures.ok)
    (took_only c.args.world.now c.step.new.self (step.Send c.args.from c.args.to) c.in_ok-letter.ensures.judged c.in_ok-letter.ensures.ok k took (step.Deliver (k.sent + 1) ∷ []) whole refl refl)
