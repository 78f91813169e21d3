use Rattle.std.proofs.Common.{◌++◌, [], Some, ap, ◌∙◌}
use Rattle.rambo_node.specs.declared.step.StepOf.TheVariants as step
use Rattle.rambo_names.specs.Weights.{weighted_majorities}
use Rattle.rambo_world.specs.Worlds.{state}
use Rattle.rambo_client.specs.Calls.{answered}
use Rattle.rambo_client.specs.Courses.{history_of, stepped}
use Rattle.rambo_client.proofs.Beginnings.{begins-itself, begins-stepped, ends_early}
use Rattle.rambo_direct.proofs.Turns.{answered_by, advance_silent}
use Rattle.rambo_local.specs.Clusters.{took_by}
use Rattle.rambo_local.proofs.Histories.{world_history, went_on, unanswered, ran_on, took_none, took_step}
use Rattle.rambo_local.proofs.cluster.HostClusterByLetters.go_on.Goals as goal

pub returns-in_err-answer : goal.returns-in_err-answer
returns-in_err-answer c = λ k took.
    ends_early c.from_residual.result _ (took_by c.step.new.self) k (stepped k (step.Advance c.args.id.now)) (history_of k) (answered c.args.id.now) c.from_residual.ensures.1
    (took_none c.args.self.now c.step.new.self k k c.in_err-answer.ensures.err took (begins-itself k)) (begins-stepped k (step.Advance c.args.id.now))

pub returns-in-Answered : goal.returns-in-Answered
returns-in-Answered c = λ k took.
    let st = step.Advance c.args.id.now in
    ran_on c.args.self.now c.step.new.self k (stepped k st) (answered c.args.id.now (Some c.in-Answered.answer)) took
    (took_step c.args.self.now c.step.new.self st c.in_ok-answer.ensures.judged c.in_ok-answer.ensures.ok k took (advance_silent (state weighted_majorities c.args.self.now) c.args.id.now))
    (went_on c.args.self.now c.step.new.self c.args.id.now _ c.in_ok-answer.ensures.judged c.in_ok-answer.ensures.ok c.in_ok-answer.ensures.effect
    ∙ ap (λ e. world_history c.args.self.now ++ answered_by c.args.id.now e) c.in-Answered.is)

pub returns-in_default : goal.returns-in_default
returns-in_default c = λ k took.
    let st = step.Advance c.args.id.now in
    ran_on c.args.self.now c.step.new.self k (stepped k st) [] took
    (took_step c.args.self.now c.step.new.self st c.in_ok-answer.ensures.judged c.in_ok-answer.ensures.ok k took (advance_silent (state weighted_majorities c.args.self.now) c.args.id.now))
    (went_on c.args.self.now c.step.new.self c.args.id.now _ c.in_ok-answer.ensures.judged c.in_ok-answer.ensures.ok c.in_ok-answer.ensures.effect
    ∙ ap (λ l. world_history c.args.self.now ++ l) (unanswered c.args.id.now c.in_ok-answer.field-0 (λ d a e. c.in_default.not-Answered d a e)))
