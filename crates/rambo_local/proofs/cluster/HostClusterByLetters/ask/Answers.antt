use Rattle.std.proofs.Common.{[], ◌∷◌, refl}
use Rattle.rambo_history.specs.declared.event.Event.TheVariants as event
use Rattle.rambo_names.specs.Weights.{weighted_majorities}
use Rattle.rambo_node.specs.declared.step.StepOf.TheVariants as step
use Rattle.rambo_world.specs.Worlds.{state}
use Rattle.rambo_client.specs.Courses.{history_of, stepped}
use Rattle.rambo_client.proofs.Beginnings.{begins-itself, begins-stepped, ends_early}
use Rattle.rambo_direct.proofs.Turns.{call_silent}
use Rattle.rambo_local.specs.Clusters.{took_by}
use Rattle.rambo_local.proofs.Histories.{called, uncalled, ran_on, ran_part, took_none, took_only, took_step}
use Rattle.rambo_local.proofs.cluster.HostClusterByLetters.ask.Goals as goal

pub returns-in-Called-clause-named : goal.returns-in-Called-clause-named
returns-in-Called-clause-named c =
    (called c.args.self.now c.step.new.self c.args.name c.args.op c.in-Called.id _ c.in_ok-id.ensures.judged c.in_ok-id.ensures.ok c.in_ok-id.ensures.effect c.in-Called.is).1

pub returns-in-Called-clause-steps : goal.returns-in-Called-clause-steps
returns-in-Called-clause-steps c = λ k took.
    let st = step.Call c.args.name c.args.op in
    ran_on c.args.self.now c.step.new.self k (stepped k st) (event.Call c.in-Called.id c.args.op ∷ []) took
    (took_step c.args.self.now c.step.new.self st c.in_ok-id.ensures.judged c.in_ok-id.ensures.ok k took (call_silent (state weighted_majorities c.args.self.now) c.args.name c.args.op))
    (called c.args.self.now c.step.new.self c.args.name c.args.op c.in-Called.id _ c.in_ok-id.ensures.judged c.in_ok-id.ensures.ok c.in_ok-id.ensures.effect c.in-Called.is).0

pub returns-in_err-id-clause-steps : goal.returns-in_err-id-clause-steps
returns-in_err-id-clause-steps c = λ k took.
    ends_early c.from_residual.result _ (took_by c.step.new.self) k (stepped k (step.Call c.args.name c.args.op)) (history_of k) (λ id. event.Call id c.args.op ∷ []) c.from_residual.ensures.1
    (took_none c.args.self.now c.step.new.self k k c.in_err-id.ensures.err took (begins-itself k)) (begins-stepped k (step.Call c.args.name c.args.op))

pub returns : goal.returns
returns c = record {
  named = tt;
  steps = λ k took.
      let st = step.Call c.args.name c.args.op in
      ran_part c.args.self.now c.step.new.self k (stepped k st) took
      (uncalled c.args.self.now c.step.new.self c.args.name c.args.op _ c.in_ok-id.ensures.judged c.in_ok-id.ensures.ok c.in_ok-id.ensures.effect (λ id e. c.in_default.not-Called id e))
      (took_only c.args.self.now c.step.new.self st c.in_ok-id.ensures.judged c.in_ok-id.ensures.ok k took [] (stepped k st) refl refl);
}
