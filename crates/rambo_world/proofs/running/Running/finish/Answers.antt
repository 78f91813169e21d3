use Rattle.std.proofs.Common.{◌≡◌, IfOk, subst}
use Rattle.rambo_run.specs.Runs.{results_from, run_from, outcome_at}
use Rattle.rambo_run.specs.Ongoing.{RunningOf, AgreesSoFar}
use Rattle.rambo_names.proofs.Sizes.{up_fits, back_fits}
use Rattle.rambo_world.proofs.Reached.{reached_fits_from, reached_agrees_from, reached_told, reached_one_order, reached_ordered, reached_explained}
use Rattle.rambo_world.proofs.running.Running.finish.Goals as goal

pub outcome-requires : goal.outcome-requires
outcome-requires g c = (
  back_fits _ _ _ (up_fits _ _ _ c.requires-raw.1.1),
  (
    reached_fits_from g.Q.Quorums.system c.self.inside.founders c.self.inside.state c.self.invariant,
    (reached_one_order g.Q.Quorums.system g.met.Q.Quorums.sound c.self.inside.founders c.self.inside.state c.args.steps.now c.self.invariant).once,
  ),
)

pub drop-state-requires : goal.drop-state-requires
drop-state-requires g c = back_fits _ _ _ (up_fits _ _ _ c.requires-raw.1.1)

pub returns-clause-outcome : goal.returns-clause-outcome
returns-clause-outcome g c =
    let s = g.Q.Quorums.system in
    subst (λ (v : RunningOf _). IfOk c.outcome.result (λ o. o ≡ outcome_at (results_from s v.state c.args.steps.now) (run_from s v.state c.args.steps.now))) c.self.view_is c.outcome.ensures.outcome

pub returns-clause-proper : goal.returns-clause-proper
returns-clause-proper g c =
    reached_told g.Q.Quorums.system g.met.Q.Quorums.sound c.self.inside.founders c.self.inside.state c.args.steps.now c.outcome.result c.self.invariant c.outcome.ensures.outcome

pub returns-clause-ordered : goal.returns-clause-ordered
returns-clause-ordered g c =
    reached_ordered g.Q.Quorums.system g.met.Q.Quorums.sound c.self.inside.founders c.self.inside.state c.args.steps.now c.outcome.result c.self.invariant c.outcome.ensures.outcome

pub returns-clause-explained : goal.returns-clause-explained
returns-clause-explained g c =
    reached_explained g.Q.Quorums.system g.met.Q.Quorums.sound c.self.inside.founders c.self.inside.state c.args.steps.now c.outcome.result c.self.invariant c.outcome.ensures.outcome

pub returns-clause-agreed : goal.returns-clause-agreed
returns-clause-agreed g c =
    let s = g.Q.Quorums.system in
    subst (λ (v : RunningOf _). AgreesSoFar s v.founders (run_from s v.state c.args.steps.now)) c.self.view_is
    (reached_agrees_from s g.met.Q.Quorums.sound c.self.inside.founders c.self.inside.state c.args.steps.now c.self.invariant)
