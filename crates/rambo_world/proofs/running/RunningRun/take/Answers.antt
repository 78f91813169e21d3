use Rattle.std.proofs.Common.{◌≡◌, None, IfOk, OnErr, subst}
use Rattle.rambo_run.specs.Runs.{result_of}
use Rattle.rambo_run.specs.Steps.{refusal}
use Rattle.rambo_run.specs.Ongoing.{RunningOf}
use Rattle.rambo_names.proofs.Sizes.{up_fits, back_fits}
use Rattle.rambo_world.proofs.Reached.{reached_on, reached_fits, goes_on, stays}
use Rattle.rambo_world.proofs.running.RunningRun.take.Goals as goal

pub take-requires : goal.take-requires
take-requires g c = (back_fits _ _ _ (up_fits _ _ _ c.requires-raw.1.1), reached_fits g.Q.Quorums.system c.self.inside.founders c.self.inside.state c.self.invariant)

pub invariant_of-self : goal.invariant_of-self
invariant_of-self g c = reached_on g.Q.Quorums.system c.self.inside.founders c.self.inside.state c.take.new.self c.args.step.now c.take.result c.self.invariant c.take.ensures.after c.take.ensures.err

pub returns-clause-told : goal.returns-clause-told
returns-clause-told g c =
    let s = g.Q.Quorums.system in
    subst (λ (v : RunningOf _). IfOk c.take.result (λ r. r ≡ result_of (refusal s v.state c.args.step.now) v.state c.args.step.now)) c.self.view_is c.take.ensures.told

pub returns-clause-after : goal.returns-clause-after
returns-clause-after g c = goes_on g.Q.Quorums.system c.self.inside.founders c.self.inside.state c.take.new.self c.args.self.now c.args.step.now c.take.result c.self.view_is c.take.ensures.after

pub returns-clause-err : goal.returns-clause-err
returns-clause-err g c = stays c.self.inside.founders c.self.inside.state c.take.new.self c.args.self.now c.take.result c.self.view_is c.take.ensures.err

pub returns-clause-accepted : goal.returns-clause-accepted
returns-clause-accepted g c =
    let s = g.Q.Quorums.system in
    subst (λ (v : RunningOf _). OnErr c.take.result (refusal s v.state c.args.step.now ≡ None)) c.self.view_is c.take.ensures.accepted
