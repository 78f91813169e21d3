use Rattle.std.proofs.Common.{◌∙◌, sym, ap, subst}
use Rattle.rambo_sequence.specs.Sequences.{sequence_of}
use Rattle.rambo_run.specs.Worlds.{WorldState}
use Rattle.rambo_world.specs.Worlds.{state}
use Rattle.std.proofs.lemmas.Result.{IfOk-weaker}
use Rattle.rambo_history.specs.Proper.{IsProper}
use Rattle.rambo_run.proofs.EveryRun.{is_atomic}
use Rattle.rambo_world.proofs.world.World.sequence.Goals as goal

pub returns-clause-calls : goal.returns-clause-calls
returns-clause-calls g c =
    let is = ap (λ i. i.state) c.self-inside.view_is ∙ c.self.invariant.0 ∙ ap (state g.Q.Quorums.system) c.self.view_is in
    IfOk-weaker c.sequence.result _ _ (λ calls e. e ∙ ap (λ (w : WorldState _). sequence_of w.history w.marks c.args.key.now) is) c.sequence.ensures.given

pub returns-clause-proper : goal.returns-clause-proper
returns-clause-proper g c =
    let w = state g.Q.Quorums.system c.args.self.now in
    IfOk-weaker c.sequence.result _ _ (λ calls e. subst (IsProper w.history c.args.key.now) (sym e) (is_atomic g.Q.Quorums.system g.met.Q.Quorums.sound c.args.self.now.founders c.args.self.now.steps c.args.key.now)) (returns-clause-calls g c)
