use Rattle.std.proofs.Common.{◌≡◌, ◌∙◌, ℕ, List, IfOk, ap, subst}
use Rattle.std.proofs.lemmas.Result.{IfOk-weaker}
use Rattle.rambo_history.specs.Proper.{IsProper}
use Rattle.rambo_sequence.specs.Sequences.{sequences_of, sequence_in}
use Rattle.rambo_run.specs.Ongoing.{RunningOf}
use Rattle.rambo_run.specs.Worlds.{WorldState}
use Rattle.rambo_world.proofs.Reached.{given_proper}
use Rattle.rambo_world.proofs.running.RunningRun.sequences.Goals as goal

-- of the state as the run has it
given : (g : _) (c : goal.After-sequences g) → IfOk c.sequences.result (λ s. s.items ≡ sequences_of c.self.inside.state.history c.self.inside.state.marks)
given g c =
    let is = ap (λ i. i.state) c.self-inside.view_is in
    IfOk-weaker c.sequences.result _ _ (λ s e. e ∙ ap (λ (w : WorldState _). sequences_of w.history w.marks) is) c.sequences.ensures.given

pub returns-clause-given : goal.returns-clause-given
returns-clause-given g c =
    subst (λ (v : RunningOf _). IfOk c.sequences.result (λ s. s.items ≡ sequences_of v.state.history v.state.marks)) c.self.view_is (given g c)

pub returns-clause-proper : goal.returns-clause-proper
returns-clause-proper g c =
    subst (λ (v : RunningOf _). IfOk c.sequences.result (λ s. (key : List ℕ) → IsProper v.state.history key (sequence_in s.items key))) c.self.view_is
    (given_proper g.Q.Quorums.system g.met.Q.Quorums.sound c.self.inside.founders c.self.inside.state _ c.sequences.result c.self.invariant (given g c))
