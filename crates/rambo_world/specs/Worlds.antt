-- A world, by its founders and its steps
use Rattle.std.specs.Prelude.{◌≡◌, ℕ, List, Option, None, Some, Result, Ok, Err}
use Rattle.rambo_names.specs.declared.refusal.Refusal.{Refusal}
use Rattle.rambo_names.specs.Quorums.{QuorumSystem}
use Rattle.rambo_history.specs.declared.event.Event.{Event}
use Rattle.rambo_history.specs.declared.operation.Answer.{Answer}
use Rattle.rambo_history.specs.Faults.{fault_of}
use Rattle.rambo_node.specs.Acts.{Act}
use Rattle.rambo_node.specs.declared.effect.Effect.{Effect}
use Rattle.rambo_node.specs.Changes.{made_by, answer_in}
use Rattle.rambo_node.specs.Nodes.{NodeState}
use Rattle.rambo_node.specs.Steps.{Step}
use Rattle.rambo_sequence.specs.declared.mark.Mark.{Mark}
use Rattle.rambo_run.specs.Chronicles.{IsMarked}
use Rattle.rambo_run.specs.Legal.{EventsFit, MarksFit}
use Rattle.rambo_run.specs.Steps.{with_event}
use Rattle.rambo_run.specs.Worlds.{WorldState, node_at}
use Rattle.rambo_run.specs.Runs.{run}

-- founders, and the accepted steps
pub record WorldOf (Q : Type 0) : Type 0 where
  pub founders : Q
  pub steps : List (Step Q)

-- the state that they make
abbrev pub state : {Q : Type 0} → QuorumSystem Q → WorldOf Q → WorldState Q
state s w = run s w.founders w.steps

-- the event of an act of a node, if it has one, can be appended to the history
abbrev pub EventFits : {Q : Type 0} → WorldState Q → ℕ → Act Q → Type 0
EventFits {Q} w n c = (x : NodeState Q) (e : Event) → node_at w n ≡ Some x → (made_by x c).deed.event ≡ Some e → fault_of w.history e ≡ None

-- and its mark, if it has one, is told by the history that it leaves
abbrev pub MarkFits : {Q : Type 0} → WorldState Q → ℕ → Act Q → Type 0
MarkFits {Q} w n c =
    (x : NodeState Q) (m : Mark) → node_at w n ≡ Some x → (made_by x c).deed.mark ≡ Some m → IsMarked (with_event w.history (made_by x c).deed.event) m

-- so it is with what any step appends that isn't refused
abbrev pub StepsFit : {Q : Type 0} → QuorumSystem Q → WorldState Q → Type 0
StepsFit s w = EventsFit s w × MarksFit s w

-- the answer that a call got as it went on, if it did and wasn't refused
abbrev pub answer_got : {Q : Type 0} → Result (Effect Q) Refusal → Result (Option Answer) Refusal
answer_got (Ok e) = Ok (answer_in e)
answer_got (Err r) = Err r
