-- The one order of a book is that of the run of its steps
use Rattle.std.proofs.Common.{◌≡◌, List, Result, Ok, Err, IfOk, sym, ◌∙◌, subst}
use Rattle.rambo_names.specs.Quorums.{QuorumSystem, IsSound}
use Rattle.rambo_history.specs.declared.event.CallId.{CallId}
use Rattle.rambo_history.specs.declared.event.Event.{Event}
use Rattle.rambo_history.specs.Proper.{IsProperForAll}
use Rattle.rambo_sequence.specs.declared.mark.Mark.{Mark}
use Rattle.rambo_sequence.specs.Sequences.{SequenceOf, sequences_of}
use Rattle.rambo_sequence.specs.StoreOrders.{NoTwice, all_calls, order_of}
use Rattle.rambo_node.specs.Steps.{Step}
use Rattle.rambo_run.specs.Runs.{run, given_sequences, given_order}
use Rattle.rambo_run.proofs.StoreOrder.{calls_once, has_one_order}

module _ {Q : Type 0} (s : QuorumSystem Q) (law : IsSound s) (f : Q) (steps : List (Step Q)) (history : List Event) (marks : List Mark)
    (told : history ≡ (run s f steps).history) (marked : marks ≡ (run s f steps).marks) where
  given : (ss : List SequenceOf) → ss ≡ sequences_of history marks → ss ≡ given_sequences (run s f steps)
  given ss e = e ∙ λ i. sequences_of (told i) (marked i)

  pub once : (ss : List SequenceOf) → ss ≡ sequences_of history marks → NoTwice (all_calls ss)
  once ss e = subst (λ ss. NoTwice (all_calls ss)) (sym (given ss e)) (calls_once s law f steps)

  pub order_is : (ss : List SequenceOf) → ss ≡ sequences_of history marks → order_of history ss ≡ given_order (run s f steps)
  order_is ss e = λ i. order_of (told i) (given ss e i)

pub explained : {Q V E : Type 0} (s : QuorumSystem Q) (law : IsSound s) (f : Q) (steps : List (Step Q)) (items : V → List CallId) (r : Result V E)
    → IfOk r (λ v. items v ≡ given_order (run s f steps)) → IfOk r (λ v. IsProperForAll (run s f steps).history (items v))
explained s law f steps items (Ok v) e = subst (IsProperForAll (run s f steps).history) (sym e) (has_one_order s law f steps).proper
explained s law f steps items (Err e) h = tt
