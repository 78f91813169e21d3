-- Beginnings of courses
use Rattle.std.proofs.Common.{◌≡◌, ℕ, ◌+◌, true, false, cond, not, nat_eq, List, [], ◌∷◌, ◌++◌, fold, Option, None, Some, Result, Ok, Err, IsErrAnd, subst, refl, sym, ap, ◌∙◌, append_assoc, append-nil}
use Rattle.std.specs.Option.{ok_or}
use Rattle.rambo_names.specs.Weights.{Weights}
use Rattle.rambo_history.specs.declared.operation.Op.{Op}
use Rattle.rambo_history.specs.declared.operation.Answer.{Answer}
use Rattle.rambo_history.specs.declared.event.CallId.{CallId}
use Rattle.rambo_history.specs.declared.event.Event.{Event}
use Rattle.rambo_node.specs.Steps.{Step}
use Rattle.rambo_node.specs.declared.step.StepOf.TheVariants as step
use Rattle.rambo_client.specs.Calls.{answered}
use Rattle.rambo_client.specs.Courses.{Course, IsBeginning, Ends, history_of, stepped, lettered, exchanged, others, phase, operated}

pub begins-itself : (c : Course) → IsBeginning c c
begins-itself c = (refl, ([], append-nil c.steps))

pub begins-then : (a b c : Course) → IsBeginning a b → IsBeginning b c → IsBeginning a c
begins-then a b c f g =
    (f.0 ∙ g.0, (f.1.0 ++ g.1.0, sym (append_assoc a.steps f.1.0 g.1.0) ∙ ap (λ l. l ++ g.1.0) f.1.1 ∙ g.1.1))

pub begins-stepped : (c : Course) (st : Step Weights) → IsBeginning c (stepped c st)
begins-stepped c st = (refl, (st ∷ [], refl))

pub begins-lettered : (c : Course) (from to : ℕ) → IsBeginning c (lettered c from to)
begins-lettered c from to = (refl, (step.Send from to ∷ step.Deliver (c.sent + 1) ∷ [], refl))

pub begins-exchanged : (name : ℕ) (c : Course) (peer : ℕ) → IsBeginning c (exchanged name c peer)
begins-exchanged name c peer =
    begins-then c (lettered c name peer) (exchanged name c peer) (begins-lettered c name peer) (begins-lettered (lettered c name peer) peer name)

pub begins-round : (name : ℕ) (c : Course) (peers : List ℕ) → IsBeginning c (fold (exchanged name) c peers)
begins-round name c [] = begins-itself c
begins-round name c (peer ∷ peers) =
    begins-then c (exchanged name c peer) (fold (exchanged name) (exchanged name c peer) peers) (begins-exchanged name c peer) (begins-round name (exchanged name c peer) peers)

pub begins-phase : (c : Course) (peers : List ℕ) (id : CallId) → IsBeginning c (phase c peers id)
begins-phase c peers id =
    let r = fold (exchanged id.name) c peers in
    begins-then c r (phase c peers id) (begins-round id.name c peers) (begins-stepped r (step.Advance id))

-- an operation's call begins it
pub begins-called : (c : Course) (peers : List ℕ) (id : CallId) (op : Op) → IsBeginning (stepped c (step.Call id.name op)) (operated c peers id op)
begins-called c peers id op =
    let called = stepped c (step.Call id.name op) in
    let half = phase called peers id in
    begins-then called half (operated c peers id op) (begins-phase called peers id) (begins-phase half peers id)

pub begins-operated : (c : Course) (peers : List ℕ) (id : CallId) (op : Op) → IsBeginning c (operated c peers id op)
begins-operated c peers id op =
    let called = stepped c (step.Call id.name op) in
    begins-then c called (operated c peers id op) (begins-stepped c (step.Call id.name op)) (begins-called c peers id op)

-- a peer, and then the others
pub round-split : (name : ℕ) (c : Course) (peer : ℕ) (peers : List ℕ)
    → fold (exchanged name) (fold (exchanged name) c (others name (peer ∷ []))) (others name peers) ≡ fold (exchanged name) c (others name (peer ∷ peers))
round-split name c peer peers =
    let rest = others name peers in
    elim (not (nat_eq peer name)) as (λ t. fold (exchanged name) (fold (exchanged name) c (cond t (peer ∷ []) [])) rest ≡ fold (exchanged name) c (cond t (peer ∷ rest) rest)) [
      | true ↦ refl
      | false ↦ refl
    ]

-- nodes that took a beginning, where an error is handed on
pub ends_early : {A E : Type 0} (r : Result A E) (Q : E → Type 0) (took : Course → Type 0) (c d : Course) (history : List Event) (added : A → List Event) → IsErrAnd r Q
    → (b : Course) × took b × IsBeginning b c × (history_of b ≡ history) → IsBeginning c d → Ends r took d history added
ends_early (Ok x) Q took c d history added is b begins = elim is [ ]
ends_early (Err e) Q took c d history added is b begins = (b.0, b.1, begins-then b.0 c d b.2 begins, b.3)

-- nodes whose call went on, where an answer is told, and a fault where there is none
pub ends_answered : {E : Type 0} (r : Result Answer E) (o : Option Answer) (id : CallId) (f : E) (took : Course → Type 0) (d : Course) (history : List Event) → r ≡ ok_or o f
    → took d × (history_of d ≡ history ++ answered id o) → Ends r took d history (λ a. answered id (Some a))
ends_answered r o id f took d history is ends =
    subst (λ r. Ends r took d history (λ a. answered id (Some a))) (sym is)
    (elim o as (λ o. took d × (history_of d ≡ history ++ answered id o) → Ends (ok_or o f) took d history (λ a. answered id (Some a))) [
      | None ↦ λ ends. (d, ends.0, begins-itself d, ends.1 ∙ append-nil history)
      | Some a ↦ λ ends. ends
    ] ends)
