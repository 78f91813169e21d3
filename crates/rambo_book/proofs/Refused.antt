-- Want of memory is no cause of a step's refusal
use Rattle.std.proofs.Common.{◌≡◌, ◌≢◌, ℕ, Option, None, Some, Result, Ok, Err, OnOk, refl, sym, ◌∙◌, subst}
use Rattle.rambo_names.specs.declared.refusal.Refusal.{Refusal}
use Rattle.rambo_names.specs.declared.refusal.Refusal.TheVariants.{OutOfMemory, NoSuchLetter}
use Rattle.rambo_names.specs.Quorums.{QuorumSystem}
use Rattle.rambo_names.specs.Refusals.{IsRefusal}
use Rattle.rambo_node.specs.Nodes.{NodeState}
use Rattle.rambo_node.specs.Acts.{Meant}
use Rattle.rambo_run.proofs.Causes.{never_memory, no_letter_differs}
use Rattle.rambo_run.proofs.Lists.{some_inj, none-some}
use Rattle.rambo_node.specs.Halves.{judged}
use Rattle.rambo_book.specs.Kept.{Told}

pub refused_never_memory : {Q : Type 0} (s : QuorumSystem Q) (x : NodeState Q) (o : Option (Meant Q)) (r : Refusal) → judged s x o ≡ Some r → r ≢ OutOfMemory
refused_never_memory s x None r e = subst (λ r. r ≢ OutOfMemory) (some_inj NoSuchLetter r e) no_letter_differs
refused_never_memory s x (Some m) r e = never_memory s x m.act r e

-- so where a step may be refused for it, its rules refuse nothing
pub none_for_memory : {Q : Type 0} (s : QuorumSystem Q) (x : NodeState Q) (o : Option (Meant Q)) (r : Refusal) → r ≡ OutOfMemory → IsRefusal (judged s x o) r → judged s x o ≡ None
none_for_memory s x o r short told = kept (judged s x o) refl
  where
    kept : (p : Option Refusal) → judged s x o ≡ p → judged s x o ≡ None
    kept None e = e
    kept (Some f) e = absurd (refused_never_memory s x o f e (sym (subst (λ p. IsRefusal p r) e told) ∙ short))

-- what is told of a step whose first half was refused
pub told_half : (o : Option Refusal) (cause r : Refusal) (count capacity : ℕ) → IsRefusal o cause → (cause ≡ OutOfMemory → o ≡ None) → (cause ≢ OutOfMemory → r ≡ cause)
    → (cause ≡ OutOfMemory → Told None count capacity r) → Told o count capacity r
told_half None cause r count capacity is none rule memory = memory is
told_half (Some f) cause r count capacity is none rule memory = rule (λ short. none-some f (sym (none short))) ∙ is

-- what holds anyway holds where it is done
pub always : {A B P : Type 0} (r : Result A B) → P → OnOk r P
always (Ok a) p = p
always (Err b) p = tt
