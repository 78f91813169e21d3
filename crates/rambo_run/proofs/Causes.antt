-- Want of memory is no cause of a refusal
use Rattle.std.proofs.Common.{◌≡◌, ◌≢◌, Bool, true, false, if◌then◌else◌, nat_eq, List, [], ◌∷◌, Some, refl, sym, ap, ◌∙◌, subst, inl, inr}
use Rattle.std.proofs.lemmas.Bool.{true≢false}
use Rattle.rambo_names.specs.declared.refusal.Refusal.{Refusal}
use Rattle.rambo_names.specs.declared.refusal.Refusal.TheVariants.{OutOfMemory, NoSuchLetter}
use Rattle.rambo_names.specs.Quorums.{QuorumSystem}
use Rattle.rambo_names.specs.Refusals.{Cause, least, number_of}
use Rattle.rambo_node.specs.Acts.{Act}
use Rattle.rambo_node.specs.Changes.{causes, quiet_causes, refusal_of}
use Rattle.rambo_node.specs.Nodes.{NodeState}
use Rattle.rambo_node.specs.Acts as act
use Rattle.rambo_node.specs.declared.prepared.Quiet.{Quiet}
use Rattle.rambo_node.specs.declared.prepared.Quiet.TheVariants as quiet
use Rattle.rambo_run.proofs.Lists.{pick, some_inj, none-some}

-- whether none of these causes is want of memory
abbrev is_free : List Cause → Bool
is_free [] = true
is_free (c ∷ cs) = if nat_eq (number_of c.refusal) 22 then false else is_free cs

free_parts : (b free : Bool) → (if b then false else free) ≡ true → (b ≡ false) × (free ≡ true)
free_parts true free e = absurd (true≢false (sym e))
free_parts false free e = (refl, e)

differs : (r : Refusal) → nat_eq (number_of r) 22 ≡ false → r ≢ OutOfMemory
differs r free e = true≢false (sym (ap (λ r. nat_eq (number_of r) 22) e) ∙ free)

least_differs : (cs : List Cause) (r : Refusal) → is_free cs ≡ true → least cs ≡ Some r → r ≢ OutOfMemory
least_differs [] r free e = absurd (none-some r e)
least_differs (c ∷ cs) r free e =
    let both = free_parts (nat_eq (number_of c.refusal) 22) (is_free cs) free in
    elim (pick c.holds (Some c.refusal) (least cs)) [
      | inl p ↦ subst (λ r. r ≢ OutOfMemory) (some_inj c.refusal r (sym p.1 ∙ e)) (differs c.refusal both.0)
      | inr p ↦ least_differs cs r both.1 (sym p.1 ∙ e)
    ]

quiet_needs_none : {Q : Type 0} (s : QuorumSystem Q) (x : NodeState Q) (q : Quiet Q) → is_free (quiet_causes s x q) ≡ true
quiet_needs_none s x quiet.Stop = refl
quiet_needs_none s x _ = refl

no_memory : {Q : Type 0} (s : QuorumSystem Q) (x : NodeState Q) (a : Act Q) → is_free (causes s x a) ≡ true
no_memory s x (act.Quietly q) = quiet_needs_none s x q
no_memory s x _ = refl

-- no node's refusal is want of memory
pub never_memory : {Q : Type 0} (s : QuorumSystem Q) (x : NodeState Q) (c : Act Q) (r : Refusal) → refusal_of s x c ≡ Some r → r ≢ OutOfMemory
never_memory s x c r e = least_differs (causes s x c) r (no_memory s x c) e

pub no_letter_differs : NoSuchLetter ≢ OutOfMemory
no_letter_differs = differs NoSuchLetter refl
