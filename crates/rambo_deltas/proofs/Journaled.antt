-- Where the changes of a journal come from
use Rattle.std.proofs.Common.{◌≡◌, ◌⊎◌, ℕ, suc, ◌<◌, nat_eq, List, [], ◌∷◌, length, take, Option, Some, None, subst, inl, inr, arith, eqb-true}
use Rattle.rambo_names.specs.declared.refusal.Refusal.{Refusal}
use Rattle.rambo_names.specs.Quorums.{QuorumSystem}
use Rattle.rambo_node.specs.Acts.{Act, Meant}
use Rattle.rambo_node.specs.Steps.{Step}
use Rattle.rambo_run.specs.Worlds.{WorldState}
use Rattle.rambo_run.specs.Steps.{meant, refusal}
use Rattle.rambo_run.specs.Runs.{after, run_from}
use Rattle.rambo_run.specs.Journals.{entered, entered_unless, journal_from}
use Rattle.rambo_run.proofs.Lists.{Member, pick}

-- node n is meant, and this change
abbrev pub of_node : {Q : Type 0} → ℕ → Act Q → Option (Meant Q)
of_node n c = Some (record { name = n; act = c })

-- the change is what the step after so many steps means
pub record MadeAt {Q : Type 0} (s : QuorumSystem Q) (w : WorldState Q) (sts : List (Step Q)) (n : ℕ) (c : Act Q) : Type 0 where
  pub moment : ℕ
  pub within : moment < length sts
  pub step : Step Q
  pub means : meant (run_from s w (take moment sts)) step ≡ of_node n c

-- one step
first_or_later : {Q : Type 0} (n : ℕ) (c : Act Q) (m : Option (Meant Q)) (cs : List (Act Q)) → Member c (entered n m cs) → (m ≡ of_node n c) ⊎ Member c cs
first_or_later n c None cs i = inr i
first_or_later n c (Some m) cs i = elim (pick (nat_eq m.name n) (m.act ∷ cs) cs) [
  | inl p ↦ elim (subst (Member c) p.1 i) [
    | inl e ↦ inl (λ k. Some (record { name = eqb-true m.name n p.0 k; act = e k }))
    | inr r ↦ inr r
  ]
  | inr p ↦ inr (subst (Member c) p.1 i)
]

taken_or_later : {Q : Type 0} (n : ℕ) (c : Act Q) (r : Option Refusal) (m : Option (Meant Q)) (cs : List (Act Q)) → Member c (entered_unless r n m cs) → (m ≡ of_node n c) ⊎ Member c cs
taken_or_later n c None m cs i = first_or_later n c m cs i
taken_or_later n c (Some f) m cs i = inr i

pub made_at : {Q : Type 0} (s : QuorumSystem Q) (n : ℕ) (sts : List (Step Q)) (w : WorldState Q) (c : Act Q) → Member c (journal_from s w n sts) → MadeAt s w sts n c
unfolding journal_from run_from
made_at s n [] w c i = absurd i
made_at s n (st ∷ sts) w c i = elim (taken_or_later n c (refusal s w st) (meant w st) (journal_from s (after s w st) n sts) i) [
  | inl e ↦ record { moment = 0; within = omega arith; step = st; means = e }
  | inr r ↦ (let f = made_at s n sts (after s w st) c r in record { moment = suc f.moment; within = omega (arith, f.within); step = f.step; means = f.means })
]
