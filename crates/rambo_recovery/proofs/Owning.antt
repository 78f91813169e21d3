-- Whose step a step is, and why it isn't taken
use Rattle.std.proofs.Common.{Bool, Result, Ok, Err, OnOk, OnErr, IfErr, ◌≡◌, ◌≢◌, ◌⊎◌, ℕ, zero, suc, true, false, [], length, Option, None, Some, refl, sym, ap, ◌∙◌, subst, inl, inr, true≢false, List, arith}
use Rattle.std.proofs.lemmas.Bool.{ltb-true}
use Rattle.std.specs.Bool.{MatchBool}
use Rattle.rambo_names.specs.declared.refusal.Refusal.{Refusal}
use Rattle.rambo_names.specs.declared.refusal.Refusal.TheVariants.{NotActive, NoSuchLetter, OutOfMemory}
use Rattle.rambo_names.specs.Quorums.{QuorumSystem}
use Rattle.rambo_names.specs.Refusals.{IsRefusal, least, number_of}
use Rattle.rambo_gossip.specs.Letters.{LetterState}
use Rattle.rambo_joiner.specs.Statuses.{is_stopped}
use Rattle.rambo_node.specs.Nodes.{NodeState}
use Rattle.rambo_node.specs.Acts.{Act, Meant, name_in}
use Rattle.rambo_node.specs.Steps.{Step, delivered_by}
use Rattle.rambo_node.specs.declared.step.StepOf.TheVariants as step
use Rattle.rambo_run.specs.Steps.{meant, meant_in, causes_at, causes_of, refusal}
use Rattle.rambo_run.specs.Worlds.{WorldState, first_world, letter_at, node_at}
use Rattle.rambo_run.specs.Runs.{run}
use Rattle.rambo_run.proofs.GoingOn.{run_none}
use Rattle.rambo_run.proofs.Causes.{never_memory, no_letter_differs}
use Rattle.rambo_run.proofs.Lists.{below_there, none-some, some_inj}
use Rattle.rambo_book.specs.Kept.{BookView, IsServedBy, KeeperView, Told, state}
use Rattle.rambo_book.specs.Windows.{gone_of, is_gone}
use Rattle.rambo_book.proofs.Judging.{refusal_is}
use Rattle.rambo_book.proofs.Refused.{told_half}
use Rattle.rambo_recovery.specs.Recoveries.{AreHeld, IsGoneSo, IsInSome, IsSpent, WhyUntaken}
use Rattle.rambo_pass.specs.Passes.{HasStopped, IsGoing}

-- a delivery names nobody by itself
unnamed : (Q : Type 0) (number : ℕ) → name_in (meant_in {Q = Q} [] (step.Deliver number)) ≡ None
unnamed Q zero = refl
unnamed Q (suc i) = refl

pub means_none : {Q : Type 0} (number : ℕ) (m : Meant Q) (name : ℕ) → meant_in [] (step.Deliver number) ≡ Some m → m.name ≡ name
means_none zero m name e = absurd (none-some m e)
means_none (suc i) m name e = absurd (none-some m e)

its : {Q : Type 0} (a m : Meant Q) (name : ℕ) → Some a.name ≡ Some name → Some a ≡ Some m → m.name ≡ name
its a m name named e = ap (λ (m : Meant _). m.name) (sym (some_inj a m e)) ∙ some_inj a.name name named

-- a step that names somebody is theirs
pub served : {Q : Type 0} (w : WorldState Q) (st : Step Q) (name : ℕ) → name_in (meant_in [] st) ≡ Some name → IsServedBy w st name
served {Q} w (step.Deliver i) name named m e = absurd (none-some name (sym (unnamed Q i) ∙ named))
served w _ name named m e = its _ m name named e

-- and each but a delivery names somebody
pub names_one : {Q : Type 0} (st : Step Q) → delivered_by st ≡ None → name_in (meant_in [] st) ≡ None → ⊥
names_one (step.Deliver i) other none = none-some i (sym other)
names_one _ other none = none-some _ (sym none)

-- what is told of a step whose first half was refused
not_active_differs : NotActive ≢ OutOfMemory
not_active_differs e = (let numbers : 3 ≡ 22 = ap number_of e in absurd (omega (arith, numbers)))

at_differs : {Q : Type 0} (s : QuorumSystem Q) (o : Option (NodeState Q)) (c : Act Q) (r : Refusal) → least (causes_at s o c) ≡ Some r → r ≢ OutOfMemory
at_differs s None c r e = subst (λ r. r ≢ OutOfMemory) (some_inj NotActive r e) not_active_differs
at_differs s (Some x) c r e = never_memory s x c r e

of_differs : {Q : Type 0} (s : QuorumSystem Q) (w : WorldState Q) (o : Option (Meant Q)) (r : Refusal) → least (causes_of s w o) ≡ Some r → r ≢ OutOfMemory
of_differs s w None r e = subst (λ r. r ≢ OutOfMemory) (some_inj NoSuchLetter r e) no_letter_differs
of_differs s w (Some m) r e = at_differs s (node_at w m.name) m.act r e

none_refused : (o : Option Refusal) (cause : Refusal) → ((r : Refusal) → o ≡ Some r → r ≢ OutOfMemory) → IsRefusal o cause → cause ≡ OutOfMemory → o ≡ None
none_refused None cause never h e = refl
none_refused (Some r) cause never h e = absurd (never r refl (sym h ∙ e))

pub told_of : {Q : Type 0} (s : QuorumSystem Q) (w : WorldState Q) (st : Step Q) (cause r : Refusal) (count capacity : ℕ) → IsRefusal (refusal s w st) cause → (cause ≢ OutOfMemory → r ≡ cause)
    → (cause ≡ OutOfMemory → Told None count capacity r) → Told (refusal s w st) count capacity r
told_of s w st cause r count capacity h rule memory =
    told_half (refusal s w st) cause r count capacity h
    (none_refused (refusal s w st) cause (λ r e. of_differs s w (meant w st) r (sym (refusal_is s w st) ∙ e)) h) rule memory

-- for a letter that is gone, and that no tray has, nobody waits
pub gone_spent : {Q : Type 0} (s : QuorumSystem Q) (b : BookView Q) (most : ℕ) (ks : List (KeeperView Q)) (number : ℕ) → is_gone (gone_of true most (state s b)) number ≡ true → AreHeld s b ks → (IsInSome ks number → ⊥)
    → IsSpent s b.founders b.lose b.steps number
gone_spent s b most ks zero gone held out = absurd (true≢false (sym gone))
gone_spent s b most ks (suc i) gone held out =
    let below = ltb-true i (gone_of true most (state s b)) gone in
    let there = below_there (state s b).letters i (omega (arith, below)) in
    elim (held (suc i) there.0 there.1) [ inl spent ↦ spent | inr h ↦ absurd (out h) ]

-- of an error the first of two
pub err_first : {A E : Type 0} (P R : Type 0) (r : Result A E) → OnErr r (P × R) → OnErr r P
err_first P R (Ok a) h = tt
err_first P R (Err e) h = h.0

-- or one of two
pub err_left : {A E : Type 0} (P R : E → Type 0) (r : Result A E) → IfErr r P → IfErr r (λ e. P e ⊎ R e)
err_left P R (Ok a) h = tt
err_left P R (Err e) h = inl h

-- whether a node has stopped, by what it is
pub stopped_is : {Q : Type 0} (w : WorldState Q) (name : ℕ) (x : NodeState Q) (b : Bool) → node_at w name ≡ Some x → b ≡ is_stopped x.status → MatchBool b (HasStopped w name) (IsGoing w name)
stopped_is w name x true here is = (x, (here, sym is))
stopped_is w name x false here is = (x, (here, sym is))

-- nothing was sent at first
no_letter : {Q : Type 0} (s : QuorumSystem Q) (f : Q) → (first_world s f).letters ≡ []
unfolding first_world
no_letter s f = refl

nowhere : {Q : Type 0} (n : ℕ) (l : LetterState Q) → letter_at [] n ≡ Some l → ⊥
nowhere zero l e = none-some l e
nowhere (suc i) l e = none-some l e

pub held_first : {Q : Type 0} (s : QuorumSystem Q) (b : BookView Q) (ks : List (KeeperView Q)) → b.steps ≡ [] → AreHeld s b ks
held_first s b ks none n l e = absurd (nowhere n l (ap (λ ls. letter_at ls n) (sym (ap (λ w. w.letters) (run_none s b.founders) ∙ no_letter s b.founders)) ∙ ap (λ l. letter_at (run s b.founders l).letters n) (sym none) ∙ e))

-- a delivery that the recovery doesn't take
pub why_gone : {Q A : Type 0} (s : QuorumSystem Q) (b : BookView Q) (endless : Bool) (most lose : ℕ) (is_short : Bool) (ks : List (KeeperView Q)) (number : ℕ) (r : Result A Refusal) → endless ≡ true → b.capacity ≡ most → b.lose ≡ lose → (is_short ≡ false → AreHeld s b ks)
    → IfErr r (λ r. Told (refusal s (state s b) (step.Deliver number)) (length b.steps) b.capacity r ⊎ ((is_gone (gone_of endless most (state s b)) number ≡ true) × (IsInSome ks number → ⊥) × IsGoneSo is_short r))
    → IfErr r (WhyUntaken s b.founders most lose b.steps (step.Deliver number))
why_gone s b endless most lose is_short ks number (Ok a) is full lost held h = tt
why_gone s b endless most lose is_short ks number (Err r) is full lost held h = elim h [
  | inl told ↦ inl (subst (λ n. Told (refusal s (state s b) (step.Deliver number)) (length b.steps) n r) full told)
  | inr gone ↦ (
      let out : is_gone (gone_of true most (state s b)) number ≡ true = subst (λ e. is_gone (gone_of e most (state s b)) number ≡ true) is gone.0 in
      inr (
        out,
        elim gone.2 [
          | inl memory ↦ inl memory
          | inr so ↦ inr (so.0, λ n eq. subst (λ n. IsSpent s b.founders lose b.steps n) (some_inj number n (ap delivered_by eq)) (subst (λ lose. IsSpent s b.founders lose b.steps number) lost (gone_spent s b most ks number out (held so.1) gone.1)))
        ],
      ))
]

-- what holds of a success, or of an error, and what follows from it
pub ok_map : {A E : Type 0} (P R : Type 0) (r : Result A E) → (P → R) → OnOk r P → OnOk r R
ok_map P R (Ok a) f h = f h
ok_map P R (Err e) f h = tt

pub err_map : {A E : Type 0} (P R : Type 0) (r : Result A E) → (P → R) → OnErr r P → OnErr r R
err_map P R (Ok a) f h = tt
err_map P R (Err e) f h = f h

pub if_err_map : {A E : Type 0} (P R : E → Type 0) (r : Result A E) → ((e : E) → P e → R e) → IfErr r P → IfErr r R
if_err_map P R (Ok a) f h = tt
if_err_map P R (Err e) f h = f e h

-- a step is done or refused, and nothing but the steps changes
pub either_drawn : {Q A E : Type 0} (b c : BookView Q) (steps : List (Step Q)) (r : Result A E) → OnOk r (c ≡ record b { steps = steps }) → OnErr r (c ≡ b) → (c.drawn ≡ b.drawn) × (c.waiting ≡ b.waiting)
either_drawn b c steps (Ok a) is same = (ap (λ (b : BookView _). b.drawn) is, ap (λ (b : BookView _). b.waiting) is)
either_drawn b c steps (Err e) is same = (ap (λ (b : BookView _). b.drawn) same, ap (λ (b : BookView _). b.waiting) same)

-- a step that is no delivery
pub no_delivery : {Q : Type 0} (st : Step Q) → ((number : ℕ) → st ≡ step.Deliver number → ⊥) → delivered_by st ≡ None
no_delivery (step.Deliver i) other = absurd (other i refl)
no_delivery _ other = refl
