-- A step whose first half was refused is refused by the book for that cause
use Rattle.std.proofs.Common.{◌≡◌, ◌≢◌, ℕ, zero, suc, [], Option, None, Some, IfSome, Result, Ok, Err, OnOk, OnErr, IfOk, IfErr, refl, sym, ap, ◌∙◌, subst}
use Rattle.rambo_names.specs.declared.refusal.Refusal.{Refusal}
use Rattle.rambo_names.specs.declared.refusal.Refusal.TheVariants.{OutOfMemory}
use Rattle.rambo_names.specs.Quorums.{QuorumSystem}
use Rattle.rambo_names.specs.Refusals.{least, IsRefusal}
use Rattle.rambo_node.specs.Acts.{Act, Meant, name_in}
use Rattle.rambo_node.specs.Changes.{refusal_of}
use Rattle.rambo_node.specs.Nodes.{NodeState}
use Rattle.rambo_node.specs.Steps.{Step}
use Rattle.rambo_node.specs.declared.step.StepOf.TheVariants as step
use Rattle.rambo_run.specs.Steps.{meant, meant_in, causes_at, causes_of, refusal}
use Rattle.rambo_run.specs.Worlds.{WorldState, node_at}
use Rattle.rambo_run.specs.Runs.{run}
use Rattle.rambo_run.proofs.Lists.{none-some, some_inj}
use Rattle.rambo_book.specs.declared.readied.Ready.{Ready}
use Rattle.rambo_book.specs.Readying.{IsReadyFor}
use Rattle.rambo_book.specs.Kept.{KeeperView, Told}
use Rattle.rambo_pass.specs.Passes.{IsHalf}
use Rattle.rambo_book.proofs.Judging.{refusal_is}
use Rattle.rambo_book.proofs.Refused.{refused_never_memory}

-- in each world it means this change of the node of the name
abbrev IsOf : {Q : Type 0} → ℕ → Step Q → Type 0
IsOf {Q} name st = (c : Act Q) × ((w : WorldState Q) → meant w st ≡ Some (record { name = name; act = c }))

-- a step that names a name, where no letter was sent, is of its node
own_of : {Q : Type 0} (st : Step Q) → IfSome (name_in (meant_in [] st)) (λ name. IsOf name st)
own_of (step.Deliver zero) = tt
own_of (step.Deliver (suc i)) = tt
own_of st = (_, λ w. refl)

is_of : {Q : Type 0} (o : Option ℕ) (name : ℕ) (st : Step Q) → o ≡ Some name → IfSome o (λ name. IsOf name st) → IsOf name st
is_of o name st e h = subst (λ o. IfSome o (λ name. IsOf name st)) e h

-- a step of a node is refused where the node refuses it
node_refuses : {Q : Type 0} (s : QuorumSystem Q) (w : WorldState Q) (name : ℕ) (x : NodeState Q) (st : Step Q) (own : IsOf name st) → node_at w name ≡ Some x → refusal s w st ≡ refusal_of s x own.0
node_refuses s w name x st own here = refusal_is s w st ∙ ap (λ o. least (causes_of s w o)) (own.1 w) ∙ ap (λ o. least (causes_at s o own.0)) here

other : (o : Option Refusal) (cause : Refusal) (count capacity : ℕ) → IsRefusal o cause → cause ≢ OutOfMemory → Told o count capacity cause
other None cause count capacity h not = absurd (not h)
other (Some d) cause count capacity h not = h

accepted : (o : Option Refusal) → IsRefusal o OutOfMemory → ((d : Refusal) → o ≡ Some d → d ≢ OutOfMemory) → o ≡ None
accepted None h never = refl
accepted (Some d) h never = absurd (never d refl (sym h))

-- two worlds in which the node of a name is this one
module _ {Q : Type 0} (s : QuorumSystem Q) (w v : WorldState Q) (name : ℕ) (x : NodeState Q) (here : node_at w name ≡ Some x) (there : node_at v name ≡ Some x) (st : Step Q) (named : name_in (meant_in [] st) ≡ Some name) where
  own : IsOf name st
  own = is_of (name_in (meant_in [] st)) name st named (own_of st)

  alike : refusal s w st ≡ refusal s v st
  alike = node_refuses s w name x st own here ∙ sym (node_refuses s v name x st own there)

  -- what was refused in the one by the rules of its kind is in the other
  pub told_other : (cause : Refusal) (count capacity : ℕ) → IsRefusal (refusal s w st) cause → cause ≢ OutOfMemory → Told (refusal s v st) count capacity cause
  told_other cause count capacity h not = subst (λ o. Told o count capacity cause) alike (other (refusal s w st) cause count capacity h not)

  -- and what there was no memory for isn't refused by them
  pub told_memory : (r : Refusal) (count capacity : ℕ) → IsRefusal (refusal s w st) OutOfMemory → Told None count capacity r → Told (refusal s v st) count capacity r
  told_memory r count capacity h told =
      let none = accepted (refusal s w st) h (λ d e. refused_never_memory s x (Some (record { name = name; act = own.0 })) d (sym (node_refuses s w name x st own here) ∙ e)) in
      subst (λ o. Told o count capacity r) (sym none ∙ alike) told

-- whose step a step is that names a name
pub own_name : {Q : Type 0} (st : Step Q) (name : ℕ) (m : Meant Q) → name_in (meant_in [] st) ≡ Some name → meant_in [] st ≡ Some m → m.name ≡ name
own_name st name m named is = some_inj m.name name (ap name_in (sym is) ∙ named)

unnamed : (Q : Type 0) (number : ℕ) → name_in (meant_in {Q = Q} [] (step.Deliver number)) ≡ None
unnamed Q zero = refl
unnamed Q (suc i) = refl

-- it lets no letter come
pub no_delivery : {Q A : Type 0} (st : Step Q) (name number : ℕ) → name_in (meant_in [] st) ≡ Some name → st ≡ step.Deliver number → A
no_delivery {Q} st name number named is = absurd (none-some name (sym (unnamed Q number) ∙ ap (λ (st : Step Q). name_in (meant_in [] st)) (sym is) ∙ named))

each_err : {A E F : Type 0} (r : Result A E) (C : F → Type 0) (P : F → E → Type 0) → ((f : F) → C f → IfErr r (P f)) → IfErr r (λ e. (f : F) → C f → P f e)
each_err (Ok a) C P h = tt
each_err (Err e) C P h = h

-- the first half of a step of a keeper, which made room perhaps
pub half_of : {Q : Type 0} (s : QuorumSystem Q) (agreed : Option Q) (k later : KeeperView Q) (st : Step Q) (half : Result (Ready Q) Refusal)
    → later ≡ record k { room = later.room } → name_in (meant_in [] st) ≡ Some k.name → IfOk half (λ r. r.step ≡ st)
    → ((f : Q) → agreed ≡ Some f → IfErr half (IsRefusal (refusal s (run s f k.seen) st))) → IsHalf s agreed later st half
half_of {Q} s agreed k later st half same own made refused = record {
  own = own ∙ ap (λ (k : KeeperView Q). Some k.name) (sym same);
  made = made;
  refused = subst (λ seen. IfErr half (λ e. (f : Q) → agreed ≡ Some f → IsRefusal (refusal s (run s f seen) st) e)) (ap (λ (k : KeeperView Q). k.seen) (sym same)) (each_err half (λ f. agreed ≡ Some f) (λ f. IsRefusal (refusal s (run s f k.seen) st)) refused);
}

-- what always holds holds of a success
pub always : {A E P : Type 0} (r : Result A E) → P → OnOk r P
always (Ok a) p = p
always (Err e) p = tt

-- what is ready isn't refused in what its keeper has seen
pub accepted_in : {Q : Type 0} (s : QuorumSystem Q) (agreed : Option Q) (k : KeeperView Q) (r : Ready Q) (f : Q) → agreed ≡ Some f → IsReadyFor s agreed k r → refusal s (run s f k.seen) r.step ≡ None
accepted_in s agreed k r f is ready = (ready f is).accepted

pub either_way : {A E P : Type 0} (r : Result A E) → OnOk r P → OnErr r P → P
either_way (Ok a) done refused = done
either_way (Err e) done refused = refused
