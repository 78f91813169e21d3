-- Small steps of the proofs of a visit
use Rattle.std.proofs.Common.{◌≡◌, ◌≢◌, inl, ℕ, zero, suc, List, [], ◌∷◌, map, Option, None, Some, Result, Ok, Err, IsSome, IfNone, IfSome, OnOk, OnErr, IfOk, IfErr, refl, sym, ap, ◌∙◌}
use Rattle.rambo_names.specs.declared.refusal.Refusal.{Refusal}
use Rattle.rambo_names.specs.declared.refusal.Refusal.TheVariants.{OutOfMemory}
use Rattle.rambo_names.specs.Refusals.{IsRefusal}
use Rattle.rambo_names.specs.Quorums.{QuorumSystem}
use Rattle.rambo_calls.specs.Kept.{calls_of}
use Rattle.rambo_calls.specs.declared.open_call.OpenCall.{OpenCall}
use Rattle.rambo_outbox.specs.Outboxes.{numbers_of}
use Rattle.rambo_node.specs.Steps.{Step, delivered_by}
use Rattle.rambo_node.specs.declared.step.StepOf.TheVariants as step
use Rattle.rambo_node.specs.Acts.{Meant, delivery, name_in}
use Rattle.rambo_run.specs.Steps.{meant_in}
use Rattle.rambo_run.specs.Worlds.{letter_at}
use Rattle.rambo_run.proofs.Lists.{none-some, some_inj}
use Rattle.rambo_book.specs.Kept.{KeeperView}
use Rattle.rambo_visit.specs.Happened.{HasNoRoom}
use Rattle.rambo_visit.specs.Open.{call_numbers}

-- the numbers of calls are those of what is stored of them
pub numbers_are : {Q : Type 0} (calls : List (OpenCall Q)) → map numbers_of calls ≡ map call_numbers (calls_of calls)
numbers_are [] = refl
numbers_are (c ∷ cs) = λ i. numbers_of c ∷ numbers_are cs i

-- a step that is done, or for which there is no room, leaves the keeper's name and its tray
pub same_either : {A Q : Type 0} (P : Type 0) (r : Result A Refusal) (k l : KeeperView Q) (steps : List (Step Q)) → OnOk r (l ≡ record k { node = l.node; room = l.room; beside = l.beside; seen = steps }) → OnErr r (P × (l ≡ k))
    → (l.name ≡ k.name) × (l.tray ≡ k.tray)
same_either P (Ok a) k l steps done same = (ap (λ (k : KeeperView _). k.name) done, ap (λ (k : KeeperView _). k.tray) done)
same_either P (Err e) k l steps done same = (ap (λ (k : KeeperView _). k.name) same.1, ap (λ (k : KeeperView _). k.tray) same.1)

pub same_refused : {A Q : Type 0} (P : Type 0) (r : Result A Refusal) (k l : KeeperView Q) → OnErr r (P × (l ≡ k)) → OnErr r (l ≡ k)
same_refused P (Ok a) k l same = tt
same_refused P (Err e) k l same = same.1

-- whose step a step is that names a name
pub own_name : {Q : Type 0} (st : Step Q) (name : ℕ) (m : Meant Q) → name_in (meant_in [] st) ≡ Some name → meant_in [] st ≡ Some m → m.name ≡ name
own_name st name m named is = some_inj m.name name (ap name_in (sym is) ∙ named)

unnamed : (Q : Type 0) (number : ℕ) → name_in (meant_in {Q = Q} [] (step.Deliver number)) ≡ None
unnamed Q zero = refl
unnamed Q (suc i) = refl

-- it lets no letter come
pub no_delivery : {Q A : Type 0} (st : Step Q) (name number : ℕ) → name_in (meant_in [] st) ≡ Some name → st ≡ step.Deliver number → A
no_delivery {Q} st name number named is = absurd (none-some name (sym (unnamed Q number) ∙ ap (λ (st : Step Q). name_in (meant_in [] st)) (sym is) ∙ named))

-- where no letter was sent, none comes
pub no_letter : {Q A : Type 0} (number : ℕ) (m : Meant Q) → delivery (letter_at [] number) ≡ Some m → A
no_letter zero m is = absurd (none-some m is)
no_letter (suc i) m is = absurd (none-some m is)

pub same_number : {Q : Type 0} (m n : ℕ) → ◌≡◌ {A = Step Q} (step.Deliver m) (step.Deliver n) → m ≡ n
same_number {Q} m n e = some_inj m n (ap delivered_by e)

-- where memory is out, there is no room
pub out_of_memory : {A Q : Type 0} (s : QuorumSystem Q) (agreed : Option Q) (most : ℕ) (r : Result A Refusal) → IfErr r (λ e. e ≡ OutOfMemory) → IfErr r (HasNoRoom s agreed most)
out_of_memory s agreed most (Ok a) out = tt
out_of_memory s agreed most (Err e) out = inl out

-- where nothing was done, nothing is told of what was
pub nothing_so : {A : Type 0} (P : A → Type 0) (r : Result (Option A) Refusal) → IfOk r (λ o. o ≡ None) → IfOk r (λ o. IfSome o P)
nothing_so P (Ok None) none = tt
nothing_so P (Ok (Some a)) none = absurd (none-some a (sym none))
nothing_so P (Err e) none = tt

-- a first half that wasn't made, and not for want of memory, is one that the rules refuse
pub refused_so : {A : Type 0} (P : Type 0) (r : Result (Option A) Refusal) (o : Option Refusal) (cause : Refusal) → OnOk r (cause ≢ OutOfMemory) → IsRefusal o cause → P → IfOk r (λ a. IfNone a (IsSome o × P))
refused_so P (Ok None) (Some q) cause other is p = (refl, p)
refused_so P (Ok None) None cause other is p = absurd (other is)
refused_so P (Ok (Some a)) o cause other is p = tt
refused_so P (Err e) o cause other is p = tt
