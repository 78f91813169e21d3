-- Open calls have the answers of the history
use Rattle.std.proofs.Common.{◌≡◌, List, [], ◌∷◌, ◌++◌, Bool, true, false, if◌then◌else◌, Option, None, Some, is_some, refl, sym, ap, ◌∙◌}
use Rattle.std.specs.Map.{lookup}
use Rattle.std.specs.Option.{option_map}
use Rattle.rambo_history.specs.declared.operation.Op.{Op}
use Rattle.rambo_history.specs.declared.operation.Answer.{Answer}
use Rattle.rambo_history.specs.declared.event.CallId.{CallId}
use Rattle.rambo_history.specs.declared.event.Event.{Event}
use Rattle.rambo_history.specs.declared.event.Event.TheVariants as event
use Rattle.rambo_history.specs.declared.fault.HistoryFault.TheVariants as fault
use Rattle.rambo_history.specs.Calls.{same_call}
use Rattle.rambo_history.specs.Faults.{fault_of, answer_fault}
use Rattle.rambo_history.specs.Forms.{IsWellFormed}
use Rattle.rambo_history.specs.Histories.{call_in, answer_in}
use Rattle.rambo_history.proofs.LookUps.{either, answer_in-append}
use Rattle.rambo_history.proofs.Pushes.{same_call-path, unanswered}
use Rattle.rambo_run.specs.Steps.{with_event}
use Rattle.rambo_run.proofs.Lists.{none-some, some_inj}
use Rattle.rambo_book.specs.OpenCalls.{told_now, KeepsCalls, Opens, Tells, Takes, TakesIf, AreOpen}

call_fine : (o : Option Op) → (if is_some o then Some fault.CalledTwice else None) ≡ None → o ≡ None
call_fine None e = refl
call_fine (Some op) e = absurd (none-some _ (sym e))

answer_fine : (o : Option Op) (p : Option Answer) (a : Answer) → answer_fault o p a ≡ None → p ≡ None
answer_fine None p a e = absurd (none-some _ (sym e))
answer_fine (Some op) (Some b) a e = absurd (none-some _ (sym e))
answer_fine (Some op) None a e = refl

pub open_none : (h : List Event) (calls : List (CallId × Option Answer)) → calls ≡ [] → AreOpen h calls
open_none h calls e c told is = absurd (none-some told (ap (λ l. lookup (same_call c) l) (sym e) ∙ is))

pub open_kept : (h : List Event) (old new : List (CallId × Option Answer)) → AreOpen h old → KeepsCalls old new → AreOpen h new
open_kept h old new are keeps c told is = are c told (sym (keeps c) ∙ is)

either_none : {A : Type 0} (o : Option A) → either o None ≡ o
either_none None = refl
either_none (Some a) = refl

called_later : (h : List Event) (c q : CallId) (op : Op) → answer_in (h ++ event.Call c op ∷ []) q ≡ answer_in h q
called_later h c q op = answer_in-append h (event.Call c op ∷ []) q ∙ either_none (answer_in h q)

told_here : (h : List Event) (c : CallId) (a : Answer) (b : Bool) (q : CallId) → same_call c q ≡ b → answer_in (h ++ event.Answer c a ∷ []) q ≡ either (answer_in h q) (if b then Some a else None)
told_here h c a b q is = answer_in-append h (event.Answer c a ∷ []) q ∙ ap (λ b. either (answer_in h q) (if b then Some a else None)) is

module _ (h : List Event) (well : IsWellFormed h) (old new : List (CallId × Option Answer)) (are : AreOpen h old) where
  opens : (c : CallId) (op : Op) → fault_of h (event.Call c op) ≡ None → Opens c old new → AreOpen (h ++ event.Call c op ∷ []) new
  opens c op fits more q told is =
      by_case (same_call c q) refl (sym (more q) ∙ is) ∙ sym (called_later h c q op)
    where
      by_case : (b : Bool) → same_call c q ≡ b → (if b then Some None else lookup (same_call q) old) ≡ Some told → told ≡ answer_in h q
      by_case true same e =
          let unmade : call_in h q ≡ None = ap (call_in h) (sym (same_call-path c q same)) ∙ call_fine (call_in h c) fits in
          sym (some_inj None told e) ∙ sym (unanswered h well q unmade)
      by_case false other e = are q told e

  tells : (c : CallId) (a : Answer) → fault_of h (event.Answer c a) ≡ None → Tells c a old new → AreOpen (h ++ event.Answer c a ∷ []) new
  tells c a fits more q told is =
      by_case (same_call c q) refl (sym (more q) ∙ is)
    where
      told_last : (o : Option (Option Answer)) → option_map (told_now a) o ≡ Some told → Some a ≡ told
      told_last None e = absurd (none-some told e)
      told_last (Some x) e = some_inj (Some a) told e

      by_case : (b : Bool) → same_call c q ≡ b → (if b then option_map (told_now a) (lookup (same_call c) old) else lookup (same_call q) old) ≡ Some told → told ≡ answer_in (h ++ event.Answer c a ∷ []) q
      by_case true same e =
          let none : answer_in h q ≡ None = ap (answer_in h) (sym (same_call-path c q same)) ∙ answer_fine (call_in h c) (answer_in h c) a fits in
          sym (told_last (lookup (same_call c) old) e) ∙ sym (told_here h c a true q same ∙ ap (λ o. either o (Some a)) none)
      by_case false other e = are q told e ∙ sym (told_here h c a false q other ∙ either_none (answer_in h q))

  pub open_more : (e : Event) → fault_of h e ≡ None → Takes e old new → AreOpen (h ++ e ∷ []) new
  open_more (event.Call c op) fits more = opens c op fits more
  open_more (event.Answer c a) fits more = tells c a fits more

  -- with the event of a step, if it has one
  pub open_with : (e : Option Event) → ((v : Event) → e ≡ Some v → fault_of h v ≡ None) → TakesIf e old new → AreOpen (with_event h e) new
  open_with None fits more = open_kept h old new are more
  open_with (Some v) fits more = open_more v (fits v refl) more
