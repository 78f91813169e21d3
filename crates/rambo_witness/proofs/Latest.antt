-- The latest set of each key, with one call more
use Rattle.std.proofs.Common.{◌≡◌, ◌≢◌, ℕ, true, false, cond, List, [], ◌∷◌, ◌++◌, Option, None, Some, refl, sym, ap, ◌∙◌, inl, inr, subst, append_assoc, true≢false}
use Rattle.std.specs.Map.{lookup}
use Rattle.std.specs.Str.{bytes_eq}
use Rattle.std.proofs.lemmas.Slice.Eq.{bytes_eq-Decides}
use Rattle.rambo_history.specs.declared.operation.Op.{Op}
use Rattle.rambo_history.specs.declared.operation.Op.TheVariants as op
use Rattle.rambo_history.specs.declared.operation.Answer.{Answer}
use Rattle.rambo_history.specs.declared.operation.Answer.TheVariants as answer
use Rattle.rambo_history.specs.declared.event.CallId.{CallId}
use Rattle.rambo_history.specs.declared.event.Event.{Event}
use Rattle.rambo_history.specs.Calls.{answer_for}
use Rattle.rambo_history.specs.Histories.{call_in, answer_in}
use Rattle.rambo_history.specs.Proper.{AnswersLatest, after_op, held_after}
use Rattle.rambo_atomic.specs.Tests.{tells}
use Rattle.rambo_atomic.proofs.Decided.{held_after-push}
use Rattle.rambo_witness.specs.LatestSets.{HasLatest, IsHeld}
use Rattle.rambo_witness.specs.Tests.{value_of}
use Rattle.rambo_witness.specs.Witnesses.{IsLatestSet, Sets}
use Rattle.rambo_history.proofs.Splits.{stands-nil}
use Rattle.rambo_witness.proofs.Fronts.{splits-push, stands-push}

-- a call that doesn't set the key
latest-same : (h : List Event) (key : List ℕ) (front : List CallId) (c : CallId) (o : Option CallId) → ¬ (Sets h key c) → IsLatestSet h key front o → IsLatestSet h key (front ++ c ∷ []) o
latest-same h key front c None other is = λ d s sets.
    elim (stands-push front c d s) [ inl before ↦ is d before sets | inr last ↦ other (subst (Sets h key) (sym last) sets) ]
latest-same h key front c (Some l) other is = (
  is.0,
  is.1 ++ c ∷ [],
  ap (λ xs. xs ++ c ∷ []) is.2 ∙ append_assoc is.0 (l ∷ is.1) (c ∷ []),
  is.3,
  λ d s sets.
      elim (stands-push is.1 c d s) [ inl before ↦ is.4 d before sets | inr last ↦ other (subst (Sets h key) (sym last) sets) ],
)

-- a call that does
latest-new : (h : List Event) (key : List ℕ) (front : List CallId) (c : CallId) → Sets h key c → IsLatestSet h key (front ++ c ∷ []) (Some c)
latest-new h key front c sets = (front, [], refl, sets, λ d s. absurd (stands-nil d s))

-- what the key holds then
unset : (h : List Event) (key : List ℕ) (c : CallId) (held : Option (List ℕ)) → ¬ (Sets h key c) → after_op key (call_in h c) held ≡ held
unset h key c held other = by (call_in h c) refl
  where
    by : (o : Option Op) → call_in h c ≡ o → after_op key o held ≡ held
    by None e = refl
    by (Some (op.Get k)) e = refl
    by (Some (op.Set k v)) e =
        elim (bytes_eq k key) as (λ t. bytes_eq k key ≡ t → cond t (Some v) held ≡ held) [
          | true ↦ λ same. absurd (other (v, e ∙ ap (λ q. Some (op.Set q v)) ((bytes_eq-Decides k key).0 same)))
          | false ↦ λ _. refl
        ] refl

pub held-same : (h : List Event) (key : List ℕ) (front : List CallId) (c : CallId) (o : Option CallId) → ¬ (Sets h key c) → IsHeld h front key o → IsHeld h (front ++ c ∷ []) key o
held-same h key front c o other is = record {
  latest = latest-same h key front c o other is.latest;
  value = held_after-push h key front c None ∙ unset h key c (held_after h key front) other ∙ is.value;
}

pub held-new : (h : List Event) (key value : List ℕ) (front : List CallId) (c : CallId) → call_in h c ≡ Some (op.Set key value) → IsHeld h (front ++ c ∷ []) key (Some c)
held-new h key value front c is = record {
  latest = latest-new h key front c (value, is);
  value = held_after-push h key front c None ∙ ap (λ o. after_op key o (held_after h key front)) is
      ∙ ap (λ t. cond t (Some value) (held_after h key front)) ((bytes_eq-Decides key key).1 refl) ∙ sym (ap value_of is);
}

-- of a call that sets a key
other-key : (h : List Event) (key value q : List ℕ) (c : CallId) → call_in h c ≡ Some (op.Set key value) → bytes_eq key q ≡ false → ¬ (Sets h q c)
other-key h key value q c is apart sets =
    let same : key ≡ q = named (sym is ∙ sets.1) in true≢false (sym ((bytes_eq-Decides key q).1 same) ∙ apart)
  where
    named : {v : List ℕ} → Some (op.Set key value) ≡ Some (op.Set q v) → key ≡ q
    named e = cc

pub latest-set : (h : List Event) (front : List CallId) (c : CallId) (key value : List ℕ) (old new : List (List ℕ × CallId)) → call_in h c ≡ Some (op.Set key value)
    → ((q : List ℕ) → lookup (bytes_eq q) new ≡ cond (bytes_eq key q) (Some c) (lookup (bytes_eq q) old))
    → HasLatest h front old → HasLatest h (front ++ c ∷ []) new
latest-set h front c key value old new is now has q =
    subst (IsHeld h (front ++ c ∷ []) q) (sym (now q))
    (elim (bytes_eq key q) as (λ t. bytes_eq key q ≡ t → IsHeld h (front ++ c ∷ []) q (cond t (Some c) (lookup (bytes_eq q) old))) [
      | true ↦ λ same. subst (λ k. IsHeld h (front ++ c ∷ []) k (Some c)) ((bytes_eq-Decides key q).0 same) (held-new h key value front c is)
      | false ↦ λ apart. held-same h q front c (lookup (bytes_eq q) old) (other-key h key value q c is apart) (has q)
    ] refl)

-- of any other call
pub latest-unset : (h : List Event) (front : List CallId) (c : CallId) (entries : List (List ℕ × CallId)) → ((q : List ℕ) → ¬ (Sets h q c))
    → HasLatest h front entries → HasLatest h (front ++ c ∷ []) entries
latest-unset h front c entries unset has q = held-same h q front c (lookup (bytes_eq q) entries) (unset q) (has q)

-- what is told
pub tells-to : (held : Option (List ℕ)) (a : Option Answer) → tells held a ≡ true → a ≡ Some (answer_for held)
tells-to held None e = cc
tells-to held (Some answer.Ok) e = cc
tells-to None (Some answer.Nil) e = refl
tells-to (Some v) (Some answer.Nil) e = cc
tells-to None (Some (answer.Value w)) e = cc
tells-to (Some v) (Some (answer.Value w)) e = ap (λ x. Some (answer.Value x)) (sym ((bytes_eq-Decides v w).0 e))

pub told : (held : Option (List ℕ)) → tells held (Some (answer_for held)) ≡ true
told None = refl
told (Some v) = (bytes_eq-Decides v v).1 refl

pub untold : (held : Option (List ℕ)) (a : Option Answer) → tells held a ≡ false → a ≢ Some (answer_for held)
untold held a e same = true≢false (sym (told held) ∙ ap (tells held) (sym same) ∙ e)

pub answers-push : (h : List Event) (front : List CallId) (c : CallId) → AnswersLatest h front
    → ((key : List ℕ) → call_in h c ≡ Some (op.Get key) → answer_in h c ≡ Some (answer_for (held_after h key front))) → AnswersLatest h (front ++ c ∷ [])
answers-push h front c all here =
    splits-push (λ f d. (key : List ℕ) → call_in h d ≡ Some (op.Get key) → answer_in h d ≡ Some (answer_for (held_after h key f))) front c all here

pub no-call : (h : List Event) (c : CallId) → call_in h c ≡ None → (q : List ℕ) → ¬ (Sets h q c)
no-call h c none q sets = let e = sym none ∙ sets.1 in absurd (cc)

pub get-unset : (h : List Event) (c : CallId) (key : List ℕ) → call_in h c ≡ Some (op.Get key) → (q : List ℕ) → ¬ (Sets h q c)
get-unset h c key is q sets = let e = sym is ∙ sets.1 in absurd (cc)

pub other-unset : (h : List Event) (c : CallId) (o : Op) → call_in h c ≡ Some o → ((k v : List ℕ) → ¬ (o ≡ op.Set k v)) → (q : List ℕ) → ¬ (Sets h q c)
other-unset h c o is other q sets = let e : Some o ≡ Some (op.Set q sets.0) = sym is ∙ sets.1 in let same : o ≡ op.Set q sets.0 = cc in other q sets.0 same
