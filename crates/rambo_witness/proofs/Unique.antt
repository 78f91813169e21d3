-- There is one witness at most
use Rattle.std.proofs.Common.{◌≡◌, ℕ, suc, Bool, true, false, cond, List, [], ◌∷◌, ◌++◌, Option, None, Some, is_some, refl, sym, ap, ◌∙◌, inl, inr, ◌⊎◌, subst, true≢false, arith}
use Rattle.std.specs.Option.{option_map}
use Rattle.rambo_history.specs.declared.operation.Op.{Op}
use Rattle.rambo_history.specs.declared.operation.Op.TheVariants as op
use Rattle.rambo_history.specs.declared.event.CallId.{CallId}
use Rattle.rambo_history.specs.declared.event.Event.{Event}
use Rattle.rambo_history.specs.declared.event.Event.TheVariants as event
use Rattle.rambo_history.specs.Calls.{same_call}
use Rattle.rambo_history.specs.Histories.{call_in, called_at, is_call}
use Rattle.rambo_history.proofs.LookUps.{call_in-append, either, position-cons}
use Rattle.rambo_history.proofs.Pushes.{same_call-path, same_call-refl}
use Rattle.rambo_atomic.specs.declared.verdict.Rule.{Rule}
use Rattle.rambo_atomic.specs.declared.verdict.Rule.TheVariants.{Missing, Repeated, Stranger, WrongAnswer, OutOfOrder}
use Rattle.rambo_witness.specs.declared.witness.Witness.{Witness}
use Rattle.rambo_witness.specs.Laws.{OneWitness}
use Rattle.rambo_witness.specs.Witnesses.{Breaks, IsFirstMissing, IsFirstToBreak, IsLatestSet, IsMadeLast}
use Rattle.rambo_witness.proofs.Broken.{breaks-broken}

-- of two splits of a list one is at the front of the other, if they aren't the same
record Within {X : Type 0} (front back : List X) (x : X) (longer rest : List X) (y : X) : Type 0 where
  between : List X
  front-is : longer ≡ front ++ x ∷ between
  back-is : back ≡ between ++ y ∷ rest

longer-by : {X : Type 0} (f b g c : List X) (x y z : X) → Within f b x g c y → Within (z ∷ f) b x (z ∷ g) c y
longer-by f b g c x y z w = record { between = w.between; front-is = ap (λ l. z ∷ l) w.front-is; back-is = w.back-is }

compare : {X : Type 0} (f b g c : List X) (x y : X) → f ++ x ∷ b ≡ g ++ y ∷ c → ((f ≡ g) × (x ≡ y)) ⊎ (Within f b x g c y ⊎ Within g c y f b x)
compare [] b [] c x y e = inl (refl, cc)
compare [] b (z ∷ g) c x y e = let same : x ≡ z = cc in inr (inl (record { between = g; front-is = ap (λ w. w ∷ g) (sym same); back-is = cc }))
compare (z ∷ f) b [] c x y e = let same : z ≡ y = cc in inr (inr (record { between = f; front-is = ap (λ w. w ∷ f) same; back-is = cc }))
compare {X} (z ∷ f) b (w ∷ g) c x y e =
    let same : z ≡ w = cc in
    let rest : f ++ x ∷ b ≡ g ++ y ∷ c = cc in
    elim (compare f b g c x y rest) [
      | inl is ↦ inl ((λ i. same i ∷ is.0 i), is.1)
      | inr apart ↦ elim apart [
        | inl within ↦ inr (inl (subst (λ v. Within (z ∷ f) b x (v ∷ g) c y) same (longer-by f b g c x y z within)))
        | inr within ↦ inr (inr (subst (λ v. Within (v ∷ g) c y (z ∷ f) b x) same (longer-by g c f b y x z within)))
      ]
    ]

-- the latest set is one
latest-one : (h : List Event) (key : List ℕ) (calls : List CallId) (o p : Option CallId) → IsLatestSet h key calls o → IsLatestSet h key calls p → o ≡ p
latest-one h key calls None None is other = refl
latest-one h key calls None (Some d) is other = absurd (is d (other.0, other.1, other.2) other.3)
latest-one h key calls (Some c) None is other = absurd (other c (is.0, is.1, is.2) is.3)
latest-one h key calls (Some c) (Some d) is other =
    elim (compare is.0 is.1 other.0 other.1 c d (sym is.2 ∙ other.2)) [
      | inl same ↦ ap Some same.1
      | inr apart ↦ elim apart [
        | inl within ↦ absurd (is.4 d (within.between, other.1, within.back-is) other.3)
        | inr within ↦ absurd (other.4 c (within.between, is.1, within.back-is) is.3)
      ]
    ]

-- at one place one call is made
made-one : (h : List Event) (c d : CallId) (n : ℕ) → called_at h c ≡ Some n → called_at h d ≡ Some n → c ≡ d
made-one [] c d n e f = cc
made-one (x ∷ xs) c d n e f =
    step x (λ m. made-one xs c d m) (sym (position-cons (is_call c) x xs) ∙ e) (sym (position-cons (is_call d) x xs) ∙ f)
  where
    further : (o p : Option ℕ) → ((m : ℕ) → o ≡ Some m → p ≡ Some m → c ≡ d) → option_map suc o ≡ Some n → option_map suc p ≡ Some n → c ≡ d
    further None p rest e f = cc
    further (Some m) None rest e f = cc
    further (Some m) (Some k) rest e f = let same : m ≡ k = number m k (e ∙ sym f) in rest m refl (ap Some (sym same))
      where
        number : (m k : ℕ) → Some (suc m) ≡ Some (suc k) → m ≡ k
        number m k e = let is : suc m ≡ suc k = cc in omega (arith, is)

    zero-or : (o : Option ℕ) → Some 0 ≡ Some n → option_map suc o ≡ Some n → ⊥
    zero-or None e f = cc
    zero-or (Some m) e f = let is : 0 ≡ suc m = number (e ∙ sym f) in omega (arith, is)
      where
        number : Some 0 ≡ Some (suc m) → 0 ≡ suc m
        number e = cc

    by : (t u : Bool) → (t ≡ true → u ≡ true → c ≡ d) → ((m : ℕ) → called_at xs c ≡ Some m → called_at xs d ≡ Some m → c ≡ d)
        → cond t (Some 0) (option_map suc (called_at xs c)) ≡ Some n → cond u (Some 0) (option_map suc (called_at xs d)) ≡ Some n → c ≡ d
    by true true same rest e f = same refl refl
    by true false same rest e f = absurd (zero-or (called_at xs d) e f)
    by false true same rest e f = absurd (zero-or (called_at xs c) f e)
    by false false same rest e f = further (called_at xs c) (called_at xs d) rest e f

    step : (x : Event) → ((m : ℕ) → called_at xs c ≡ Some m → called_at xs d ≡ Some m → c ≡ d)
        → cond (is_call c x) (Some 0) (option_map suc (called_at xs c)) ≡ Some n → cond (is_call d x) (Some 0) (option_map suc (called_at xs d)) ≡ Some n → c ≡ d
    step (event.Call y o) rest e f = by (same_call y c) (same_call y d) (λ is also. sym (same_call-path y c is) ∙ same_call-path y d also) rest e f
    step (event.Answer y a) rest e f = by false false (λ is. absurd (true≢false (sym is))) rest e f

last-one : (h : List Event) (front : List CallId) (c d : CallId) → IsMadeLast h front c → IsMadeLast h front d → c ≡ d
last-one h front c d is other =
    let more = is.3 d other.1 other.0 other.2 in
    let few = other.3 c is.1 is.0 is.2 in
    let same : other.1 ≡ is.1 = omega (arith, more, few) in
    made-one h c d is.1 is.2 (other.2 ∙ ap Some same)

-- the other call is one
other-one : (rule : Rule) (h : List Event) (key : Option (List ℕ)) (front : List CallId) (c : CallId) (o p : Option CallId)
    → Breaks rule h key front (record { call = c; other = o }) → Breaks rule h key front (record { call = c; other = p }) → o ≡ p
other-one Missing h key front c o p is other = absurd is
other-one Repeated h key front c o p is other = is.1 ∙ sym other.1
other-one Stranger h key front c o p is other = is.1 ∙ sym other.1
other-one WrongAnswer h key front c o p is other =
    let same : is.0 ≡ other.0 = named is.0 other.0 (sym is.1 ∙ other.1) in
    latest-one h other.0 front o p (subst (λ k. IsLatestSet h k front o) same is.3) other.3
  where
    named : (k q : List ℕ) → Some (op.Get k) ≡ Some (op.Get q) → k ≡ q
    named k q e = cc
other-one OutOfOrder h key front c o p is other = is.1 ∙ ap Some (last-one h front is.0 other.0 is.2 other.2) ∙ sym other.1

first-one : (rule : Rule) (h : List Event) (key : Option (List ℕ)) (order : List CallId) (w v : Witness)
    → IsFirstToBreak rule h key order w → IsFirstToBreak rule h key order v → w ≡ v
first-one rule h key order w v is other =
    elim (compare is.front is.back other.front other.back w.call v.call (sym is.whole ∙ other.whole)) [
      | inl same ↦
          let moved : Breaks rule h key other.front (record { call = v.call; other = w.other }) =
          subst (λ c. Breaks rule h key other.front (record { call = c; other = w.other })) same.1 (subst (λ f. Breaks rule h key f w) same.0 is.breaks) in
          let also = other-one rule h key other.front v.call w.other v.other moved other.breaks in
          λ i. record { call = same.1 i; other = also i }
      | inr apart ↦ elim apart [
        | inl within ↦ absurd (breaks-broken rule h key other.front is.front within.between w within.front-is is.breaks other.first)
        | inr within ↦ absurd (breaks-broken rule h key is.front other.front within.between v within.front-is other.breaks is.first)
      ]
    ]

-- a history has the calls of its front
has-call : (h before between : List Event) (c : CallId) (o : Op) → h ≡ before ++ event.Call c o ∷ between → is_some (call_in h c) ≡ true
has-call h before between c o e =
    ap (λ l. is_some (call_in l c)) e ∙ ap is_some (call_in-append before (event.Call c o ∷ between) c) ∙ there (call_in before c) (same_call c c) (same_call-refl c)
  where
    there : (p : Option Op) (t : Bool) → t ≡ true → is_some (either p (cond t (Some o) (call_in between c))) ≡ true
    there (Some q) t e = refl
    there None true e = refl
    there None false e = absurd (true≢false (sym e))

missing-one : (h : List Event) (key : Option (List ℕ)) (order : List CallId) (w v : Witness) → IsFirstMissing h key order w → IsFirstMissing h key order v → w ≡ v
missing-one h key order w v is other =
    elim (compare is.front is.back other.front other.back (event.Call w.call is.asked) (event.Call v.call other.asked) (sym is.whole ∙ other.whole)) [
      | inl same ↦
          let call : w.call ≡ v.call = named is.asked other.asked w.call v.call same.1 in
          let also : w.other ≡ v.other = is.alone ∙ sym other.alone in
          λ i. record { call = call i; other = also i }
      | inr apart ↦ elim apart [
        | inl within ↦ absurd (is.missing (other.first w.call (has-call other.front is.front within.between w.call is.asked within.front-is) is.due))
        | inr within ↦ absurd (other.missing (is.first v.call (has-call is.front other.front within.between v.call other.asked within.front-is) other.due))
      ]
    ]
  where
    named : (o p : Op) (c d : CallId) → event.Call c o ≡ event.Call d p → c ≡ d
    named o p c d e = cc

pub one_witness_is : OneWitness
one_witness_is Missing h key order w v is other = missing-one h key order w v is other
one_witness_is Repeated h key order w v is other = first-one Repeated h key order w v is other
one_witness_is Stranger h key order w v is other = first-one Stranger h key order w v is other
one_witness_is WrongAnswer h key order w v is other = first-one WrongAnswer h key order w v is other
one_witness_is OutOfOrder h key order w v is other = first-one OutOfOrder h key order w v is other
