-- Only one list is one order of all sequences
use Rattle.std.proofs.Common.{◌≡◌, ◌⊎◌, ℕ, suc, ◌≤◌, Bool, true, false, cond, List, [], ◌∷◌, ◌++◌, Option, Some, None, refl, sym, ap, ◌∙◌, subst, inl, inr, arith}
use Rattle.std.specs.Option.{option_map}
use Rattle.rambo_history.specs.declared.event.CallId.{CallId}
use Rattle.rambo_history.specs.declared.event.Event.{Event}
use Rattle.rambo_history.specs.declared.event.Event.TheVariants as event
use Rattle.rambo_history.specs.Calls.{same_call}
use Rattle.rambo_history.specs.Histories.{answered_at, is_answer}
use Rattle.rambo_history.proofs.LookUps.{position-cons}
use Rattle.rambo_history.proofs.Pushes.{same_call-path}
use Rattle.rambo_sequence.specs.Sequences.{SequenceOf}
use Rattle.rambo_sequence.specs.StoreOrders.{IsLeft, IsFirstAnswered, GoesNext, IsOrder, NoTwice, OneOrder, all_calls}
use Rattle.rambo_sequence.proofs.Members.{Member, some_inj, none-some, member_stands, stands_member, member_left}
use Rattle.rambo_sequence.proofs.GivenOrder.{cut, all_append, all_cut, all_rest, apart_both, drop_middle, member_all, order_is}

-- one call is answered at a place
sooner : (o p : Option ℕ) (n : ℕ) → option_map suc o ≡ Some n → option_map suc p ≡ Some n → (m : ℕ) × (o ≡ Some m) × (p ≡ Some m)
sooner None p n e f = absurd (none-some n e)
sooner (Some a) None n e f = absurd (none-some n f)
sooner (Some a) (Some b) n e f =
    let x : suc a ≡ n = some_inj (suc a) n e in
    let y : suc b ≡ n = some_inj (suc b) n f in
    (a, refl, ap Some (omega (arith, x, y)))

not_first : (o : Option ℕ) (n : ℕ) → Some 0 ≡ Some n → option_map suc o ≡ Some n → ⊥
not_first None n e f = none-some n f
not_first (Some a) n e f =
    let x : 0 ≡ n = some_inj 0 n e in
    let y : suc a ≡ n = some_inj (suc a) n f in
    omega (arith, x, y)

answered_who : (h : List Event) (c d : CallId) (n : ℕ) → answered_at h c ≡ Some n → answered_at h d ≡ Some n → c ≡ d
answered_who [] c d n e f = absurd (none-some n e)
answered_who (event.Call x p ∷ es) c d n e f =
    let r = sooner (answered_at es c) (answered_at es d) n (sym (position-cons (is_answer c) (event.Call x p) es) ∙ e) (sym (position-cons (is_answer d) (event.Call x p) es) ∙ f) in
    answered_who es c d r.0 r.1 r.2
answered_who (event.Answer x a ∷ es) c d n e f =
    step (λ m. answered_who es c d m) (same_call x c) (same_call x d) refl refl
    (sym (position-cons (is_answer c) (event.Answer x a) es) ∙ e) (sym (position-cons (is_answer d) (event.Answer x a) es) ∙ f)
  where
    step : ((m : ℕ) → answered_at es c ≡ Some m → answered_at es d ≡ Some m → c ≡ d) → (t u : Bool) → same_call x c ≡ t → same_call x d ≡ u
        → cond t (Some 0) (option_map suc (answered_at es c)) ≡ Some n → cond u (Some 0) (option_map suc (answered_at es d)) ≡ Some n → c ≡ d
    step later true true s r e f = sym (same_call-path x c s) ∙ same_call-path x d r
    step later true false s r e f = absurd (not_first (answered_at es d) n e f)
    step later false true s r e f = absurd (not_first (answered_at es c) n f e)
    step later false false s r e f = let q = sooner (answered_at es c) (answered_at es d) n e f in later q.0 q.1 q.2

-- two splits of a list are the same, or the middle of one stands in the front of the other
record SameSplit {A : Type 0} (front : List A) (s : A) (back front' : List A) (s' : A) (back' : List A) : Type 0 where
  fronts : front ≡ front'
  middle : s ≡ s'
  backs : back ≡ back'

head_is : {A : Type 0} (x y : A) (xs ys : List A) → x ∷ xs ≡ y ∷ ys → x ≡ y
head_is x y xs ys e = cc

tail_is : {A : Type 0} (x y : A) (xs ys : List A) → x ∷ xs ≡ y ∷ ys → xs ≡ ys
tail_is x y xs ys e = cc

split_or : {A : Type 0} (front : List A) (s : A) (back front' : List A) (s' : A) (back' : List A) → front ++ s ∷ back ≡ front' ++ s' ∷ back'
    → SameSplit front s back front' s' back' ⊎ (Member s front' ⊎ Member s' front)
split_or [] s back [] s' back' e = inl (record { fronts = refl; middle = head_is s s' back back' e; backs = tail_is s s' back back' e })
split_or [] s back (y ∷ front') s' back' e = inr (inl (inl (sym (head_is s y back (front' ++ s' ∷ back') e))))
split_or (x ∷ front) s back [] s' back' e = inr (inr (inl (head_is x s' (front ++ s ∷ back) back' e)))
split_or (x ∷ front) s back (y ∷ front') s' back' e =
    let same = head_is x y (front ++ s ∷ back) (front' ++ s' ∷ back') e in
    elim (split_or front s back front' s' back' (tail_is x y (front ++ s ∷ back) (front' ++ s' ∷ back') e)) [
      | inl r ↦ inl (record { fronts = λ i. same i ∷ r.fronts i; middle = r.middle; backs = r.backs })
      | inr r ↦ inr (elim r [ inl m ↦ inl (inr m) | inr m ↦ inr (inr m) ])
    ]

nil-cons : {A : Type 0} (x : A) (xs ys : List A) → ys ≡ [] → ys ≡ x ∷ xs → ⊥
nil-cons x xs ys e f = cc

-- a call of one sequence stands in no other
not_in_front : (front : List SequenceOf) (s : SequenceOf) (back : List SequenceOf) (t : SequenceOf) (m : CallId) → NoTwice (all_calls (front ++ s ∷ back)) → Member t front
    → Member m t.calls → Member m s.calls → ⊥
not_in_front front s back t m n there i k =
    apart_both (all_calls front) (all_calls (s ∷ back)) (subst NoTwice (all_append front (s ∷ back)) n) m (member_all front t m there i) (member_left m s.calls (all_calls back) k)

module _ (h : List Event) (ss : List SequenceOf) (n : NoTwice (all_calls ss)) where
  -- what goes next goes so alone
  next_alone : (front : List SequenceOf) (s : SequenceOf) (back : List SequenceOf) (c : CallId) (rest : List CallId)
      (front' : List SequenceOf) (s' : SequenceOf) (back' : List SequenceOf) (d : CallId) (rest' : List CallId)
      → ss ≡ front ++ s ∷ back → s.calls ≡ c ∷ rest → ss ≡ front' ++ s' ∷ back' → s'.calls ≡ d ∷ rest' → GoesNext h ss front s → GoesNext h ss front' s'
      → SameSplit front s back front' s' back'
  next_alone front s back c rest front' s' back' d rest' e f e' f' next next' =
      elim (split_or front s back front' s' back' (sym e ∙ e')) [
        | inl same ↦ same
        | inr other ↦ absurd (elim next [
          | inl r ↦ elim next' [
            | inl q ↦ (
                let here : IsLeft ss r.0 = (s, (front, back, e), r.1) in
                let there : IsLeft ss q.0 = (s', (front', back', e'), q.1) in
                let a : IsFirstAnswered h ss r.0 = r.2 in
                let b : IsFirstAnswered h ss q.0 = q.2 in
                let x : a.place ≤ b.place = a.first q.0 b.place there b.answered in
                let y : b.place ≤ a.place = b.first r.0 a.place here a.answered in
                let z : b.place ≡ a.place = omega (arith, x, y) in
                let same : r.0 ≡ q.0 = answered_who h r.0 q.0 a.place a.answered (b.answered ∙ ap Some z) in
                let i : Member r.0 s.calls = member_stands r.0 s.calls r.1 in
                let k : Member r.0 s'.calls = subst (λ m. Member m s'.calls) (sym same) (member_stands q.0 s'.calls q.1) in
                elim other [
                  | inl m ↦ not_in_front front' s' back' s r.0 (subst (λ l. NoTwice (all_calls l)) e' n) m i k
                  | inr m ↦ not_in_front front s back s' r.0 (subst (λ l. NoTwice (all_calls l)) e n) m k i
                ]
                )
            | inr q ↦ (let a : IsFirstAnswered h ss r.0 = r.2 in none-some a.place (sym (q.unanswered r.0 (s, (front, back, e), r.1)) ∙ a.answered))
          ]
          | inr r ↦ elim next' [
            | inl q ↦ (let b : IsFirstAnswered h ss q.0 = q.2 in none-some b.place (sym (r.unanswered q.0 (s', (front', back', e'), q.1)) ∙ b.answered))
            | inr q ↦ elim other [
              | inl m ↦ nil-cons c rest s.calls (q.over s (stands_member s front' m)) f
              | inr m ↦ nil-cons d rest' s'.calls (r.over s' (stands_member s' front m)) f'
            ]
          ]
        ])
      ]

only : (h : List Event) (ss : List SequenceOf) (a b : List CallId) → NoTwice (all_calls ss) → IsOrder h ss a → IsOrder h ss b → a ≡ b
only h ss [] [] n o p = refl
only h ss [] (d ∷ ds) n o p = absurd (nil-cons d p.3 p.1.calls (o p.1 (p.0, p.2, p.4)) p.5)
only h ss (c ∷ cs) [] n o p = absurd (nil-cons c o.3 o.1.calls (p o.1 (o.0, o.2, o.4)) o.5)
only h ss (c ∷ cs) (d ∷ ds) n o p =
    let same = next_alone h ss n o.0 o.1 o.2 c o.3 p.0 p.1 p.2 d p.3 o.4 o.5 p.4 p.5 o.6 p.6 in
    let calls : c ∷ o.3 ≡ d ∷ p.3 = sym o.5 ∙ ap (λ (s : SequenceOf). s.calls) same.middle ∙ p.5 in
    let rests : o.3 ≡ p.3 = tail_is c d o.3 p.3 calls in
    let less = subst NoTwice (sym (all_rest o.0 o.1 o.2 o.3)) (drop_middle (all_calls o.0) c (o.3 ++ all_calls o.2) (subst NoTwice (ap all_calls o.4 ∙ all_cut o.0 o.1 o.2 c o.3 o.5) n)) in
    let more = subst (λ l. IsOrder h l ds) (sym (λ i. same.fronts i ++ cut (same.middle i) (rests i) ∷ same.backs i)) p.7 in
    λ i. head_is c d o.3 p.3 calls i ∷ only h (o.0 ++ cut o.1 o.3 ∷ o.2) cs ds less o.7 more i

pub one_order : OneOrder
one_order h ss order n o = only h ss order _ n o (order_is h ss n)
