-- One entry more of an order
use Rattle.std.proofs.Common.{◌≡◌, ℕ, ◌+◌, ◌≤◌, length, length-append, append_assoc, append-nil, subst, List, [], ◌∷◌, ◌++◌, Bool, true, false, cond, not, ◌&&◌, ◌||◌, nat_eq, None, Some, is_some, refl, sym, ap, ◌∙◌, true≢false, arith}
use Rattle.std.specs.List.{list_any}
use Rattle.std.proofs.lemmas.Bool.Decides.{nat_tests}
use Rattle.rambo_history.specs.declared.operation.Op.{Op}
use Rattle.rambo_history.specs.declared.event.CallId.{CallId}
use Rattle.rambo_history.specs.declared.event.Event.{Event}
use Rattle.rambo_history.specs.declared.event.Event.TheVariants as event
use Rattle.rambo_history.specs.Calls.{same_call}
use Rattle.rambo_history.specs.Forms.{CallsOnce}
use Rattle.rambo_history.specs.Histories.{call_in, answer_in}
use Rattle.rambo_atomic.specs.Tallies.{how_many, is_found, is_any_of, is_answered_call}
use Rattle.rambo_atomic.specs.Tests.{stands_in, is_due, has_entry, is_distinct}
use Rattle.rambo_history.proofs.Pushes.{same_call-path}
use Rattle.rambo_history.proofs.AnsweredBefore.{once-tail, once-head}

same_call-swap : (c d : CallId) → same_call c d ≡ same_call d c
same_call-swap c d =
    let name : nat_eq c.name d.name ≡ nat_eq d.name c.name = grind (arith, nat_tests) in
    let number : nat_eq c.number d.number ≡ nat_eq d.number c.number = grind (arith, nat_tests) in
    λ i. name i && number i

pub stands_in-push : (xs : List CallId) (c q : CallId) → stands_in (xs ++ c ∷ []) q ≡ (stands_in xs q || same_call c q)
stands_in-push [] c q = last (same_call c q)
  where
    last : (t : Bool) → (t || false) ≡ t
    last true = refl
    last false = refl
stands_in-push (x ∷ xs) c q = ap (λ t. same_call x q || t) (stands_in-push xs c q) ∙ turned (same_call x q) (stands_in xs q) (same_call c q)
  where
    turned : (s t u : Bool) → (s || (t || u)) ≡ ((s || t) || u)
    turned true t u = refl
    turned false t u = refl

is_distinct-push : (xs : List CallId) (c : CallId) → is_distinct (xs ++ c ∷ []) ≡ (is_distinct xs && not (stands_in xs c))
is_distinct-push [] c = refl
is_distinct-push (x ∷ xs) c =
    (λ i. cond ((stands_in-push xs c x ∙ ap (λ t. stands_in xs x || t) (same_call-swap c x)) i) false (is_distinct-push xs c i))
    ∙ turned (stands_in xs x) (same_call x c) (is_distinct xs) (stands_in xs c)
  where
    turned : (s t d u : Bool) → cond (s || t) false (d && not u) ≡ (cond s false d && not (t || u))
    turned true t d u = refl
    turned false true true u = refl
    turned false true false u = refl
    turned false false d u = refl

stands_in-append : (xs ys : List CallId) (c : CallId) → stands_in (xs ++ ys) c ≡ (stands_in xs c || stands_in ys c)
stands_in-append [] ys c = refl
stands_in-append (x ∷ xs) ys c = ap (λ t. same_call x c || t) (stands_in-append xs ys c) ∙ turned (same_call x c) (stands_in xs c) (stands_in ys c)
  where
    turned : (s t u : Bool) → (s || (t || u)) ≡ ((s || t) || u)
    turned true t u = refl
    turned false t u = refl

distinct-front : (xs ys : List CallId) → is_distinct (xs ++ ys) ≡ true → is_distinct xs ≡ true
distinct-front [] ys e = refl
distinct-front (x ∷ xs) ys e =
    elim (stands_in xs x) as (λ t. stands_in xs x ≡ t → cond t false (is_distinct xs) ≡ true) [
      | true ↦ λ twice. absurd (true≢false (sym e ∙ ap (λ t. cond t false (is_distinct (xs ++ ys))) (stands_in-append xs ys x ∙ ap (λ t. t || stands_in ys x) twice)))
      | false ↦ λ _. distinct-front xs ys (behind (stands_in (xs ++ ys) x) (is_distinct (xs ++ ys)) e)
    ] refl
  where
    behind : (t d : Bool) → cond t false d ≡ true → d ≡ true
    behind true d e = absurd (true≢false (sym e))
    behind false d e = e

pub distinct-again : (xs : List CallId) (c : CallId) → stands_in xs c ≡ true → is_distinct (xs ++ c ∷ []) ≡ false
distinct-again xs c e = is_distinct-push xs c ∙ ap (λ t. is_distinct xs && not t) e ∙ none (is_distinct xs)
  where
    none : (t : Bool) → (t && false) ≡ false
    none true = refl
    none false = refl

pub distinct-new : (xs : List CallId) (c : CallId) → stands_in xs c ≡ false → is_distinct (xs ++ c ∷ []) ≡ is_distinct xs
distinct-new xs c e = is_distinct-push xs c ∙ ap (λ t. is_distinct xs && not t) e ∙ same (is_distinct xs)
  where
    same : (t : Bool) → (t && true) ≡ t
    same true = refl
    same false = refl

-- an entry that stands already finds nothing more
entry-again : (xs : List CallId) (c : CallId) → stands_in xs c ≡ true → (e : Event) → has_entry (xs ++ c ∷ []) e ≡ has_entry xs e
entry-again xs c stands (event.Answer d a) = refl
entry-again xs c stands (event.Call d p) =
    stands_in-push xs c d
    ∙ elim (same_call c d) as (λ t. (t ≡ true → c ≡ d) → (stands_in xs d || t) ≡ stands_in xs d) [
      | true ↦ λ same. let here = ap (stands_in xs) (sym (same refl)) ∙ stands in (ap (λ t. t || true) here) ∙ sym here
      | false ↦ λ same. last (stands_in xs d)
    ] (same_call-path c d)
  where
    last : (t : Bool) → (t || false) ≡ t
    last true = refl
    last false = refl

pub found-again : (h : List Event) (among : Op → Bool) (xs : List CallId) (c : CallId) → stands_in xs c ≡ true → (es : List Event)
    → how_many (is_found h among (xs ++ c ∷ [])) es ≡ how_many (is_found h among xs) es
found-again h among xs c stands [] = refl
found-again h among xs c stands (e ∷ es) =
    λ i. cond (is_due h among e && entry-again xs c stands e i) 1 0 + found-again h among xs c stands es i

-- whether an answered call of those within is made among these events
abbrev made : List Event → (Op → Bool) → List Event → CallId → Bool
made h among es c = is_any_of among (call_in es c) && is_some (answer_in h c)

found-other : (h : List Event) (among : Op → Bool) (xs : List CallId) (c : CallId) (es : List Event) → call_in es c ≡ None
    → how_many (is_found h among (xs ++ c ∷ [])) es ≡ how_many (is_found h among xs) es
found-other h among xs c [] none = refl
found-other h among xs c (event.Answer d a ∷ es) none = ap (λ n. 0 + n) (found-other h among xs c es none)
found-other h among xs c (event.Call d p ∷ es) none =
    elim (same_call d c) as (λ t. same_call d c ≡ t → cond t (Some p) (call_in es c) ≡ None
    → how_many (is_found h among (xs ++ c ∷ [])) (event.Call d p ∷ es) ≡ how_many (is_found h among xs) (event.Call d p ∷ es)) [
      | true ↦ λ _ e. cc
      | false ↦ λ other e.
          λ i. cond (is_due h among (event.Call d p) && (stands_in-push xs c d ∙ ap (λ t. stands_in xs d || t) (same_call-swap c d ∙ other) ∙ last (stands_in xs d)) i) 1 0
          + found-other h among xs c es e i
    ] refl none
  where
    last : (t : Bool) → (t || false) ≡ t
    last true = refl
    last false = refl

-- an entry that is new finds its call, where that is an answered call of those within
pub found-new : (h : List Event) (among : Op → Bool) (xs : List CallId) (c : CallId) → stands_in xs c ≡ false → (es : List Event) → CallsOnce es
    → how_many (is_found h among (xs ++ c ∷ [])) es ≡ how_many (is_found h among xs) es + cond (made h among es c) 1 0
found-new h among xs c stands [] once = refl
found-new h among xs c stands (event.Answer d a ∷ es) once = later _ _ _ (found-new h among xs c stands es (once-tail (event.Answer d a) es once))
  where
    later : (m n k : ℕ) → m ≡ n + k → 0 + m ≡ (0 + n) + k
    later m n k e = omega arith
found-new h among xs c stands (event.Call d p ∷ es) once =
    step (found-new h among xs c stands es (once-tail (event.Call d p) es once)) (same_call d c) (same_call-path d c) refl
  where
    last : (t : Bool) → (t || false) ≡ t
    last true = refl
    last false = refl

    all : (t : Bool) → (t || true) ≡ true
    all true = refl
    all false = refl

    one : (due : Bool) (n : ℕ) → cond (due && true) 1 0 + n ≡ (cond (due && false) 1 0 + n) + cond due 1 0
    one true n = omega arith
    one false n = omega arith

    step : how_many (is_found h among (xs ++ c ∷ [])) es ≡ how_many (is_found h among xs) es + cond (made h among es c) 1 0
        → (t : Bool) → (t ≡ true → d ≡ c) → same_call d c ≡ t
        → how_many (is_found h among (xs ++ c ∷ [])) (event.Call d p ∷ es)
        ≡ how_many (is_found h among xs) (event.Call d p ∷ es) + cond (is_any_of among (cond t (Some p) (call_in es c)) && is_some (answer_in h c)) 1 0
    step rest true same e =
        let is = same refl in
        let none = once-head d p es once in
        (λ i. cond (is_due h among (event.Call d p) && (stands_in-push xs c d ∙ ap (λ t. stands_in xs d || t) (same_call-swap c d ∙ e) ∙ all (stands_in xs d)) i) 1 0
        + found-other h among xs c es (ap (call_in es) (sym is) ∙ none) i)
        ∙ one (is_due h among (event.Call d p)) (how_many (is_found h among xs) es)
        ∙ (λ i. (cond (is_due h among (event.Call d p) && sym (ap (stands_in xs) is ∙ stands) i) 1 0 + how_many (is_found h among xs) es)
        + cond (among p && is_some (answer_in h (is i))) 1 0)
    step rest false same e =
        (λ i. cond (is_due h among (event.Call d p) && (stands_in-push xs c d ∙ ap (λ t. stands_in xs d || t) (same_call-swap c d ∙ e) ∙ last (stands_in xs d)) i) 1 0 + rest i)
        ∙ omega arith

found-none : (h : List Event) (among : Op → Bool) (es : List Event) → how_many (is_found h among []) es ≡ 0
found-none h among [] = refl
found-none h among (event.Answer d a ∷ es) = ap (λ n. 0 + n) (found-none h among es)
found-none h among (event.Call d p ∷ es) = none (is_due h among (event.Call d p)) (how_many (is_found h among []) es) (found-none h among es)
  where
    none : (t : Bool) (n : ℕ) → n ≡ 0 → cond (t && false) 1 0 + n ≡ 0
    none true n e = omega arith
    none false n e = omega arith

how_many-push : {X : Type 0} (p : X → Bool) (xs : List X) (x : X) → how_many p (xs ++ x ∷ []) ≡ how_many p xs + cond (p x) 1 0
how_many-push p [] x = omega arith
how_many-push p (y ∷ xs) x = ap (λ n. cond (p y) 1 0 + n) (how_many-push p xs x) ∙ omega arith

-- in an order that has no call twice, as many answered calls of those within are found as there are entries of them
abbrev FindsEach : List Event → (Op → Bool) → List CallId → Type 0
FindsEach h among order = how_many (is_found h among order) h ≡ how_many (is_answered_call h among) order

found-along : (h : List Event) (among : Op → Bool) (order : List CallId) → CallsOnce h → is_distinct order ≡ true
    → (front rest : List CallId) → front ++ rest ≡ order → FindsEach h among front → FindsEach h among order
found-along h among order once alone front [] e was = subst (FindsEach h among) (sym (append-nil front) ∙ e) was
found-along h among order once alone front (c ∷ cs) e was =
    let more : (front ++ c ∷ []) ++ cs ≡ order = append_assoc front (c ∷ []) cs ∙ e in
    let fresh = last-new front c (distinct-front (front ++ c ∷ []) cs (ap is_distinct more ∙ alone)) in
    found-along h among order once alone (front ++ c ∷ []) cs more
    (found-new h among front c fresh h once ∙ ap (λ n. n + cond (is_answered_call h among c) 1 0) was ∙ sym (how_many-push (is_answered_call h among) front c))
  where
    last-new : (xs : List CallId) (c : CallId) → is_distinct (xs ++ c ∷ []) ≡ true → stands_in xs c ≡ false
    last-new xs c e = not-true (is_distinct xs) (stands_in xs c) (sym (is_distinct-push xs c) ∙ e)
      where
        not-true : (d t : Bool) → (d && not t) ≡ true → t ≡ false
        not-true true false e = refl
        not-true true true e = absurd (true≢false (sym e))
        not-true false t e = absurd (true≢false (sym e))

pub distinct-found : (h : List Event) (among : Op → Bool) (order : List CallId) → CallsOnce h → is_distinct order ≡ true → FindsEach h among order
distinct-found h among order once alone = found-along h among order once alone [] order refl (found-none h among h)

-- what is known of a front of an order: the calls in it, whether none stands twice, and how many entries of answered calls of those within stand
-- there again
pub record HasSeen (h : List Event) (among : Op → Bool) (front seen : List CallId) (n : ℕ) (t : Bool) : Type 0 where
  pub calls : (c : CallId) → list_any (same_call c) seen ≡ stands_in front c
  pub again : how_many (is_found h among front) h + n ≡ how_many (is_answered_call h among) front
  pub distinct : t ≡ is_distinct front
  pub few : n ≤ length front

pub seen-none : (h : List Event) (among : Op → Bool) (seen : List CallId) → seen ≡ [] → HasSeen h among [] seen 0 true
seen-none h among seen e = record {
  calls = λ c. ap (list_any (same_call c)) e;
  again = ap (λ n. n + 0) (found-none h among h);
  distinct = refl;
  few = omega arith;
}

calls-push : (front old new : List CallId) (c : CallId) → ((q : CallId) → list_any (same_call q) old ≡ stands_in front q)
    → ((q : CallId) → list_any (same_call q) new ≡ cond (same_call c q) true (list_any (same_call q) old))
    → (q : CallId) → list_any (same_call q) new ≡ stands_in (front ++ c ∷ []) q
calls-push front old new c was now q = now q ∙ ap (cond (same_call c q) true) (was q) ∙ turned (same_call c q) (stands_in front q) ∙ sym (stands_in-push front c q)
  where
    turned : (t u : Bool) → cond t true u ≡ (u || t)
    turned true true = refl
    turned true false = refl
    turned false true = refl
    turned false false = refl

-- what the set said of an entry
was-there : (r t : Bool) → r ≡ not t → r ≡ false → t ≡ true
was-there r true e f = refl
was-there r false e f = absurd (true≢false (sym e ∙ f))

was-new : (r t : Bool) → r ≡ not t → r ≡ true → t ≡ false
was-new r true e f = absurd (true≢false (sym f ∙ e))
was-new r false e f = refl

module _ (h : List Event) (among : Op → Bool) (front next old new : List CallId) (n m : ℕ) (t u r : Bool) (c : CallId)
    (was : HasSeen h among front old n t) (more : next ≡ front ++ c ∷ [])
    (now : (q : CallId) → list_any (same_call q) new ≡ cond (same_call c q) true (list_any (same_call q) old))
    (added : r ≡ not (list_any (same_call c) old)) where
  size : length next ≡ length front + 1
  size = ap length more ∙ length-append front (c ∷ [])

  entries : how_many (is_answered_call h among) next ≡ how_many (is_answered_call h among) front + cond (is_answered_call h among c) 1 0
  entries = ap (how_many (is_answered_call h among)) more ∙ how_many-push (is_answered_call h among) front c

  -- one entry more, which stood already
  pub seen-again : r ≡ false → m ≡ n + cond (is_answered_call h among c) 1 0 → u ≡ false → HasSeen h among next new m u
  seen-again stood one twice =
      let stands = sym (was.calls c) ∙ was-there r _ added stood in
      let found = ap (λ l. how_many (is_found h among l) h) more ∙ found-again h among front c stands h in
      record {
        calls = λ q. calls-push front old new c was.calls now q ∙ ap (λ l. stands_in l q) (sym more);
        again = (λ i. found i + one i) ∙ omega (arith, was.again, entries);
        distinct = twice ∙ sym (ap is_distinct more ∙ distinct-again front c stands);
        few = at_most (is_answered_call h among c) one;
      }
    where
      at_most : (b : Bool) → m ≡ n + cond b 1 0 → m ≤ length next
      at_most true e = omega (arith, size, was.few)
      at_most false e = omega (arith, size, was.few)

  -- one entry more, which is new
  pub seen-new : CallsOnce h → r ≡ true → m ≡ n → u ≡ t → HasSeen h among next new m u
  seen-new once fresh same kept =
      let stands = sym (was.calls c) ∙ was-new r _ added fresh in
      let found = ap (λ l. how_many (is_found h among l) h) more ∙ found-new h among front c stands h once in
      record {
        calls = λ q. calls-push front old new c was.calls now q ∙ ap (λ l. stands_in l q) (sym more);
        again = (λ i. found i + same i) ∙ omega (arith, was.again, entries);
        distinct = kept ∙ was.distinct ∙ sym (ap is_distinct more ∙ distinct-new front c stands);
        few = omega (arith, size, was.few, same);
      }
