-- What a push keeps
use Rattle.std.proofs.Common.{◌≡◌, ℕ, suc, Bool, true, false, cond, ◌&&◌, List, [], ◌∷◌, ◌++◌, length, Option, None, Some, is_some, nat_eq, refl, sym, ap, ◌∙◌, arith}
use Rattle.std.proofs.lemmas.Bool.Decides.{nat_tests}
use Rattle.std.specs.List.{slice_get}
use Rattle.std.specs.Option.{option_map, IsSomeAnd}
use Rattle.rambo_history.specs.declared.operation.Op.{Op}
use Rattle.rambo_history.specs.declared.operation.Answer.{Answer}
use Rattle.rambo_history.specs.declared.event.CallId.{CallId}
use Rattle.rambo_history.specs.declared.event.Event.{Event}
use Rattle.rambo_history.specs.declared.event.Event.TheVariants as event
use Rattle.rambo_history.specs.declared.fault.HistoryFault.TheVariants as fault
use Rattle.rambo_history.specs.Calls.{same_call, fits}
use Rattle.rambo_history.specs.Faults.{fault_of, answer_fault}
use Rattle.rambo_history.specs.Forms.{IsWellFormed}
use Rattle.rambo_history.specs.Histories.{call_in, answer_in, is_call, is_answer, called_at, answered_at}
use Rattle.rambo_history.specs.Looks.{op_of, answer_of}
use Rattle.rambo_history.specs.declared.spot.Spot.{Spot}
use Rattle.rambo_history.specs.Places.{Places, PlacesState, places_in, places_of, spot_of, called_spot, answered_spot, FitsSpots, TakesEvent, IsHistory}
use Rattle.rambo_history.specs.Proper.{EverySplit}
use Rattle.rambo_history.proofs.LookUps.{position-cons, position-push, either, call_in-append, event_at, call_in-at, answer_in-at}
use Rattle.rambo_history.proofs.Splits.{splits-nil, splits-cons, splits-head, splits-tail}
use Rattle.std.proofs.lemmas.Bool.{eqb-true, eq-eqb}

both : (a b : Bool) → (a && b) ≡ true → (a ≡ true) × (b ≡ true)
both true b e = (refl, e)
both false b e = cc

pub same_call-path : (c d : CallId) → same_call c d ≡ true → c ≡ d
same_call-path c d e =
    let p = both _ _ e in
    let name = eqb-true c.name d.name p.0 in
    let number = eqb-true c.number d.number p.1 in
    λ i. record { name = name i; number = number i }

pub same_call-refl : (c : CallId) → same_call c c ≡ true
same_call-refl c = λ i. eq-eqb c.name c.name refl i && eq-eqb c.number c.number refl i

-- a call stands somewhere where the history has it
pub called_at-none : (h : List Event) (c : CallId) → call_in h c ≡ None → called_at h c ≡ None
called_at-none [] c e = refl
called_at-none (event.Call d op ∷ es) c e =
    position-cons (is_call c) (event.Call d op) es ∙ step (called_at-none es c) (same_call d c) e
  where
    step : (call_in es c ≡ None → called_at es c ≡ None) → (t : Bool) → cond t (Some op) (call_in es c) ≡ None → cond t (Some 0) (option_map suc (called_at es c)) ≡ None
    step rest true e = cc
    step rest false e = ap (option_map suc) (rest e)
called_at-none (event.Answer d a ∷ es) c e =
    position-cons (is_call c) (event.Answer d a) es ∙ ap (option_map suc) (called_at-none es c e)

pub answered_at-none : (h : List Event) (c : CallId) → answer_in h c ≡ None → answered_at h c ≡ None
answered_at-none [] c e = refl
answered_at-none (event.Answer d a ∷ es) c e =
    position-cons (is_answer c) (event.Answer d a) es ∙ step (answered_at-none es c) (same_call d c) e
  where
    step : (answer_in es c ≡ None → answered_at es c ≡ None) → (t : Bool) → cond t (Some a) (answer_in es c) ≡ None → cond t (Some 0) (option_map suc (answered_at es c)) ≡ None
    step rest true e = cc
    step rest false e = ap (option_map suc) (rest e)
answered_at-none (event.Call d op ∷ es) c e =
    position-cons (is_answer c) (event.Call d op) es ∙ ap (option_map suc) (answered_at-none es c e)

-- where a call's first answer stands
answer_split : (h : List Event) (c : CallId) (a : Answer) → answer_in h c ≡ Some a
    → (front : List Event) × (back : List Event) × (h ≡ front ++ event.Answer c a ∷ back)
answer_split [] c a e = cc
answer_split (event.Call d op ∷ es) c a e =
    let s = answer_split es c a e in (event.Call d op ∷ s.0, s.1, ap (λ l. event.Call d op ∷ l) s.2)
answer_split (event.Answer d b ∷ es) c a e =
    step (answer_split es c a) (same_call d c) (same_call-path d c) e
  where
    step : (answer_in es c ≡ Some a → (front : List Event) × (back : List Event) × (es ≡ front ++ event.Answer c a ∷ back))
        → (t : Bool) → (t ≡ true → d ≡ c) → cond t (Some b) (answer_in es c) ≡ Some a
        → (front : List Event) × (back : List Event) × (event.Answer d b ∷ es ≡ front ++ event.Answer c a ∷ back)
    step rest true same e = let p = same refl in let q : b ≡ a = cc in ([], es, λ i. event.Answer (p i) (q i) ∷ es)
    step rest false same e = let s = rest e in (event.Answer d b ∷ s.0, s.1, ap (λ l. event.Answer d b ∷ l) s.2)

has_some : {X : Type 0} (P : X → Type 0) (o p : Option X) → IsSomeAnd o P → either o p ≡ None → ⊥
has_some P None p h e = h
has_some P (Some x) p h e = cc

-- no answer stands without its call
pub unanswered : (h : List Event) → IsWellFormed h → (c : CallId) → call_in h c ≡ None → answer_in h c ≡ None
unanswered h well c e =
    elim (answer_in h c) as (λ o. answer_in h c ≡ o → o ≡ None) [
      | None ↦ λ _. refl
      | Some a ↦ λ is.
          let s = answer_split h c a is in
          let stood = well.answers_open s.0 (event.Answer c a) s.1 s.2 c a refl in
          absurd (has_some (λ op. fits op a ≡ true) (call_in s.0 c) (call_in (event.Answer c a ∷ s.1) c) stood.0
          (sym (call_in-append s.0 (event.Answer c a ∷ s.1) c) ∙ ap (λ l. call_in l c) (sym s.2) ∙ e))
    ] refl

pub splits-push : {X : Type 0} (P : List X → X → Type 0) (xs : List X) (y : X)
    → EverySplit (λ front x back. P front x) xs → P xs y → EverySplit (λ front x back. P front x) (xs ++ y ∷ [])
splits-push P [] y all last = splits-cons (λ front x back. P front x) y [] last (splits-nil (λ front x back. P (y ∷ front) x))
splits-push P (x ∷ xs) y all last =
    splits-cons (λ front z back. P front z) x (xs ++ y ∷ []) (splits-head (λ front z back. P front z) x xs all)
    (splits-push (λ front z. P (x ∷ front) z) xs y (splits-tail (λ front z back. P front z) x xs all) last)

call_fine : (o : Option Op) → cond (is_some o) (Some fault.CalledTwice) None ≡ None → o ≡ None
call_fine None e = refl
call_fine (Some op) e = cc

answer_fine : (o : Option Op) (p : Option Answer) (a : Answer) → answer_fault o p a ≡ None → IsSomeAnd o (λ op. fits op a ≡ true) × (p ≡ None)
answer_fine None p a e = cc
answer_fine (Some op) (Some b) a e = cc
answer_fine (Some op) None a e = (kind (fits op a) e, refl)
  where
    kind : (t : Bool) → cond t None (Some fault.WrongKind) ≡ None → t ≡ true
    kind true e = refl
    kind false e = cc

pub well_formed-push : (h : List Event) (e : Event) → IsWellFormed h → fault_of h e ≡ None → IsWellFormed (h ++ e ∷ [])
well_formed-push h e well fine = record {
  calls_once = splits-push (λ front x. (c : CallId) (op : Op) → x ≡ event.Call c op → call_in front c ≡ None) h e well.calls_once
      (λ c op is. call_fine (call_in h c) (ap (fault_of h) (sym is) ∙ fine));
  answers_open = splits-push (λ front x. (c : CallId) (a : Answer) → x ≡ event.Answer c a → IsSomeAnd (call_in front c) (λ op. fits op a ≡ true) × (answer_in front c ≡ None)) h e well.answers_open
      (λ c a is. answer_fine (call_in h c) (answer_in h c) a (ap (fault_of h) (sym is) ∙ fine));
}

-- where a call and its answer stand, after one event more
abbrev placed : Option ℕ → Option ℕ → Option Places
placed o p = option_map (λ n. record { called = n; answered = p }) o

-- what is known of a call, once its answer stands at place n
abbrev with_answer : ℕ → Option Places → Option Places
with_answer n o = option_map (λ p. record { called = p.called; answered = Some n }) o

call_placed : (t : Bool) (o p : Option ℕ) (n : ℕ) → (t ≡ true → (o ≡ None) × (p ≡ None))
    → placed (either o (cond t (Some n) None)) (either p (cond false (Some n) None)) ≡ cond t (Some (record { called = n; answered = None })) (placed o p)
call_placed true o p n new = let e = new refl in rw (e.0, e.1) refl
call_placed false None p n new = refl
call_placed false (Some m) None n new = refl
call_placed false (Some m) (Some k) n new = refl

answer_placed : (t : Bool) (o p : Option ℕ) (n : ℕ) → (t ≡ true → p ≡ None)
    → placed (either o (cond false (Some n) None)) (either p (cond t (Some n) None)) ≡ cond t (with_answer n (placed o p)) (placed o p)
answer_placed true None p n new = refl
answer_placed true (Some m) p n new = let e = new refl in rw e refl
answer_placed false None p n new = refl
answer_placed false (Some m) None n new = refl
answer_placed false (Some m) (Some k) n new = refl

places_in-push : (h : List Event) (e : Event) (q : CallId)
    → places_in (h ++ e ∷ []) q ≡ placed (either (called_at h q) (cond (is_call q e) (Some (length h)) None)) (either (answered_at h q) (cond (is_answer q e) (Some (length h)) None))
places_in-push h e q = λ i. placed (position-push (is_call q) h e i) (position-push (is_answer q) h e i)

-- an answer's spot, at a place that isn't the first
answered_places : (n : ℕ) (o : Option Spot) → nat_eq n 0 ≡ false
    → option_map places_of (option_map (answered_spot n) o) ≡ with_answer n (option_map places_of o)
answered_places n None later = refl
answered_places n (Some s) later = rw later refl

-- a history that has a call has an event
has_event : (P : Op → Type 0) (h : List Event) (c : CallId) → IsSomeAnd (call_in h c) P → nat_eq (length h) 0 ≡ false
has_event P [] c has = absurd has
has_event P (e ∷ es) c has = grind (arith, nat_tests)

pub indexed-push : (h : List Event) (e : Event) (old new : PlacesState)
    → IsHistory h old → fault_of h e ≡ None → TakesEvent e (length h) old new → IsHistory (h ++ e ∷ []) new
indexed-push h (event.Call c op) old new all fine taken = record {
  indexed = λ q. ap (option_map places_of) (taken q)
      ∙ placed_call (same_call c q) (spot_of old q)
      ∙ ap (cond (same_call c q) (Some (record { called = length h; answered = None }))) (all.indexed q)
      ∙ sym (places_in-push h (event.Call c op) q
      ∙ call_placed (same_call c q) (called_at h q) (answered_at h q) (length h)
      (λ same. let none = ap (call_in h) (sym (same_call-path c q same)) ∙ call_fine (call_in h c) fine in
      (called_at-none h q none, answered_at-none h q (unanswered h all.well_formed q none))));
  well_formed = well_formed-push h (event.Call c op) all.well_formed fine;
}
  where
    placed_call : (t : Bool) (o : Option Spot)
        → option_map places_of (cond t (Some (called_spot (length h))) o) ≡ cond t (Some (record { called = length h; answered = None })) (option_map places_of o)
    placed_call true o = refl
    placed_call false o = refl
indexed-push h (event.Answer c a) old new all fine taken = record {
  indexed = λ q. ap (option_map places_of) (taken q)
      ∙ placed_answer (same_call c q) (spot_of old q)
      ∙ (λ i. cond (same_call c q) (with_answer (length h) (all.indexed c i)) (all.indexed q i))
      ∙ moved q
      ∙ sym (places_in-push h (event.Answer c a) q
      ∙ answer_placed (same_call c q) (called_at h q) (answered_at h q) (length h)
      (λ same. answered_at-none h q (ap (answer_in h) (sym (same_call-path c q same)) ∙ (answer_fine (call_in h c) (answer_in h c) a fine).1)));
  well_formed = well_formed-push h (event.Answer c a) all.well_formed fine;
}
  where
    placed_answer : (t : Bool) (o : Option Spot)
        → option_map places_of (cond t (option_map (answered_spot (length h)) (spot_of old c)) o) ≡ cond t (with_answer (length h) (option_map places_of (spot_of old c))) (option_map places_of o)
    placed_answer true o = answered_places (length h) (spot_of old c) (has_event (λ op. fits op a ≡ true) h c (answer_fine (call_in h c) (answer_in h c) a fine).0)
    placed_answer false o = refl

    moved : (q : CallId) → cond (same_call c q) (with_answer (length h) (places_in h c)) (places_in h q) ≡ cond (same_call c q) (with_answer (length h) (places_in h q)) (places_in h q)
    moved q = elim (same_call c q) as (λ t. (t ≡ true → c ≡ q) → cond t (with_answer (length h) (places_in h c)) (places_in h q) ≡ cond t (with_answer (length h) (places_in h q)) (places_in h q)) [
      | true ↦ λ same. ap (λ x. with_answer (length h) (places_in h x)) (same refl)
      | false ↦ λ same. refl
    ] (same_call-path c q)

-- what can stand at the end of a history has the spots for it
pub fits-spots : (h : List Event) (e : Event) (s : PlacesState) → IsHistory h s → fault_of h e ≡ None → FitsSpots e s
fits-spots h (event.Call c op) s all fine = no_spot (spot_of s c) (all.indexed c ∙ ap (λ o. placed o (answered_at h c)) (called_at-none h c (call_fine (call_in h c) fine)))
  where
    no_spot : (o : Option Spot) → option_map places_of o ≡ None → o ≡ None
    no_spot None e = refl
    no_spot (Some x) e = cc
fits-spots h (event.Answer c a) s all fine = tt

-- what the index says of a call
pub called_at-place : (h : List Event) (c : CallId) (p : Places) → Some p ≡ places_in h c → called_at h c ≡ Some p.called
called_at-place h c p e = step (called_at h c) (answered_at h c) e
  where
    step : (o q : Option ℕ) → Some p ≡ placed o q → o ≡ Some p.called
    step None q is = cc
    step (Some n) q is = let same : record { called = n; answered = q } ≡ p = cc in ap (λ x. Some x.called) same

pub uncalled : (h : List Event) (c : CallId) → None ≡ places_in h c → called_at h c ≡ None
uncalled h c e = step (called_at h c) (answered_at h c) e
  where
    step : (o q : Option ℕ) → None ≡ placed o q → o ≡ None
    step None q is = refl
    step (Some n) q is = cc

pub uncalled-unanswered : (h : List Event) → IsWellFormed h → (c : CallId) → None ≡ places_in h c → answered_at h c ≡ None
uncalled-unanswered h well c e =
    answered_at-none h c (unanswered h well c (call_in-at h c ∙ ap (λ o. op_of (event_at h o)) (uncalled h c e)))

pub call_in-place : (h : List Event) (c : CallId) (p : Places) → Some p ≡ places_in h c → call_in h c ≡ op_of (slice_get h p.called)
call_in-place h c p e = call_in-at h c ∙ ap (λ o. op_of (event_at h o)) (called_at-place h c p e)

pub call_in-no_place : (h : List Event) (c : CallId) → None ≡ places_in h c → call_in h c ≡ None
call_in-no_place h c e = call_in-at h c ∙ ap (λ o. op_of (event_at h o)) (uncalled h c e)

pub answer_in-place : (h : List Event) (c : CallId) (o : Option ℕ) → o ≡ answered_at h c → answer_in h c ≡ answer_of (event_at h o)
answer_in-place h c o e = answer_in-at h c ∙ ap (λ q. answer_of (event_at h q)) (sym e)

pub answered_at-place : (h : List Event) (c : CallId) (p : Places) → Some p ≡ places_in h c → answered_at h c ≡ p.answered
answered_at-place h c p e = step (called_at h c) (answered_at h c) e
  where
    step : (o q : Option ℕ) → Some p ≡ placed o q → q ≡ p.answered
    step None q is = cc
    step (Some n) q is = let same : record { called = n; answered = q } ≡ p = cc in ap (λ x. x.answered) same
