-- Orders with gets in their places, entry by entry
use Rattle.std.proofs.Common.{◌≡◌, ◌≢◌, ℕ, Bool, true, false, cond, List, [], ◌∷◌, ◌++◌, filter, Option, None, Some, append_assoc, refl, sym, ap, ◌∙◌, subst, inl, inr}
use Rattle.std.specs.Str.{bytes_eq}
use Rattle.std.proofs.lemmas.Slice.Eq.{bytes_eq-Decides}
use Rattle.rambo_history.specs.declared.operation.Op.{Op}
use Rattle.rambo_history.specs.declared.operation.Op.TheVariants as op
use Rattle.rambo_history.specs.declared.event.CallId.{CallId}
use Rattle.rambo_history.specs.declared.event.Event.{Event}
use Rattle.rambo_history.specs.Histories.{call_in, answer_in}
use Rattle.rambo_history.specs.Proper.{Stands}
use Rattle.rambo_history.proofs.Splits.{stands-here, stands-later, stands-nil, stands-cases}
use Rattle.rambo_atomic.specs.Tests.{tells}
use Rattle.rambo_placing.specs.Laws.{GetsStandBehind, OthersKeepTheirOrder}
use Rattle.rambo_placing.specs.Placings.{gets_of, in_place, in_places, readers}

bytes_same : (b : List ℕ) → bytes_eq b b ≡ true
bytes_same b = (bytes_eq-Decides b b).1 refl

-- an item that passes a test is left by a filter
stands-filter : {X : Type 0} (p : X → Bool) (xs : List X) (x : X) → p x ≡ true → Stands xs x → Stands (filter p xs) x
stands-filter p [] x passes s = absurd (stands-nil x s)
stands-filter {X} p (y ∷ ys) x passes s =
    elim (stands-cases y x ys s) [
      | inl same ↦ subst (λ t. Stands (cond t (y ∷ filter p ys) (filter p ys)) x) (sym (ap p same ∙ passes))
          (subst (Stands (y ∷ filter p ys)) same (stands-here y (filter p ys)))
      | inr rest ↦ by (p y) (stands-filter p ys x passes rest)
    ]
  where
    by : (t : Bool) → Stands (filter p ys) x → Stands (cond t (y ∷ filter p ys) (filter p ys)) x
    by true s = stands-later y x (filter p ys) s
    by false s = s

in_places-append : (h : List Event) (key : List ℕ) (cs ds : List CallId) → in_places h key (cs ++ ds) ≡ in_places h key cs ++ in_places h key ds
in_places-append h key [] ds = refl
in_places-append h key (c ∷ cs) ds =
    ap (λ l. in_place h key c (call_in h c) ++ l) (in_places-append h key cs ds)
    ∙ sym (append_assoc (in_place h key c (call_in h c)) (in_places h key cs) (in_places h key ds))

-- an entry that stays, with what stands behind it in its place
split-at : (h : List Event) (key : List ℕ) (start front back : List CallId) (c : CallId) (more : List CallId) → in_place h key c (call_in h c) ≡ c ∷ more
    → start ++ in_places h key (front ++ c ∷ back) ≡ (start ++ in_places h key front) ++ c ∷ (more ++ in_places h key back)
split-at h key start front back c more is =
    ap (λ l. start ++ l) (in_places-append h key front (c ∷ back) ∙ ap (λ l. in_places h key front ++ (l ++ in_places h key back)) is)
    ∙ sym (append_assoc start (in_places h key front) (c ∷ (more ++ in_places h key back)))

set-place : (h : List Event) (key value : List ℕ) (c : CallId) → call_in h c ≡ Some (op.Set key value) → in_place h key c (call_in h c) ≡ c ∷ readers h key (Some value)
set-place h key value c is = ap (in_place h key c) is ∙ ap (λ t. cond t (c ∷ readers h key (Some value)) (c ∷ [])) (bytes_same key)

stands-front : {X : Type 0} (xs ys : List X) (y : X) → Stands xs y → Stands (xs ++ ys) y
stands-front xs ys y s = (s.0, s.1 ++ ys, ap (λ l. l ++ ys) s.2 ∙ append_assoc s.0 (y ∷ s.1) ys)

pub stands-behind : GetsStandBehind
stands-behind h key value front back c g is among told =
    let more = readers h key (Some value) in
    let tells-value : tells (Some value) (answer_in h g) ≡ true = ap (tells (Some value)) told ∙ bytes_same value in (
      readers h key None ++ in_places h key front,
      more ++ in_places h key back,
      split-at h key (readers h key None) front back c more (set-place h key value c is),
      stands-front more (in_places h key back) g (stands-filter (λ d. tells (Some value) (answer_in h d)) (gets_of key h) g tells-value among),
    )

other-place : (h : List Event) (key : List ℕ) (c : CallId) (o : Option Op) → o ≢ Some (op.Get key) → (more : List CallId) × (in_place h key c o ≡ c ∷ more)
other-place h key c None other = ([], refl)
other-place h key c (Some (op.Set k value)) other = by (bytes_eq k key)
  where
    by : (t : Bool) → (more : List CallId) × (cond t (c ∷ readers h key (Some value)) (c ∷ []) ≡ c ∷ more)
    by true = (readers h key (Some value), refl)
    by false = ([], refl)
other-place h key c (Some (op.Get k)) other = by (bytes_eq k key) refl
  where
    by : (t : Bool) → bytes_eq k key ≡ t → (more : List CallId) × (cond t [] (c ∷ []) ≡ c ∷ more)
    by true same = absurd (other (ap (λ q. Some (op.Get q)) ((bytes_eq-Decides k key).0 same)))
    by false same = ([], refl)

pub keep-order : OthersKeepTheirOrder
keep-order h key front between back c d other-c other-d =
    let of-c = other-place h key c (call_in h c) other-c in
    let of-d = other-place h key d (call_in h d) other-d in (
      readers h key None ++ in_places h key front,
      of-c.0 ++ in_places h key between,
      of-d.0 ++ in_places h key back,
      split-at h key (readers h key None) front (between ++ d ∷ back) c of-c.0 of-c.1
          ∙ ap (λ l. (readers h key None ++ in_places h key front) ++ c ∷ l) (split-at h key of-c.0 between back d of-d.0 of-d.1),
    )
