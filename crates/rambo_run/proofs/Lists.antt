-- Members of lists, and the list of a node's open calls
use Rattle.std.proofs.Common.{◌≡◌, ℕ, zero, suc, ◌⊎◌, nat_eq, List, [], ◌∷◌, ◌++◌, length, map, Some, slice_get, slice_set, refl, sym, ap, ◌∙◌, subst, inl, inr, ⊎_elim, eqb-true}
use Rattle.std.proofs.lemmas.Bool.{eqb-false}
use Rattle.std.specs.List.{remove}
use Rattle.rambo_calls.specs.Calls.{CallState, place_of, find_call}
pub use Rattle.rambo_sequence.proofs.Members.{pick, some_inj, none-some, Member, member_middle, member_stands, stands_member, member_left, member_right, member_cases, set_here, set_there, below_there, there_below}

pub member_more : {A : Type 0} (d c : A) (xs : List A) → Member d (xs ++ c ∷ []) → Member d xs ⊎ (c ≡ d)
member_more d c [] h = elim h [ inl e ↦ inr e | inr b ↦ absurd b ]
member_more d c (x ∷ xs) h = elim h [ inl e ↦ inl (inl e) | inr m ↦ ⊎_elim (λ a. inl (inr a)) inr (member_more d c xs m) ]

pub member_map : {A B : Type 0} (f : A → B) (d : B) (xs : List A) → Member d (map f xs) → (c : A) × Member c xs × (f c ≡ d)
member_map f d [] h = absurd h
member_map f d (x ∷ xs) h = elim h [ inl e ↦ (x, inl refl, e) | inr m ↦ (let r = member_map f d xs m in (r.0, inr r.1, r.2)) ]

pub map_member : {A B : Type 0} (f : A → B) (c : A) (xs : List A) → Member c xs → Member (f c) (map f xs)
map_member f c [] h = absurd h
map_member f c (x ∷ xs) h = elim h [ inl e ↦ inl (ap f e) | inr m ↦ inr (map_member f c xs m) ]

pub member_last : {A : Type 0} (d : A) (xs : List A) → Member d (xs ++ d ∷ [])
member_last d [] = inl refl
member_last d (x ∷ xs) = inr (member_last d xs)

pub member_at : {A : Type 0} (xs : List A) (i : ℕ) (a : A) → slice_get xs i ≡ Some a → Member a xs
member_at [] i a e = absurd (none-some a e)
member_at (x ∷ xs) zero a e = inl (some_inj x a e)
member_at (x ∷ xs) (suc i) a e = inr (member_at xs i a e)

-- of a list with one more item, an old one or the last
pub get_more : {A : Type 0} (xs : List A) (a b : A) (i : ℕ) → slice_get (xs ++ a ∷ []) i ≡ Some b → (slice_get xs i ≡ Some b) ⊎ ((i ≡ length xs) × (a ≡ b))
get_more [] a b zero e = inr (refl, some_inj a b e)
get_more [] a b (suc i) e = absurd (none-some b e)
get_more (x ∷ xs) a b zero e = inl e
get_more (x ∷ xs) a b (suc i) e = ⊎_elim inl (λ r. inr (ap suc r.0, r.1)) (get_more xs a b i e)

-- no two open calls have one number
abbrev pub Single : {Q : Type 0} → List (CallState Q) → Type 0
Single [] = Unit {0}
Single {Q} (c ∷ cs) = ((d : CallState Q) → Member d cs → d.number ≡ c.number → ⊥) × Single cs

pub member_find : {Q : Type 0} (number : ℕ) (cs : List (CallState Q)) (c : CallState Q) → find_call number cs ≡ Some c → Member c cs × (c.number ≡ number)
member_find number [] c e = absurd (none-some c e)
member_find number (d ∷ cs) c e = elim (pick (nat_eq d.number number) zero (suc (place_of number cs))) [
  | inl p ↦ (let k = some_inj d c (sym (ap (slice_get (d ∷ cs)) p.1) ∙ e) in (inl k, ap (λ c. c.number) (sym k) ∙ eqb-true d.number number p.0))
  | inr p ↦ (let r = member_find number cs c (sym (ap (slice_get (d ∷ cs)) p.1) ∙ e) in (inr r.0, r.1))
]

-- a call of the list is found under its number
pub find_member : {Q : Type 0} (cs : List (CallState Q)) (c : CallState Q) → Single cs → Member c cs → find_call c.number cs ≡ Some c
find_member [] c s h = absurd h
find_member (d ∷ cs) c s h = elim (pick (nat_eq d.number c.number) zero (suc (place_of c.number cs))) [
  | inl p ↦ ap (slice_get (d ∷ cs)) p.1 ∙ ap Some (elim h [ inl e ↦ e | inr m ↦ absurd (s.0 c m (sym (eqb-true d.number c.number p.0))) ])
  | inr p ↦ elim h [
    | inl e ↦ absurd (eqb-false d.number c.number p.0 (ap (λ c. c.number) e))
    | inr m ↦ ap (slice_get (d ∷ cs)) p.1 ∙ find_member cs c s.1 m
  ]
]

-- what is put in the place of a call stands in the list
pub put_member : {Q : Type 0} (number : ℕ) (new c : CallState Q) (xs : List (CallState Q)) → Member c xs → c.number ≡ number → Member new (slice_set xs (place_of number xs) new)
put_member number new c [] h e = absurd h
put_member number new c (x ∷ xs) h e = elim (pick (nat_eq x.number number) zero (suc (place_of number xs))) [
  | inl p ↦ subst (λ i. Member new (slice_set (x ∷ xs) i new)) (sym p.1) (inl refl)
  | inr p ↦ subst (λ i. Member new (slice_set (x ∷ xs) i new)) (sym p.1)
      (inr (put_member number new c xs (elim h [ inl q ↦ absurd (eqb-false x.number number p.0 (ap (λ c. c.number) q ∙ e)) | inr m ↦ m ]) e))
]

-- an old call of another number, or the one that was put there
pub member_put : {Q : Type 0} (number : ℕ) (new d : CallState Q) (xs : List (CallState Q)) → Single xs → Member d (slice_set xs (place_of number xs) new)
    → (Member d xs × (d.number ≡ number → ⊥)) ⊎ (new ≡ d)
member_put number new d [] s h = absurd h
member_put number new d (x ∷ xs) s h = elim (pick (nat_eq x.number number) zero (suc (place_of number xs))) [
  | inl p ↦ elim (subst (λ i. Member d (slice_set (x ∷ xs) i new)) p.1 h) [
    | inl e ↦ inr e
    | inr m ↦ inl (inr m, λ q. s.0 d m (q ∙ sym (eqb-true x.number number p.0)))
  ]
  | inr p ↦ elim (subst (λ i. Member d (slice_set (x ∷ xs) i new)) p.1 h) [
    | inl e ↦ inl (inl e, λ q. eqb-false x.number number p.0 (ap (λ c. c.number) e ∙ q))
    | inr m ↦ ⊎_elim (λ r. inl (inr r.0, r.1)) inr (member_put number new d xs s.1 m)
  ]
]

pub single_put : {Q : Type 0} (number : ℕ) (new : CallState Q) (xs : List (CallState Q)) → new.number ≡ number → Single xs → Single (slice_set xs (place_of number xs) new)
single_put number new [] n s = tt
single_put number new (x ∷ xs) n s = elim (pick (nat_eq x.number number) zero (suc (place_of number xs))) [
  | inl p ↦ subst (λ i. Single (slice_set (x ∷ xs) i new)) (sym p.1) (λ d m q. s.0 d m (q ∙ n ∙ sym (eqb-true x.number number p.0)), s.1)
  | inr p ↦ subst (λ i. Single (slice_set (x ∷ xs) i new)) (sym p.1)
      (λ d m q. ⊎_elim (λ r. s.0 d r.0 q) (λ e. eqb-false x.number number p.0 (sym q ∙ ap (λ c. c.number) (sym e) ∙ n)) (member_put number new d xs s.1 m), single_put number new xs n s.1)
]

-- a call that is left when one is taken out
pub member_out : {Q : Type 0} (number : ℕ) (d : CallState Q) (xs : List (CallState Q)) → Single xs → Member d (remove xs (place_of number xs)) → Member d xs × (d.number ≡ number → ⊥)
member_out number d [] s h = absurd h
member_out number d (x ∷ xs) s h = elim (pick (nat_eq x.number number) zero (suc (place_of number xs))) [
  | inl p ↦ (let m : Member d xs = subst (λ i. Member d (remove (x ∷ xs) i)) p.1 h in (inr m, λ q. s.0 d m (q ∙ sym (eqb-true x.number number p.0))))
  | inr p ↦ elim (subst (λ i. Member d (remove (x ∷ xs) i)) p.1 h) [
    | inl e ↦ (inl e, λ q. eqb-false x.number number p.0 (ap (λ c. c.number) e ∙ q))
    | inr m ↦ (let r = member_out number d xs s.1 m in (inr r.0, r.1))
  ]
]

pub single_out : {Q : Type 0} (number : ℕ) (xs : List (CallState Q)) → Single xs → Single (remove xs (place_of number xs))
single_out number [] s = tt
single_out number (x ∷ xs) s = elim (pick (nat_eq x.number number) zero (suc (place_of number xs))) [
  | inl p ↦ subst (λ i. Single (remove (x ∷ xs) i)) (sym p.1) s.1
  | inr p ↦ subst (λ i. Single (remove (x ∷ xs) i)) (sym p.1) (λ d m q. s.0 d (member_out number d xs s.1 m).0 q, single_out number xs s.1)
]

pub single_map : {Q : Type 0} (f : CallState Q → CallState Q) → ((c : CallState Q) → (f c).number ≡ c.number) → (xs : List (CallState Q)) → Single xs → Single (map f xs)
single_map f h [] s = tt
single_map f h (x ∷ xs) s = (λ d m q. let r = member_map f d xs m in s.0 r.0 r.1 (sym (h r.0) ∙ ap (λ c. c.number) r.2 ∙ q ∙ h x), single_map f h xs s.1)

pub single_more : {Q : Type 0} (c : CallState Q) (xs : List (CallState Q)) → Single xs → ((d : CallState Q) → Member d xs → d.number ≡ c.number → ⊥) → Single (xs ++ c ∷ [])
single_more c [] s h = (λ d m. absurd m, tt)
single_more c (x ∷ xs) s h = (λ d m q. ⊎_elim (λ o. s.0 d o q) (λ e. h x (inl refl) (sym q ∙ ap (λ c. c.number) (sym e))) (member_more d c xs m), single_more c xs s.1 (λ d m. h d (inr m)))
