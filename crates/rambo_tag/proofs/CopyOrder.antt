-- The order of copies is total, so the greater of two has the laws of a join
use Rattle.std.proofs.Common.{◌≡◌, ℕ, Bool, true, false, List, [], ◌∷◌, Option, Some, None, Ordering, refl, sym, ap, ◌∙◌, ◌⊎◌, inl, inr, true≢false, arith}
use Rattle.std.specs.Prelude.{nat_lt, nat_eq, if◌then◌else◌}
use Rattle.std.specs.declared.cmp.Ordering.TheVariants.{Less, Equal, Greater}
use Rattle.std.specs.Ordering.{nat_cmp, ordering_then, ordering_reverse, is_lt, is_gt}
use Rattle.std.specs.Cmp.Lexicographic.{slice_cmp}
use Rattle.std.specs.FinMap.{slice_cmp-IsAntisymmetric, nat_cmp-IsAntisymmetric}
use Rattle.std.proofs.lemmas.Cmp.{nat_list_cmp_total, same_from_slice_cmp, tied_itself, upto}
use Rattle.std.proofs.lemmas.Bool.Decides.{nat_tests}
use Rattle.rambo_tag.specs.declared.version.Version.{Version}
use Rattle.rambo_tag.specs.Tags.{tag_lt, no_tag, tag_of, bytes_lt, value_lt, version_lt, is_newer, greater}
use Rattle.rambo_tag.proofs.TagOrder.{TagLt, TagLe, TagLe-refl, TagLe-no_tag, TagLe-from_false, tag_lt-true}

-- a value as bytes, which are ordered as the values are
abbrev value_text : Option (List ℕ) → List ℕ
value_text None = []
value_text (Some v) = 1 ∷ v

-- a copy as a list of numbers
abbrev text : Version → List ℕ
text v = v.tag.sequence ∷ v.tag.name ∷ value_text v.value

abbrev list_cmp : List ℕ → List ℕ → Ordering
list_cmp = slice_cmp nat_cmp

pub bytes_lt-cmp : (xs ys : List ℕ) → is_lt (list_cmp xs ys) ≡ bytes_lt xs ys
bytes_lt-cmp xs ys =
    same_from_slice_cmp nat_cmp is_lt bytes_lt refl (λ _ _. refl) (λ _ _. refl) (λ x y xs ys o h. grind (arith, nat_tests)) xs ys (list_cmp xs ys) refl

value_lt-cmp : (a b : Option (List ℕ)) → is_lt (list_cmp (value_text a) (value_text b)) ≡ value_lt a b
value_lt-cmp None None = refl
value_lt-cmp None (Some v) = refl
value_lt-cmp (Some u) None = refl
value_lt-cmp (Some u) (Some v) = bytes_lt-cmp u v

-- by two numbers, then by what is left
numbers_then : (m n p q : ℕ) (o : Ordering) (b : Bool) → is_lt o ≡ b
    → is_lt (ordering_then (nat_cmp m p) (ordering_then (nat_cmp n q) o))
    ≡ (if (if nat_lt m p then true else if nat_eq m p then nat_lt n q else false) then true
    else if (if nat_lt p m then true else if nat_eq p m then nat_lt q n else false) then false else b)
numbers_then m n p q o b h = grind (arith, nat_tests)

version_lt-cmp : (a b : Version) → is_lt (list_cmp (text a) (text b)) ≡ version_lt a b
version_lt-cmp a b = numbers_then a.tag.sequence a.tag.name b.tag.sequence b.tag.name _ _ (value_lt-cmp a.value b.value)

-- what a key holds as a list of numbers, where nothing is the least
abbrev held_text : Option Version → List ℕ
held_text None = []
held_text (Some v) = text v

value_text-injective : (a b : Option (List ℕ)) → value_text a ≡ value_text b → a ≡ b
value_text-injective None None e = refl
value_text-injective None (Some v) e = cc
value_text-injective (Some u) None e = cc
value_text-injective (Some u) (Some v) e = cc

text-injective : (a b : Version) → text a ≡ text b → a ≡ b
text-injective a b e =
    let sequences : a.tag.sequence ≡ b.tag.sequence = cc in
    let names : a.tag.name ≡ b.tag.name = cc in
    let values : value_text a.value ≡ value_text b.value = cc in
    λ i. record {
      tag = record { sequence = sequences i; name = names i };
      value = value_text-injective a.value b.value values i;
    }

held_text-injective : (a b : Option Version) → held_text a ≡ held_text b → a ≡ b
held_text-injective None None e = refl
held_text-injective None (Some v) e = cc
held_text-injective (Some u) None e = cc
held_text-injective (Some u) (Some v) e = ap Some (text-injective u v e)

-- the second is the greater
abbrev pub is_below : Option Version → Option Version → Bool
is_below a b = is_lt (list_cmp (held_text a) (held_text b))

pub is_newer-is_below : (a : Option Version) (b : Version) → is_newer a b ≡ is_below a (Some b)
is_newer-is_below None b = refl
is_newer-is_below (Some a) b = sym (version_lt-cmp a b)

not_below-none : (a : Option Version) → is_below a None ≡ false
not_below-none None = refl
not_below-none (Some a) = refl

greater-is_below : (a b : Option Version) → greater a b ≡ (if is_below a b then b else a)
greater-is_below a None = ap (λ t. if t then None else a) (sym (not_below-none a))
greater-is_below a (Some b) = ap (λ t. if t then Some b else a) (is_newer-is_below a b)

flipped : (o p : Ordering) → o ≡ ordering_reverse p → is_lt o ≡ is_gt p
flipped o Less e = ap is_lt e
flipped o Equal e = ap is_lt e
flipped o Greater e = ap is_lt e

below-above : (a b : Option Version) → is_below a b ≡ is_gt (list_cmp (held_text b) (held_text a))
below-above a b = flipped _ _ (nat_list_cmp_total.antisymm (held_text a) (held_text b))

less : (o : Ordering) → is_lt o ≡ true → o ≡ Less
less Less h = refl
less Equal h = absurd (true≢false (sym h))
less Greater h = absurd (true≢false (sym h))

neither : (o : Ordering) → is_lt o ≡ false → is_gt o ≡ false → o ≡ Equal
neither Less h k = absurd (true≢false h)
neither Equal h k = refl
neither Greater h k = absurd (true≢false k)

-- the order is total
pub is_below-irrefl : (a : Option Version) → is_below a a ≡ false
is_below-irrefl a = ap is_lt (tied_itself nat_list_cmp_total (held_text a))

pub is_below-antisymm : (a b : Option Version) → is_below a b ≡ false → is_below b a ≡ false → a ≡ b
is_below-antisymm a b h k =
    held_text-injective a b (slice_cmp-IsAntisymmetric nat_cmp-IsAntisymmetric (held_text a) (held_text b) (neither _ h (sym (below-above b a) ∙ k)))

pub is_below-trans : (a b c : Option Version) → is_below a b ≡ true → is_below b c ≡ true → is_below a c ≡ true
is_below-trans a b c h k = ap is_lt (nat_list_cmp_total.trans (held_text a) (held_text b) (held_text c) (less _ h) (less _ k))

pub not_below-trans : (a b c : Option Version) → is_below a b ≡ false → is_below b c ≡ false → is_below a c ≡ false
not_below-trans a b c h k =
    below-above a c ∙ upto nat_list_cmp_total (held_text c) (held_text b) (held_text a) (sym (below-above b c) ∙ k) (sym (below-above a b) ∙ h)

pub is_below-asymm : (a b : Option Version) → is_below a b ≡ true → is_below b a ≡ false
is_below-asymm a b h =
    below-above b a ∙ ap is_gt (less _ h)

-- the laws of the greater of two
pub greater-idem : (a : Option Version) → greater a a ≡ a
greater-idem a = greater-is_below a a ∙ ap (λ t. if t then a else a) (is_below-irrefl a)

abbrev Cases : Bool → Type 0
Cases t = (t ≡ true) ⊎ (t ≡ false)

cases : (t : Bool) → Cases t
cases true = inl refl
cases false = inr refl

-- where the second is greater it is the one, and else the first
taken : (a b : Option Version) → is_below a b ≡ true → greater a b ≡ b
taken a b h = greater-is_below a b ∙ ap (λ t. if t then b else a) h

kept : (a b : Option Version) → is_below a b ≡ false → greater a b ≡ a
kept a b h = greater-is_below a b ∙ ap (λ t. if t then b else a) h

pub greater-comm : (a b : Option Version) → greater a b ≡ greater b a
greater-comm a b =
    elim (cases (is_below a b)) [
      | inl h ↦ taken a b h ∙ sym (kept b a (is_below-asymm a b h))
      | inr h ↦ elim (cases (is_below b a)) [
        | inl k ↦ kept a b h ∙ sym (taken b a k)
        | inr k ↦ kept a b h ∙ is_below-antisymm a b h k ∙ sym (kept b a k)
      ]
    ]

pub greater-assoc : (a b c : Option Version) → greater (greater a b) c ≡ greater a (greater b c)
greater-assoc a b c =
    elim (cases (is_below a b)) [
      | inl h ↦ ap (λ x. greater x c) (taken a b h) ∙ elim (cases (is_below b c)) [
        | inl k ↦ taken b c k ∙ sym (ap (greater a) (taken b c k) ∙ taken a c (is_below-trans a b c h k))
        | inr k ↦ kept b c k ∙ sym (ap (greater a) (kept b c k) ∙ taken a b h)
      ]
      | inr h ↦ ap (λ x. greater x c) (kept a b h) ∙ elim (cases (is_below b c)) [
        | inl k ↦ sym (ap (greater a) (taken b c k))
        | inr k ↦ kept a c (not_below-trans a b c h k) ∙ sym (ap (greater a) (kept b c k) ∙ kept a b h)
      ]
    ]

pub greater-none_left : (a : Option Version) → greater None a ≡ a
greater-none_left None = refl
greater-none_left (Some a) = refl

-- the greater of two is one of them
pub greater-either : (a b : Option Version) → (greater a b ≡ a) ⊎ (greater a b ≡ b)
greater-either a b = elim (cases (is_below a b)) [ inl h ↦ inr (taken a b h) | inr h ↦ inl (kept a b h) ]

-- and no less than either
pub greater-left : (a b : Option Version) → is_below (greater a b) a ≡ false
greater-left a b =
    elim (cases (is_below a b)) [
      | inl h ↦ ap (λ x. is_below x a) (taken a b h) ∙ is_below-asymm a b h
      | inr h ↦ ap (λ x. is_below x a) (kept a b h) ∙ is_below-irrefl a
    ]

pub greater-right : (a b : Option Version) → is_below (greater a b) b ≡ false
greater-right a b = ap (λ x. is_below x b) (greater-comm a b) ∙ greater-left b a

first_test : (t b : Bool) → (if t then true else b) ≡ false → t ≡ false
first_test true b h = h
first_test false b h = refl

-- a copy that is no less has a tag that is no less
pub TagLe-from_not_below : (a b : Option Version) → is_below a b ≡ false → TagLe (tag_of b) (tag_of a)
TagLe-from_not_below None None h = TagLe-refl no_tag
TagLe-from_not_below (Some a) None h = TagLe-no_tag a.tag
TagLe-from_not_below None (Some b) h = absurd (true≢false h)
TagLe-from_not_below (Some a) (Some b) h = TagLe-from_false a.tag b.tag (first_test (tag_lt a.tag b.tag) _ (sym (version_lt-cmp a b) ∙ h))

pub TagLe-greater_left : (a b : Option Version) → TagLe (tag_of a) (tag_of (greater a b))
TagLe-greater_left a b = TagLe-from_not_below (greater a b) a (greater-left a b)

pub TagLe-greater_right : (a b : Option Version) → TagLe (tag_of b) (tag_of (greater a b))
TagLe-greater_right a b = TagLe-from_not_below (greater a b) b (greater-right a b)

-- by the tags alone
pub is_newer-from_lt : (held : Option Version) (v : Version) → TagLt (tag_of held) v.tag → is_newer held v ≡ true
is_newer-from_lt None v h = refl
is_newer-from_lt (Some u) v h = ap (λ t. if t then true else if tag_lt v.tag u.tag then false else value_lt u.value v.value) (tag_lt-true u.tag v.tag h)
