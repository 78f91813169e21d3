-- Look-ups in joined copies, and the laws of joining
use Rattle.std.proofs.Common.{◌≡◌, ◌≢◌, ℕ, Bool, true, false, cond, ◌&&◌, List, [], ◌∷◌, Some, None, Ordering, refl, sym, ap, ◌∙◌, subst, T}
use Rattle.std.specs.Prelude.{if◌then◌else◌}
use Rattle.std.specs.declared.cmp.Ordering.TheVariants.{Less, Equal, Greater}
use Rattle.std.specs.Ordering.{is_lt, is_eq}
use Rattle.std.specs.FinMap.{get, insert, empty, entries, find, is_sorted, entries_sorted, get-entries, get-insert, get-empty, same_map, slice_cmp-IsAntisymmetric, nat_cmp-IsAntisymmetric}
use Rattle.std.specs.FinMap.Entries.{below_all}
use Rattle.std.proofs.lemmas.Cmp.{nat_list_cmp_total}
use Rattle.rambo_tag.specs.declared.version.Version.{Version}
use Rattle.rambo_tag.specs.Tags.{is_newer, greater, tag_of}
use Rattle.rambo_tag.specs.Copies.{Copies, with_newer, with_all, joined}
use Rattle.rambo_tag.proofs.TagOrder.{TagLe, TagLe-refl}
use Rattle.rambo_tag.proofs.CopyOrder.{is_below, greater-idem, greater-comm, greater-assoc, greater-left, TagLe-greater_left, TagLe-greater_right}
use Rattle.rambo_tag.proofs.Keys.{key_cmp, same_key, same_key-itself, same_key-true, same_key-false}

-- maps with the same look-ups are equal
pub same_copies : (a b : Copies) → ((key : List ℕ) → get a key ≡ get b key) → a ≡ b
same_copies a b h = same_map nat_list_cmp_total (slice_cmp-IsAntisymmetric nat_cmp-IsAntisymmetric) a b h

-- the look-up after a copy was put in a key's place
pub get-put : (a : Copies) (key : List ℕ) (v : Version) (q : List ℕ) → get (insert a key v) q ≡ cond (same_key q key) (Some v) (get a q)
get-put a key v q = get-insert nat_list_cmp_total a key v q

pub get-put_same : (a : Copies) (key : List ℕ) (v : Version) → get (insert a key v) key ≡ Some v
get-put_same a key v = get-put a key v key ∙ ap (λ t. cond t (Some v) (get a key)) (same_key-itself key)

-- the look-up after a copy took a key's place where it is newer
put_if : (t : Bool) (a : Copies) (key : List ℕ) (v : Version) (q : List ℕ)
    → get (if t then insert a key v else a) q ≡ cond (same_key q key) (if t then Some v else get a q) (get a q)
put_if true a key v q = get-put a key v q
put_if false a key v q = elim (same_key q key) as (λ s. get a q ≡ cond s (get a q) (get a q)) [ true ↦ refl | false ↦ refl ]

pub get-with_newer : (a : Copies) (key : List ℕ) (v : Version) (q : List ℕ)
    → get (with_newer a key v) q ≡ cond (same_key q key) (greater (get a q) (Some v)) (get a q)
get-with_newer a key v q =
    put_if (is_newer (get a key) v) a key v q
    ∙ elim (same_key q key) as (λ s. same_key q key ≡ s → cond s (if is_newer (get a key) v then Some v else get a q) (get a q) ≡ cond s (greater (get a q) (Some v)) (get a q)) [
      | true ↦ λ h. ap (λ k. if is_newer (get a k) v then Some v else get a q) (sym (same_key-true q key h))
      | false ↦ λ h. refl
    ] refl

pub get-with_newer_same : (a : Copies) (key : List ℕ) (v : Version) → get (with_newer a key v) key ≡ greater (get a key) (Some v)
get-with_newer_same a key v = get-with_newer a key v key ∙ ap (λ t. cond t (greater (get a key) (Some v)) (get a key)) (same_key-itself key)

pub get-with_newer_other : (a : Copies) (key : List ℕ) (v : Version) (q : List ℕ) → q ≢ key → get (with_newer a key v) q ≡ get a q
get-with_newer_other a key v q apart =
    get-with_newer a key v q ∙ ap (λ t. cond t (greater (get a q) (Some v)) (get a q)) (same_key-false q key apart)

pub first : (a b : Bool) → T (a && b) → T a
first true b h = tt
first false b h = h

pub second : (a b : Bool) → T (a && b) → T b
second true b h = h
second false b h = absurd h

not_tied : (o : Ordering) → T (is_lt o) → is_eq o ≡ false
not_tied Less h = refl
not_tied Equal h = absurd h
not_tied Greater h = refl

-- a key below all of a list isn't in it
pub below_none : (key : List ℕ) (es : List (List ℕ × Version)) → T (below_all key_cmp key es) → find key_cmp key es ≡ None
below_none key [] h = refl
below_none key (e ∷ es) h =
    ap (λ t. cond t (Some e.1) (find key_cmp key es)) (not_tied (key_cmp key e.0) (first _ _ h)) ∙ below_none key es (second _ _ h)

get-with_all : (es : List (List ℕ × Version)) (a : Copies) (q : List ℕ) → T (is_sorted key_cmp es)
    → get (with_all a es) q ≡ greater (get a q) (find key_cmp q es)
get-with_all [] a q h = refl
get-with_all (e ∷ es) a q h =
    get-with_all es (with_newer a e.0 e.1) q (second _ _ h)
    ∙ ap (λ x. greater x (find key_cmp q es)) (get-with_newer a e.0 e.1 q)
    ∙ elim (same_key q e.0) as (λ s. same_key q e.0 ≡ s
    → greater (cond s (greater (get a q) (Some e.1)) (get a q)) (find key_cmp q es) ≡ greater (get a q) (cond s (Some e.1) (find key_cmp q es))) [
      | true ↦ λ tie. ap (greater (greater (get a q) (Some e.1))) (ap (λ k. find key_cmp k es) (same_key-true q e.0 tie) ∙ below_none e.0 es (first _ _ h))
      | false ↦ λ _. refl
    ] refl

-- a look-up in joined copies is the greater of the look-ups
pub get-joined : (a b : Copies) (key : List ℕ) → get (joined a b) key ≡ greater (get a key) (get b key)
unfolding joined
get-joined a b key = get-with_all (entries b) a key (entries_sorted b) ∙ ap (greater (get a key)) (sym (get-entries b key))

pub joined-idem : (a : Copies) → joined a a ≡ a
joined-idem a = same_copies _ _ (λ q. get-joined a a q ∙ greater-idem (get a q))

pub joined-comm : (a b : Copies) → joined a b ≡ joined b a
joined-comm a b = same_copies _ _ (λ q. get-joined a b q ∙ greater-comm (get a q) (get b q) ∙ sym (get-joined b a q))

pub joined-assoc : (a b c : Copies) → joined (joined a b) c ≡ joined a (joined b c)
joined-assoc a b c =
    same_copies _ _
    (λ q. get-joined (joined a b) c q ∙ ap (λ x. greater x (get c q)) (get-joined a b q)
    ∙ greater-assoc (get a q) (get b q) (get c q)
    ∙ sym (get-joined a (joined b c) q ∙ ap (greater (get a q)) (get-joined b c q)))

pub joined-empty : (a : Copies) → joined a empty ≡ a
joined-empty a = same_copies _ _ (λ q. get-joined a empty q ∙ ap (greater (get a q)) (get-empty key_cmp q))

pub joined-empty_left : (a : Copies) → joined empty a ≡ a
joined-empty_left a = joined-comm empty a ∙ joined-empty a

-- no copy is lowered
pub joined-not_below : (a b : Copies) (key : List ℕ) → is_below (get (joined a b) key) (get a key) ≡ false
joined-not_below a b key = ap (λ x. is_below x (get a key)) (get-joined a b key) ∙ greater-left (get a key) (get b key)

-- nor a tag
pub TagLe-joined_left : (a b : Copies) (key : List ℕ) → TagLe (tag_of (get a key)) (tag_of (get (joined a b) key))
TagLe-joined_left a b key = subst (λ x. TagLe (tag_of (get a key)) (tag_of x)) (sym (get-joined a b key)) (TagLe-greater_left (get a key) (get b key))

pub TagLe-joined_right : (a b : Copies) (key : List ℕ) → TagLe (tag_of (get b key)) (tag_of (get (joined a b) key))
TagLe-joined_right a b key = subst (λ x. TagLe (tag_of (get b key)) (tag_of x)) (sym (get-joined a b key)) (TagLe-greater_right (get a key) (get b key))

pub TagLe-with_newer : (a : Copies) (key : List ℕ) (v : Version) (q : List ℕ) → TagLe (tag_of (get a q)) (tag_of (get (with_newer a key v) q))
TagLe-with_newer a key v q =
    subst (λ x. TagLe (tag_of (get a q)) (tag_of x)) (sym (get-with_newer a key v q))
    (elim (same_key q key) as (λ s. TagLe (tag_of (get a q)) (tag_of (cond s (greater (get a q) (Some v)) (get a q)))) [
      | true ↦ TagLe-greater_left (get a q) (Some v)
      | false ↦ TagLe-refl (tag_of (get a q))
    ])

-- a newer copy put in a key's place lowers no tag
pub TagLe-put : (a : Copies) (key : List ℕ) (v : Version) (q : List ℕ) → is_newer (get a key) v ≡ true → TagLe (tag_of (get a q)) (tag_of (get (insert a key v) q))
TagLe-put a key v q newer =
    subst (λ t. TagLe (tag_of (get a q)) (tag_of (get (if t then insert a key v else a) q))) newer (TagLe-with_newer a key v q)

-- to join what was joined, or what is not newer, changes nothing
pub joined-again : (a b : Copies) → joined (joined a b) b ≡ joined a b
joined-again a b = joined-assoc a b b ∙ ap (joined a) (joined-idem b)

-- for `using(rambo_tag::proofs::Joins::joins)` on a function of a layer above
pub ruleset joins = (get-joined, joined-again, joined-idem, joined-empty, joined-empty_left)
