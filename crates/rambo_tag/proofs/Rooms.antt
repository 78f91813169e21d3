-- There is room for each key of a list of copies, also where keys stand more than once
use Rattle.std.proofs.Common.{◌≡◌, ℕ, suc, ◌+◌, ◌≤◌, ◌<◌, Bool, true, false, cond, ◌||◌, List, [], ◌∷◌, length, Option, Some, None, is_some, refl, sym, ap, ◌∙◌, arith, true≢false}
use Rattle.std.specs.Prelude.{if◌then◌else◌}
use Rattle.std.specs.FinMap.{empty, get, get-empty, insert, len, keys, entries, contains_key, contains_key-keys, len-insert, len-empty, len-entries}
use Rattle.std.specs.Map.{keys_of}
use Rattle.std.specs.Str.{bytes_eq}
use Rattle.std.specs.List.{IsDistinct, AllByRecursion, list_any}
use Rattle.std.specs.Cmp.Lexicographic.{nat_list_eq_equiv}
use Rattle.std.proofs.lemmas.Cmp.{nat_list_cmp_total}
use Rattle.std.proofs.lemmas.Map.Made.{length-le_from_is_member}
use Rattle.rambo_tag.specs.declared.version.Version.{Version}
use Rattle.rambo_tag.specs.declared.keyed_version.KeyedVersion.{KeyedVersion}
use Rattle.rambo_tag.specs.Tags.{is_newer, greater}
use Rattle.rambo_tag.specs.Copies.{Copies, with_newer, HasRoom}
use Rattle.rambo_tag.specs.Logs.{greatest_after, greatest_of}
use Rattle.rambo_tag.specs.Rows.{Slots, slot_in, told_at}
use Rattle.rambo_tag.proofs.Logged.{get-greatest_of-first}
use Rattle.rambo_tag.proofs.Keys.{key_cmp, same_key, same_key-itself, same_key-bytes_eq, bytes_eq-true}

-- no more keys than copies
grown : (a : Copies) (k : List ℕ) (v : Version) (t : Bool) → len (if t then insert a k v else a) ≤ len a + 1
grown a k v true = at_most (contains_key a k) (len a) (len (insert a k v)) (len-insert nat_list_cmp_total a k v)
  where
    at_most : (b : Bool) (n m : ℕ) → m ≡ cond b n (n + 1) → m ≤ n + 1
    at_most true n m e = omega (arith, e)
    at_most false n m e = omega (arith, e)
grown a k v false = up (len a)
  where
    up : (n : ℕ) → n ≤ n + 1
    up n = omega (arith)

len-greatest_after : (a : Copies) (cs : List KeyedVersion) → len (greatest_after a cs) ≤ len a + length cs
len-greatest_after a [] = same (len a)
  where
    same : (n : ℕ) → n ≤ n + 0
    same n = omega (arith)
len-greatest_after a (c ∷ cs) =
    let rest = len-greatest_after (with_newer a c.key c.version) cs in
    let one = grown a c.key c.version (is_newer (get a c.key) c.version) in
    omega (arith, rest, one)

pub len-greatest_of : (cs : List KeyedVersion) → len (greatest_of cs) ≤ length cs
unfolding greatest_of
len-greatest_of cs = let h = len-greatest_after empty cs in let e = len-empty key_cmp Version in omega (arith, h, e)

-- each copy's key is there
is_some-greater : (a b : Option Version) → is_some (greater a b) ≡ (is_some a || is_some b)
is_some-greater None None = refl
is_some-greater (Some a) None = refl
is_some-greater None (Some b) = refl
is_some-greater (Some a) (Some b) = elim (is_newer (Some a) b) as (λ t. is_some (if t then Some b else Some a) ≡ true) [ true ↦ refl | false ↦ refl ]

or_right : (a b : Bool) → b ≡ true → (a || b) ≡ true
or_right true b h = refl
or_right false b h = h

abbrev pub AreThere : Copies → List KeyedVersion → Type 0
AreThere m cs = AllByRecursion (λ c. is_some (get m c.key) ≡ true) cs

some_after : (c : KeyedVersion) (cs : List KeyedVersion) (k : List ℕ) → is_some (get (greatest_of cs) k) ≡ true → is_some (get (greatest_of (c ∷ cs)) k) ≡ true
some_after c cs k h =
    ap is_some (get-greatest_of-first c cs k) ∙ is_some-greater (cond (same_key k c.key) (Some c.version) None) (get (greatest_of cs) k)
    ∙ or_right (is_some (cond (same_key k c.key) (Some c.version) None)) (is_some (get (greatest_of cs) k)) h

there_after : (c : KeyedVersion) (cs ds : List KeyedVersion) → AreThere (greatest_of cs) ds → AreThere (greatest_of (c ∷ cs)) ds
there_after c cs [] h = tt
there_after c cs (d ∷ ds) h = (some_after c cs d.key h.0, there_after c cs ds h.1)

pub all_there : (cs : List KeyedVersion) → AreThere (greatest_of cs) cs
all_there [] = tt
all_there (c ∷ cs) = (
  ap is_some (get-greatest_of-first c cs c.key) ∙ is_some-greater (cond (same_key c.key c.key) (Some c.version) None) (get (greatest_of cs) c.key)
      ∙ ap (λ b. is_some (cond b (Some c.version) None) || is_some (get (greatest_of cs) c.key)) (same_key-itself c.key),
  there_after c cs cs (all_there cs),
)

-- distinct keys of a map are no more than it has
apart : (k : List ℕ) (ks : List (List ℕ)) → list_any (bytes_eq k) ks ≡ false → AllByRecursion (λ y. bytes_eq k y ≡ false) ks
apart k [] h = tt
apart k (y ∷ ks) h = (none_of (bytes_eq k y) (list_any (bytes_eq k) ks) h, apart k ks (none_of_rest (bytes_eq k y) (list_any (bytes_eq k) ks) h))
  where
    none_of : (a b : Bool) → (a || b) ≡ false → a ≡ false
    none_of true b h = h
    none_of false b h = refl

    none_of_rest : (a b : Bool) → (a || b) ≡ false → b ≡ false
    none_of_rest true b h = absurd (true≢false h)
    none_of_rest false b h = h

length-keys : (es : List (List ℕ × Version)) → length (keys_of es) ≡ length es
length-keys [] = refl
length-keys (e ∷ es) = ap suc (length-keys es)

a_key : (m : Copies) (q : List ℕ) → is_some (get m q) ≡ true → list_any (bytes_eq q) (keys m) ≡ true
a_key m q h = sym (contains_key-keys m q ∙ (λ i. list_any (λ k. same_key-bytes_eq q k i) (keys m))) ∙ h

-- the keys that were written under a number so far, the copies that are left, and the room that is left
pub record Wrote (t : Slots) (now : ℕ) (m : Copies) (rest : List KeyedVersion) (room : ℕ) : Type 0 where
  pub keys : List (List ℕ)
  pub distinct : IsDistinct bytes_eq keys
  pub there : (k : List ℕ) → list_any (bytes_eq k) keys ≡ true → is_some (get m k) ≡ true
  pub told : (k : List ℕ) → list_any (bytes_eq k) keys ≡ true → told_at now (slot_in t k) ≡ true
  pub rest_there : AreThere m rest
  pub fits : len m ≤ room + length keys

pub Wrote-start : (t : Slots) (now : ℕ) (cs : List KeyedVersion) (room : ℕ) → HasRoom room (greatest_of cs) → Wrote t now (greatest_of cs) cs room
unfolding IsDistinct
Wrote-start t now cs room h = record {
  keys = [];
  distinct = tt;
  there = λ k e. absurd (true≢false (sym e));
  told = λ k e. absurd (true≢false (sym e));
  rest_there = all_there cs;
  fits = omega (arith, h);
}

-- a copy that isn't newer is passed over
pub Wrote-older : (t : Slots) (now : ℕ) (m : Copies) (c : KeyedVersion) (rest : List KeyedVersion) (room : ℕ) → Wrote t now m (c ∷ rest) room → Wrote t now m rest room
Wrote-older t now m c rest room h = record { keys = h.keys; distinct = h.distinct; there = h.there; told = h.told; rest_there = h.rest_there.1; fits = h.fits }

-- a key that wasn't written is one more
fresh_key : (t : Slots) (now : ℕ) (k : List ℕ) (ks : List (List ℕ)) → (list_any (bytes_eq k) ks ≡ true → told_at now (slot_in t k) ≡ true) → told_at now (slot_in t k) ≡ false → list_any (bytes_eq k) ks ≡ false
fresh_key t now k ks told fresh = elim (list_any (bytes_eq k) ks) as (λ b. list_any (bytes_eq k) ks ≡ b → b ≡ false) [
  | true ↦ λ e. absurd (true≢false (sym (told e) ∙ fresh))
  | false ↦ λ _. refl
] refl

or_cases : {X : Type 0} (a b : Bool) → (a ≡ true → X) → (b ≡ true → X) → (a || b) ≡ true → X
or_cases true b f g h = f refl
or_cases false b f g h = g h

one_more_key : (m : Copies) (k : List ℕ) (ks : List (List ℕ)) → IsDistinct bytes_eq ks → list_any (bytes_eq k) ks ≡ false → is_some (get m k) ≡ true
    → ((q : List ℕ) → list_any (bytes_eq q) ks ≡ true → is_some (get m q) ≡ true) → length ks + 1 ≤ len m
unfolding IsDistinct
one_more_key m k ks distinct new at there =
    let h = length-le_from_is_member nat_list_eq_equiv (k ∷ ks) (keys m) (apart k ks new, distinct)
    (λ q e. or_cases (bytes_eq q k) (list_any (bytes_eq q) ks) (λ f. a_key m q (ap (λ x. is_some (get m x)) (bytes_eq-true q k f) ∙ at)) (λ f. a_key m q (there q f)) e) in
    let e : len m ≡ length (keys m) = len-entries m ∙ sym (length-keys (entries m)) in
    omega (arith, h, e)

-- so there is room for it
pub Wrote-room : (t : Slots) (now : ℕ) (m : Copies) (c : KeyedVersion) (rest : List KeyedVersion) (room : ℕ) → Wrote t now m (c ∷ rest) room → told_at now (slot_in t c.key) ≡ false → 0 < room
Wrote-room t now m c rest room h fresh =
    let n = one_more_key m c.key h.keys h.distinct (fresh_key t now c.key h.keys (h.told c.key) fresh) h.rest_there.0 h.there in
    omega (arith, n, h.fits)

-- a copy was written, which took room where its key wasn't written before
pub Wrote-newer : (t u : Slots) (now : ℕ) (m : Copies) (c : KeyedVersion) (rest : List KeyedVersion) (room left : ℕ) → Wrote t now m (c ∷ rest) room
    → ((q : List ℕ) → told_at now (slot_in u q) ≡ (if bytes_eq q c.key then true else told_at now (slot_in t q)))
    → room ≤ left + 1 → (told_at now (slot_in t c.key) ≡ true → room ≤ left) → Wrote u now m rest left
unfolding IsDistinct
Wrote-newer t u now m c rest room left h written one none =
    elim (told_at now (slot_in t c.key)) as (λ b. told_at now (slot_in t c.key) ≡ b → Wrote u now m rest left) [
      | true ↦ λ told. record {
        keys = h.keys;
        distinct = h.distinct;
        there = h.there;
        told = λ q e. kept q (h.told q e);
        rest_there = h.rest_there.1;
        fits = omega (arith, h.fits, none told);
      }
      | false ↦ λ fresh.
          let new = fresh_key t now c.key h.keys (h.told c.key) fresh in
          record {
            keys = c.key ∷ h.keys;
            distinct = (apart c.key h.keys new, h.distinct);
            there = λ q e. or_cases (bytes_eq q c.key) (list_any (bytes_eq q) h.keys) (λ f. ap (λ x. is_some (get m x)) (bytes_eq-true q c.key f) ∙ h.rest_there.0) (h.there q) e;
            told = λ q e. or_cases (bytes_eq q c.key) (list_any (bytes_eq q) h.keys) (λ f. written q ∙ ap (λ b. if b then true else told_at now (slot_in t q)) f) (λ f. kept q (h.told q f)) e;
            rest_there = h.rest_there.1;
            fits = omega (arith, h.fits, one);
          }
    ] refl
  where
    kept : (q : List ℕ) → told_at now (slot_in t q) ≡ true → told_at now (slot_in u q) ≡ true
    kept q e = written q ∙ elim (bytes_eq q c.key) as (λ b. (if b then true else told_at now (slot_in t q)) ≡ true) [ true ↦ refl | false ↦ e ]

-- a list with no greatest copy is empty
pub none_for_empty : (cs : List KeyedVersion) → greatest_of cs ≡ empty → length cs ≡ 0
none_for_empty [] e = refl
none_for_empty (c ∷ cs) e =
    let there = (all_there (c ∷ cs)).0 in
    absurd (true≢false (sym there ∙ ap (λ m. is_some (get m c.key)) e ∙ ap is_some (get-empty key_cmp c.key)))
