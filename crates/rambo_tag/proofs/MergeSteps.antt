-- The copies of a list that are newer than a map's, as far as the list was gone through
use Rattle.std.proofs.Common.{◌≡◌, ℕ, ◌+◌, ◌<◌, true, false, List, [], ◌∷◌, ◌++◌, length, get_or, take, drop, Option, Some, Result, Ok, Err, refl, sym, ap, ◌∙◌, true≢false, arith}
use Rattle.std.specs.Prelude.{if◌then◌else◌, IsOk, OnOk, OnErr, IfErr}
use Rattle.std.specs.FinMap.{get, insert}
use Rattle.std.proofs.lemmas.List.{take-append-drop, take_more}
use Rattle.rambo_tag.specs.declared.version.Version.{Version}
use Rattle.rambo_tag.specs.declared.keyed_version.KeyedVersion.{KeyedVersion}
use Rattle.rambo_tag.specs.Tags.{is_newer, greater}
use Rattle.rambo_tag.specs.Copies.{Copies, with_newer, joined}
use Rattle.rambo_tag.specs.Logs.{greatest_after, greatest_of}
use Rattle.rambo_tag.proofs.CopyOrder.{is_below, is_newer-is_below, greater-left, greater-right, not_below-trans}
use Rattle.rambo_tag.proofs.Joins.{get-with_newer_same, joined-empty}
use Rattle.rambo_tag.proofs.Logged.{greatest_after-append, get-greatest_after, greatest_of-nil, joined-greatest_of}

greatest_after-take_more : (a : Copies) (cs : List KeyedVersion) (i : ℕ) (c : KeyedVersion) → i < length cs → c ≡ get_or cs i c
    → greatest_after a (take (i + 1) cs) ≡ with_newer (greatest_after a (take i cs)) c.key c.version
greatest_after-take_more a cs i c within is =
    ap (greatest_after a) (take_more cs i c within ∙ ap (λ x. take i cs ++ x ∷ []) (sym is)) ∙ greatest_after-append a (take i cs) (c ∷ [])

greatest_after-end : (a : Copies) (cs : List KeyedVersion) (n : ℕ) (key : List ℕ)
    → get (greatest_after a cs) key ≡ greater (get (greatest_after a (take n cs)) key) (get (greatest_of (drop n cs)) key)
greatest_after-end a cs n key =
    ap (λ xs. get (greatest_after a xs) key) (sym (take-append-drop n cs))
    ∙ ap (λ m. get m key) (greatest_after-append a (take n cs) (drop n cs))
    ∙ get-greatest_after (greatest_after a (take n cs)) (drop n cs) key

-- where a is the greatest of a, y, v and x, v is not newer
greatest-first : (a y x : Option Version) (v : Version) → a ≡ greater (greater (greater a y) (Some v)) x → is_newer a v ≡ false
greatest-first a y x v h =
    let above : is_below a (greater (greater a y) (Some v)) ≡ false =
    ap (λ t. is_below t (greater (greater a y) (Some v))) h ∙ greater-left (greater (greater a y) (Some v)) x in
    is_newer-is_below a v ∙ not_below-trans a (greater (greater a y) (Some v)) (Some v) above (greater-right (greater a y) (Some v))

-- where a list brings nothing newer, none of its copies is newer
is_newer-idle : (a : Copies) (cs : List KeyedVersion) (i : ℕ) (c : KeyedVersion) → joined a (greatest_of cs) ≡ a → i < length cs → c ≡ get_or cs i c
    → is_newer (get a c.key) c.version ≡ false
is_newer-idle a cs i c idle within is =
    let y : Option Version = get (greatest_of (take i cs)) c.key in
    let x : Option Version = get (greatest_of (drop (i + 1) cs)) c.key in
    let after : get (greatest_after a (take (i + 1) cs)) c.key ≡ greater (greater (get a c.key) y) (Some c.version) =
    ap (λ m. get m c.key) (greatest_after-take_more a cs i c within is)
    ∙ get-with_newer_same (greatest_after a (take i cs)) c.key c.version
    ∙ ap (λ t. greater t (Some c.version)) (get-greatest_after a (take i cs) c.key) in
    greatest-first (get a c.key) y x c.version
    (ap (λ m. get m c.key) (sym idle ∙ joined-greatest_of a cs) ∙ greatest_after-end a cs (i + 1) c.key ∙ ap (λ t. greater t x) after)

-- what is not newer than a map's copy is not newer later
not_newer_later : (a : Copies) (cs : List KeyedVersion) (c : KeyedVersion) → is_newer (get a c.key) c.version ≡ false → with_newer (greatest_after a cs) c.key c.version ≡ greatest_after a cs
not_newer_later a cs c older =
    let held : is_newer (get (greatest_after a cs) c.key) c.version ≡ false =
    ap (λ t. is_newer t c.version) (get-greatest_after a cs c.key)
    ∙ is_newer-is_below (greater (get a c.key) (get (greatest_of cs) c.key)) c.version
    ∙ not_below-trans (greater (get a c.key) (get (greatest_of cs) c.key)) (get a c.key) (Some c.version) (greater-left (get a c.key) (get (greatest_of cs) c.key)) (sym (is_newer-is_below (get a c.key) c.version) ∙ older) in
    ap (λ t. if t then insert (greatest_after a cs) c.key c.version else greatest_after a cs) held

-- `rows` are those before place i
pub record IsNewerOf (a : Copies) (cs : List KeyedVersion) (i : ℕ) (rows : List KeyedVersion) : Type 0 where
  pub all : greatest_after a rows ≡ greatest_after a (take i cs)
  pub none : joined a (greatest_of cs) ≡ a → rows ≡ []

pub IsNewerOf-newer : (a : Copies) (cs rows more : List KeyedVersion) (i : ℕ) (c row : KeyedVersion) → IsNewerOf a cs i rows → i < length cs → c ≡ get_or cs i c
    → is_newer (get a c.key) c.version ≡ true → row ≡ c → more ≡ rows ++ row ∷ [] → IsNewerOf a cs (i + 1) more
IsNewerOf-newer a cs rows more i c row h within is newer same grows = record {
  all = ap (greatest_after a) (grows ∙ ap (λ x. rows ++ x ∷ []) same)
      ∙ greatest_after-append a rows (c ∷ [])
      ∙ ap (λ m. with_newer m c.key c.version) h.all
      ∙ sym (greatest_after-take_more a cs i c within is);
  none = λ idle. absurd (true≢false (sym newer ∙ is_newer-idle a cs i c idle within is));
}

pub IsNewerOf-older : (a : Copies) (cs rows more : List KeyedVersion) (i : ℕ) (c : KeyedVersion) → IsNewerOf a cs i rows → i < length cs → c ≡ get_or cs i c
    → is_newer (get a c.key) c.version ≡ false → more ≡ rows → IsNewerOf a cs (i + 1) more
IsNewerOf-older a cs rows more i c h within is older same = record {
  all = ap (greatest_after a) same ∙ h.all ∙ sym (greatest_after-take_more a cs i c within is ∙ not_newer_later a (take i cs) c older);
  none = λ idle. same ∙ h.none idle;
}

pub IsNewerOf-end : (a b : Copies) (cs rows : List KeyedVersion) (i : ℕ) → IsNewerOf a cs i rows → take i cs ≡ cs → greatest_of cs ≡ b → greatest_after a rows ≡ joined a b
IsNewerOf-end a b cs rows i h end is = h.all ∙ ap (greatest_after a) end ∙ sym (joined-greatest_of a cs) ∙ ap (joined a) is

-- where nothing is newer no copy is tried
pub not_idle : {X : Type 0} (a b : Copies) (cs : List KeyedVersion) (i : ℕ) (c : KeyedVersion) → i < length cs → c ≡ get_or cs i c → greatest_of cs ≡ b
    → is_newer (get a c.key) c.version ≡ true → joined a b ≡ a → X
not_idle a b cs i c within at is newer idle = absurd (true≢false (sym newer ∙ is_newer-idle a cs i c (ap (joined a) is ∙ idle) within at))

-- what holds of a call that succeeds
pub OnOk-from_ok : {T E P : Type 0} (r : Result T E) → IsOk r → OnOk r P → P
OnOk-from_ok (Ok x) ok h = h
OnOk-from_ok (Err e) ok h = absurd (true≢false (sym ok))

-- to merge the pack of one copy is to take that one
pub joined-one : (a b : Copies) (cs : List KeyedVersion) (c : KeyedVersion) → 0 < length cs → length cs < 2 → c ≡ get_or cs 0 c → greatest_of cs ≡ b → greatest_after a (c ∷ []) ≡ joined a b
joined-one a b [] c some one at is = absurd (omega arith)
joined-one a b (x ∷ []) c some one at is = ap (λ y. greatest_after a (y ∷ [])) at ∙ sym (joined-greatest_of a (x ∷ [])) ∙ ap (joined a) is
joined-one a b (x ∷ y ∷ ys) c some one at is = absurd (omega arith)

pub OnOk-map : {T E P Q : Type 0} (r : Result T E) → (P → Q) → OnOk r P → OnOk r Q
OnOk-map (Ok x) f h = f h
OnOk-map (Err e) f h = tt

pub OnErr-map : {T E P Q : Type 0} (r : Result T E) → (P → Q) → OnErr r P → OnErr r Q
OnErr-map (Ok x) f h = tt
OnErr-map (Err e) f h = f h

pub IfErr-map : {T E P Q : Type 0} (r : Result T E) → (P → Q) → IfErr r (λ _. P) → IfErr r (λ _. Q)
IfErr-map (Ok x) f h = tt
IfErr-map (Err e) f h = f h

-- what holds at all, holds of a refusal
pub at_err : {T E P : Type 0} (r : Result T E) → P → IfErr r (λ _. P)
at_err (Ok x) p = tt
at_err (Err e) p = p

-- a call succeeds where no refusal can be
pub ok_but_for : {T E P : Type 0} (r : Result T E) → IfErr r (λ _. P) → (P → ⊥) → IsOk r
ok_but_for (Ok x) h never = refl
ok_but_for (Err e) h never = absurd (never h)

-- a letter with no copy
pub joined-none : (a p : Copies) (cs : List KeyedVersion) → length cs ≡ 0 → greatest_of cs ≡ p → a ≡ joined a p
joined-none a p [] none e = sym (joined-empty a) ∙ ap (joined a) (sym greatest_of-nil ∙ e)
joined-none a p (c ∷ cs) none e = absurd (omega (arith, none))
