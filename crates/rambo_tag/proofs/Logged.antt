-- The copies of a log, and what stays of them where a part is left out
use Rattle.std.proofs.Common.{◌≡◌, ℕ, Bool, true, false, cond, List, [], ◌∷◌, ◌++◌, take, drop, Option, Some, None, refl, sym, ap, ◌∙◌}
use Rattle.std.specs.Prelude.{if◌then◌else◌}
use Rattle.std.specs.FinMap.{get, insert, empty, get-empty}
use Rattle.std.proofs.lemmas.List.{take-append-drop}
use Rattle.rambo_tag.specs.declared.version.Version.{Version}
use Rattle.rambo_tag.specs.declared.keyed_version.KeyedVersion.{KeyedVersion}
use Rattle.rambo_tag.specs.Tags.{is_newer, greater}
use Rattle.rambo_tag.specs.Copies.{Copies, with_newer, joined}
use Rattle.rambo_tag.specs.Logs.{greatest_after, greatest_of, lacking}
use Rattle.rambo_tag.proofs.CopyOrder.{greater-assoc, greater-none_left}
use Rattle.rambo_tag.proofs.Keys.{key_cmp, same_key}
use Rattle.rambo_tag.proofs.Joins.{same_copies, get-with_newer, get-joined, joined-assoc, joined-comm}

pub greatest_after-append : (a : Copies) (xs ys : List KeyedVersion) → greatest_after a (xs ++ ys) ≡ greatest_after (greatest_after a xs) ys
greatest_after-append a [] ys = refl
greatest_after-append a (x ∷ xs) ys = greatest_after-append (with_newer a x.key x.version) xs ys

pub greatest_of-nil : greatest_of [] ≡ empty
unfolding greatest_of
greatest_of-nil = refl

pub greatest_of-push : (log : List KeyedVersion) (c : KeyedVersion) → greatest_of (log ++ c ∷ []) ≡ with_newer (greatest_of log) c.key c.version
unfolding greatest_of
greatest_of-push log c = greatest_after-append empty log (c ∷ [])

greatest_of-first : (c : KeyedVersion) (cs : List KeyedVersion) → greatest_of (c ∷ cs) ≡ greatest_after (with_newer empty c.key c.version) cs
unfolding greatest_of
greatest_of-first c cs = refl

greater-cond : (t : Bool) (x y : Option Version) (v : Version) → greater (cond t (greater x (Some v)) x) y ≡ greater x (greater (cond t (greater None (Some v)) None) y)
greater-cond true x y v = greater-assoc x (Some v) y
greater-cond false x y v = sym (ap (greater x) (greater-none_left y))

pub get-greatest_after : (a : Copies) (cs : List KeyedVersion) (key : List ℕ) → get (greatest_after a cs) key ≡ greater (get a key) (get (greatest_of cs) key)
unfolding greatest_of
get-greatest_after a [] key = sym (ap (greater (get a key)) (get-empty key_cmp key))
get-greatest_after a (c ∷ cs) key =
    get-greatest_after (with_newer a c.key c.version) cs key
    ∙ ap (λ x. greater x (get (greatest_of cs) key)) (get-with_newer a c.key c.version key)
    ∙ greater-cond (same_key key c.key) (get a key) (get (greatest_of cs) key) c.version
    ∙ sym (ap (greater (get a key))
    (get-greatest_after (with_newer empty c.key c.version) cs key
    ∙ ap (λ x. greater x (get (greatest_of cs) key)) (get-with_newer empty c.key c.version key
    ∙ ap (λ y. cond (same_key key c.key) (greater y (Some c.version)) y) (get-empty key_cmp key))))

-- a list's first copy, and the rest
pub get-greatest_of-first : (c : KeyedVersion) (cs : List KeyedVersion) (key : List ℕ)
    → get (greatest_of (c ∷ cs)) key ≡ greater (cond (same_key key c.key) (Some c.version) None) (get (greatest_of cs) key)
get-greatest_of-first c cs key =
    ap (λ m. get m key) (greatest_of-first c cs)
    ∙ get-greatest_after (with_newer empty c.key c.version) cs key
    ∙ ap (λ x. greater x (get (greatest_of cs) key)) (get-with_newer empty c.key c.version key ∙ ap (λ y. cond (same_key key c.key) (greater y (Some c.version)) y) (get-empty key_cmp key))

-- to take the greater copies of a list is to join them
pub joined-greatest_of : (a : Copies) (cs : List KeyedVersion) → joined a (greatest_of cs) ≡ greatest_after a cs
joined-greatest_of a cs = same_copies _ _ (λ q. get-joined a (greatest_of cs) q ∙ sym (get-greatest_after a cs q))

-- to append copies to a log is to join them
pub greatest_of-append : (log more : List KeyedVersion) → greatest_of (log ++ more) ≡ joined (greatest_of log) (greatest_of more)
unfolding greatest_of
greatest_of-append log more = greatest_after-append empty log more ∙ sym (joined-greatest_of (greatest_of log) more)

-- the copies before a place and those from it on
pub greatest_of-split : (n : ℕ) (log : List KeyedVersion) → joined (greatest_of (take n log)) (greatest_of (drop n log)) ≡ greatest_of log
greatest_of-split n log = sym (greatest_of-append (take n log) (drop n log)) ∙ ap greatest_of (take-append-drop n log)

-- what was joined stays so
pub joined-absorbed : (a b c : Copies) → joined a b ≡ a → joined (joined a c) b ≡ joined a c
joined-absorbed a b c held =
    joined-assoc a c b ∙ ap (joined a) (joined-comm c b) ∙ sym (joined-assoc a b c) ∙ ap (λ x. joined x c) held

greatest_after-lacking : (a : Copies) (es : List KeyedVersion) → greatest_after a (lacking a es) ≡ greatest_after a es
greatest_after-lacking a [] = refl
greatest_after-lacking a (c ∷ cs) =
    elim (is_newer (get a c.key) c.version) as (λ t. is_newer (get a c.key) c.version ≡ t
    → greatest_after a (if t then c ∷ lacking (insert a c.key c.version) cs else lacking a cs) ≡ greatest_after (if t then insert a c.key c.version else a) cs) [
      | true ↦ λ newer. ap (λ t. greatest_after (if t then insert a c.key c.version else a) (lacking (insert a c.key c.version) cs)) newer ∙ greatest_after-lacking (insert a c.key c.version) cs
      | false ↦ λ older. greatest_after-lacking a cs
    ] refl

-- what a map lacks of a list brings it what the list does
pub joined-lacking : (a : Copies) (es : List KeyedVersion) → joined a (greatest_of (lacking a es)) ≡ joined a (greatest_of es)
joined-lacking a es = joined-greatest_of a (lacking a es) ∙ greatest_after-lacking a es ∙ sym (joined-greatest_of a es)

-- for `using(rambo_tag::proofs::Logged::logs)` on a function of a layer above
pub ruleset logs = (greatest_of-nil, greatest_of-push, greatest_of-append, joined-greatest_of, joined-lacking)
