-- What is lacked of a part of a log brings what the part does, and the hints tell what is lacked
use Rattle.std.proofs.Common.{◌≡◌, ℕ, ◌<◌, Bool, true, false, cond, List, [], ◌∷◌, length, filter, take, drop, get_or, zero, suc, Option, Some, None, refl, sym, ap, ◌∙◌, arith}
use Rattle.std.specs.Prelude.{if◌then◌else◌, All}
use Rattle.std.specs.FinMap.{get}
use Rattle.std.proofs.lemmas.List.{take-map, drop-map}
use Rattle.std.proofs.lemmas.List.Elements.{All-head, All-tail}
use Rattle.rambo_tag.specs.declared.keyed_version.KeyedVersion.{KeyedVersion}
use Rattle.rambo_tag.specs.declared.version.Version.{Version}
use Rattle.rambo_tag.specs.Tags.{is_newer, greater}
use Rattle.rambo_tag.specs.Copies.{Copies, joined}
use Rattle.rambo_tag.specs.Logs.{greatest_of}
use Rattle.rambo_tag.proofs.CopyOrder.{greater-assoc, greater-comm}
use Rattle.rambo_tag.proofs.Keys.{same_key, same_key-true}
use Rattle.rambo_tag.proofs.Joins.{same_copies, get-joined}
use Rattle.rambo_tag.proofs.Logged.{get-greatest_of-first}
use Rattle.rambo_logs.specs.declared.entry.Entry.{Entry}
use Rattle.rambo_logs.specs.NodeLogs.{part, lacked}
use Rattle.rambo_logs.specs.Stored.{copy_of, copies_of, is_lacked, IsEntry, IsLog}

-- one copy in front of both
greater-front : (x h y z : Option Version) → greater x y ≡ greater x z → greater x (greater h y) ≡ greater x (greater h z)
greater-front x h y z e =
    sym (greater-assoc x h y) ∙ ap (λ o. greater o y) (greater-comm x h) ∙ greater-assoc h x y
    ∙ ap (greater h) e
    ∙ sym (greater-assoc h x z) ∙ ap (λ o. greater o z) (greater-comm h x) ∙ greater-assoc x h z

-- one that changes nothing in front of one of them
greater-idle : (x h y z : Option Version) → greater x h ≡ x → greater x y ≡ greater x z → greater x y ≡ greater x (greater h z)
greater-idle x h y z idle e = e ∙ ap (λ o. greater o z) (sym idle) ∙ greater-assoc x h z

module _ (held : Copies) (key : List ℕ) where
  -- a copy as far as it is of this key
  abbrev of_key : KeyedVersion → Option Version
  of_key c = cond (same_key key c.key) (Some c.version) None

  old_idle : (c : KeyedVersion) → is_newer (get held c.key) c.version ≡ false → greater (get held key) (of_key c) ≡ get held key
  old_idle c older =
      elim (same_key key c.key) as (λ s. same_key key c.key ≡ s → greater (get held key) (cond s (Some c.version) None) ≡ get held key) [
        | true ↦ λ same. ap (λ t. if t then Some c.version else get held key) (ap (λ k. is_newer (get held k) c.version) (same_key-true key c.key same) ∙ older)
        | false ↦ λ other. refl
      ] refl

  lacked-key : (cs : List KeyedVersion) → greater (get held key) (get (greatest_of (lacked held cs)) key) ≡ greater (get held key) (get (greatest_of cs) key)
  lacked-key [] = refl
  lacked-key (c ∷ cs) =
      elim (is_newer (get held c.key) c.version) as (λ t. is_newer (get held c.key) c.version ≡ t
      → greater (get held key) (get (greatest_of (cond t (c ∷ lacked held cs) (lacked held cs))) key) ≡ greater (get held key) (get (greatest_of (c ∷ cs)) key)) [
        | true ↦ λ newer.
            ap (greater (get held key)) (get-greatest_of-first c (lacked held cs) key)
            ∙ greater-front (get held key) (of_key c) (get (greatest_of (lacked held cs)) key) (get (greatest_of cs) key) (lacked-key cs)
            ∙ sym (ap (greater (get held key)) (get-greatest_of-first c cs key))
        | false ↦ λ older.
            greater-idle (get held key) (of_key c) (get (greatest_of (lacked held cs)) key) (get (greatest_of cs) key) (old_idle c older) (lacked-key cs)
            ∙ sym (ap (greater (get held key)) (get-greatest_of-first c cs key))
      ] refl

pub joined-lacked : (held : Copies) (cs : List KeyedVersion) → joined held (greatest_of (lacked held cs)) ≡ joined held (greatest_of cs)
joined-lacked held cs = same_copies _ _ (λ q. get-joined held (greatest_of (lacked held cs)) q ∙ lacked-key held q cs ∙ sym (get-joined held (greatest_of cs) q))

module _ (puts : List KeyedVersion) (keys : List (List ℕ)) (hints : List ℕ) (node : ℕ) (es : List Entry) (log : IsLog puts keys hints node es) where
  -- a hint tells whether a copy is newer than what the log has
  is_lacked-newer : (e : Entry) → IsEntry puts keys hints e → is_lacked puts hints node e ≡ is_newer (get (greatest_of (copies_of puts es)) (copy_of puts e).key) (copy_of puts e).version
  is_lacked-newer e h =
      ap (λ o. is_newer o (copy_of puts e).version) (log.hinted e.number h.number ∙ ap (get (greatest_of (copies_of puts es))) h.key)

  pub copies_of-lacked : (more : List Entry) → All (IsEntry puts keys hints) more → copies_of puts (filter (is_lacked puts hints node) more) ≡ lacked (greatest_of (copies_of puts es)) (copies_of puts more)
  copies_of-lacked [] h = refl
  copies_of-lacked (e ∷ more) h =
      let first = is_lacked-newer e (All-head (IsEntry puts keys hints) e more h) in
      let rest = copies_of-lacked more (All-tail (IsEntry puts keys hints) e more h) in
      elim (is_lacked puts hints node e) as (λ t. is_lacked puts hints node e ≡ t
      → copies_of puts (cond t (e ∷ filter (is_lacked puts hints node) more) (filter (is_lacked puts hints node) more)) ≡ lacked (greatest_of (copies_of puts es)) (copies_of puts (e ∷ more))) [
        | true ↦ λ newer.
            (λ i. copy_of puts e ∷ rest i)
            ∙ ap (λ t. cond t (copy_of puts e ∷ lacked (greatest_of (copies_of puts es)) (copies_of puts more)) (lacked (greatest_of (copies_of puts es)) (copies_of puts more))) (sym newer ∙ first)
        | false ↦ λ older.
            rest
            ∙ ap (λ t. cond t (copy_of puts e ∷ lacked (greatest_of (copies_of puts es)) (copies_of puts more)) (lacked (greatest_of (copies_of puts es)) (copies_of puts more))) (sym older ∙ first)
      ] refl

pub copies_of-part : (puts : List KeyedVersion) (es : List Entry) (start end : ℕ) → copies_of puts (part es start end) ≡ part (copies_of puts es) start end
copies_of-part puts es start end =
    sym (ap (drop start) (take-map (copy_of puts) end es) ∙ drop-map (copy_of puts) start (take end es))

-- where one of a list passes a test, some do
pub some_pass : {X P : Type 0} (p : X → Bool) (xs : List X) (i : ℕ) (d : X) → i < length xs → p (get_or xs i d) ≡ true → filter p xs ≡ [] → P
some_pass p [] i d within pass none = absurd (omega (arith, within))
some_pass p (x ∷ xs) zero d within pass none =
    let some : x ∷ filter p xs ≡ [] = ap (λ t. cond t (x ∷ filter p xs) (filter p xs)) (sym pass) ∙ none in cc
some_pass {X} {P} p (x ∷ xs) (suc i) d within pass none =
    elim (p x) as (λ t. cond t (x ∷ filter p xs) (filter p xs) ≡ [] → P) [
      | true ↦ λ e. cc
      | false ↦ λ e. some_pass p xs i d (omega (arith, within)) pass e
    ] none
