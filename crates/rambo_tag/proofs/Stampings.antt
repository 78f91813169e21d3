-- The stamps after copies of a list came
use Rattle.std.proofs.Common.{◌≡◌, ℕ, true, false, cond, List, [], ◌∷◌, Option, Some, None, refl, sym, ap, ◌∙◌, inl, inr}
use Rattle.std.specs.Prelude.{if◌then◌else◌}
use Rattle.std.specs.FinMap.{get, insert, get-empty}
use Rattle.rambo_tag.specs.declared.version.Version.{Version}
use Rattle.rambo_tag.specs.declared.keyed_version.KeyedVersion.{KeyedVersion}
use Rattle.rambo_tag.specs.Tags.{is_newer, greater, version_lt}
use Rattle.rambo_tag.specs.Copies.{Copies, with_newer, joined}
use Rattle.rambo_tag.specs.Logs.{greatest_after, greatest_of}
use Rattle.rambo_tag.specs.Stamps.{Stamps, stamps_merged}
use Rattle.rambo_tag.specs.Rows.{stamps_after}
use Rattle.rambo_tag.proofs.CopyOrder.{is_newer-is_below, is_below-trans, not_below-trans, greater-none_left}
use Rattle.rambo_tag.proofs.Joins.{get-with_newer, get-joined}
use Rattle.rambo_tag.proofs.Logged.{greatest_of-nil, get-greatest_of-first, get-greatest_after}
use Rattle.rambo_tag.proofs.Keys.{key_cmp, same_key, same_key-true}
use Rattle.rambo_tag.proofs.StampLaws.{same_stamps, stamp_after, put_if, get-merged, stamp_after-alike, pick}

-- a copy came, and then the greatest of those after it
one_more_came : (now : ℕ) (h : Option Version) (s : Option ℕ) (v : Version) (g : Option Version)
    → stamp_after now (greater h (Some v)) (if is_newer h v then Some now else s) g ≡ stamp_after now h s (greater (Some v) g)
one_more_came now h s v None = refl
one_more_came now h s v (Some w) =
    elim (pick (version_lt v w) (Some w) (Some v)) [
      | inl less ↦ elim (pick (is_newer h v) (Some v) h) [
        | inl up ↦
            ap (λ b. if is_newer (if b then Some v else h) w then Some now else (if b then Some now else s)) up.0
            ∙ ap (λ b. if b then Some now else Some now) less.0
            ∙ sym (ap (stamp_after now h s) less.1 ∙ ap (λ b. if b then Some now else s) (newer_still h v w up.0 less.0))
        | inr same ↦
            ap (λ b. if is_newer (if b then Some v else h) w then Some now else (if b then Some now else s)) same.0
            ∙ sym (ap (stamp_after now h s) less.1)
      ]
      | inr most ↦ elim (pick (is_newer h v) (Some v) h) [
        | inl up ↦
            ap (λ b. if is_newer (if b then Some v else h) w then Some now else (if b then Some now else s)) up.0
            ∙ ap (λ b. if b then Some now else Some now) most.0
            ∙ sym (ap (stamp_after now h s) most.1 ∙ ap (λ b. if b then Some now else s) up.0)
        | inr same ↦
            ap (λ b. if is_newer (if b then Some v else h) w then Some now else (if b then Some now else s)) same.0
            ∙ ap (λ b. if b then Some now else s) (not_newer_still h v w same.0 most.0)
            ∙ sym (ap (stamp_after now h s) most.1 ∙ ap (λ b. if b then Some now else s) same.0)
      ]
    ]
  where
    newer_still : (h : Option Version) (v w : Version) → is_newer h v ≡ true → version_lt v w ≡ true → is_newer h w ≡ true
    newer_still h v w a b = is_newer-is_below h w ∙ is_below-trans h (Some v) (Some w) (sym (is_newer-is_below h v) ∙ a) (sym (is_newer-is_below (Some v) w) ∙ b)

    not_newer_still : (h : Option Version) (v w : Version) → is_newer h v ≡ false → version_lt v w ≡ false → is_newer h w ≡ false
    not_newer_still h v w a b = is_newer-is_below h w ∙ not_below-trans h (Some v) (Some w) (sym (is_newer-is_below h v) ∙ a) (sym (is_newer-is_below (Some v) w) ∙ b)

pub get-stamps_after : (now : ℕ) (held : Copies) (s : Stamps) (cs : List KeyedVersion) (q : List ℕ) → get (stamps_after now held s cs) q ≡ stamp_after now (get held q) (get s q) (get (greatest_of cs) q)
get-stamps_after now held s [] q = sym (ap (stamp_after now (get held q) (get s q)) (ap (λ m. get m q) greatest_of-nil ∙ get-empty key_cmp q))
get-stamps_after now held s (c ∷ cs) q =
    get-stamps_after now (with_newer held c.key c.version) (if is_newer (get held c.key) c.version then insert s c.key now else s) cs q
    ∙ (λ i. stamp_after now (get-with_newer held c.key c.version q i) (put_if (is_newer (get held c.key) c.version) s c.key now q i) (get (greatest_of cs) q))
    ∙ elim (same_key q c.key) as (λ b. same_key q c.key ≡ b
    → stamp_after now (cond b (greater (get held q) (Some c.version)) (get held q)) (cond b (if is_newer (get held c.key) c.version then Some now else get s q) (get s q)) (get (greatest_of cs) q)
    ≡ stamp_after now (get held q) (get s q) (greater (cond b (Some c.version) None) (get (greatest_of cs) q))) [
      | true ↦ λ same.
          ap (λ k. stamp_after now (greater (get held q) (Some c.version)) (if is_newer (get held k) c.version then Some now else get s q) (get (greatest_of cs) q)) (sym (same_key-true q c.key same))
          ∙ one_more_came now (get held q) (get s q) c.version (get (greatest_of cs) q)
      | false ↦ λ _. sym (ap (stamp_after now (get held q) (get s q)) (greater-none_left (get (greatest_of cs) q)))
    ] refl
    ∙ sym (ap (stamp_after now (get held q) (get s q)) (get-greatest_of-first c cs q))

-- copies that come to what a pack does are stamped as it is
pub stamps_after-merged : (now : ℕ) (held : Copies) (s : Stamps) (cs : List KeyedVersion) (pack : Copies) → greatest_after held cs ≡ joined held pack → stamps_after now held s cs ≡ stamps_merged now held s pack
stamps_after-merged now held s cs pack e =
    same_stamps _ _ (λ q.
    get-stamps_after now held s cs q
    ∙ stamp_after-alike now (get held q) (get s q) (get (greatest_of cs) q) (get pack q) (sym (get-greatest_after held cs q) ∙ ap (λ m. get m q) e ∙ get-joined held pack q)
    ∙ sym (get-merged now held s pack q))
