-- Maps that are merged, and attempts that go with them
use Rattle.std.proofs.Common.{◌≡◌, ℕ, ◌+◌, ◌≤◌, ◌≢◌, Bool, true, false, nat_eq, nat_le, if◌then◌else◌, length, Option, None, Some, refl, sym, ◌∙◌, inl, inr, arith, subst}
use Rattle.std.proofs.lemmas.Bool.{cases_lt, eq-eqb, ne_eqb, le-leb, lt-leb}
use Rattle.std.specs.FinSet as set
use Rattle.rambo_config_map.specs.Maps.{MapState, end_of, merged_map}
use Rattle.rambo_config_map.specs.MapLaws.{merged_end}
use Rattle.rambo_paxos.specs.Attempts.{AttemptState, heard_vote, replies_to, told_by}
use Rattle.rambo_paxos.specs.Votes.{VoteState}
use Rattle.rambo_bids.specs.Fitting.{AttemptFits}
use Rattle.rambo_bids.specs.Hearing.{heard_for, is_level}

module _ {Q : Type 0} where
  -- a map is as long as the merged one exactly where it isn't the shorter one
  pub level_if : (a b : MapState Q) (s t : ℕ) → end_of a ≡ s + 1 → end_of b ≡ t + 1 → 1 ≤ length a.configs → 1 ≤ length b.configs
      → nat_le s t ≡ is_level a b
  level_if a b s t ea eb ha hb =
      let e = merged_end a b ha hb in
      elim (cases_lt t s) [
        | inl l ↦
            (let other : end_of b ≢ end_of (merged_map a b) = omega (arith, e, l, ea, eb) in
            lt-leb s t l ∙ sym (ne_eqb (end_of b) (end_of (merged_map a b)) other))
        | inr h ↦
            (let same : end_of b ≡ end_of (merged_map a b) = omega (arith, e, h, ea, eb) in
            le-leb s t h ∙ sym (eq-eqb (end_of b) (end_of (merged_map a b)) same))
      ]

  place_if : (b : Bool) (x y : AttemptState Q) → x.place ≡ y.place → (if b then x else y).place ≡ y.place
  place_if true x y e = e
  place_if false x y e = refl

  -- an attempt that hears a vote keeps its place
  heard_place : (a : AttemptState Q) (j : ℕ) (v : VoteState Q) → (heard_vote a j v).place ≡ a.place
  unfolding heard_vote
  heard_place a j v = place_if (replies_to a.stage a.ballot v) (record a { stage = told_by a.stage v; repliers = set.insert a.repliers j }) a refl

  -- an attempt fits a map that takes from another, and with a vote that it hears
  pub fits_merged : (a b : MapState Q) (o : Option (AttemptState Q)) → AttemptFits a o → 1 ≤ length a.configs → 1 ≤ length b.configs
      → AttemptFits (merged_map a b) o
  fits_merged a b None f ha hb = f
  fits_merged a b (Some x) f ha hb =
      let e = merged_end a b ha hb in
      let known = f.0 in (
        omega (arith, e, known),
        λ h.
            let own : end_of a ≤ x.place = omega (arith, e, h) in
            let room = f.1 own in
            omega (arith, e, h, known, room),
      )

  pub fits_heard : (m : MapState Q) (o : Option (AttemptState Q)) (place j : ℕ) (v : VoteState Q) → AttemptFits m o
      → AttemptFits m (heard_for place o j v)
  fits_heard m None place j v f = f
  fits_heard m (Some a) place j v f =
      subst (λ p. (p ≤ end_of m) × (end_of m ≤ p → length m.configs ≤ 7))
      (sym (place_if (nat_eq a.place place) (heard_vote a j v) a (heard_place a j v))) f
