-- Attempts and the maps that they fit, where a turn is taken
use Rattle.std.proofs.Common.{◌≡◌, ℕ, ◌+◌, ◌-◌, ◌≤◌, Bool, true, false, nat_le, nat_lt, if◌then◌else◌, length, slice_get, Option, None, Some, refl, sym, ◌∙◌, inl, inr, arith, subst, length-drop}
use Rattle.std.proofs.lemmas.Bool.{lt-leb, lt-ltb, leb-false, true≢false}
use Rattle.std.proofs.lemmas.Option.{slice_get_within}
use Rattle.rambo_names.specs.Quorums.{QuorumSystem}
use Rattle.rambo_config_map.specs.Maps.{MapState, end_of, without_lowest}
use Rattle.rambo_config_map.specs.MapLaws.{active_kept}
use Rattle.rambo_gc.specs.declared.gc_move.GcMove.TheVariants.{Done}
use Rattle.rambo_gc.specs.Collections.{CollectionState, move_of}
use Rattle.rambo_gc.specs.CollectionLaws.{collection_over}
use Rattle.rambo_paxos.specs.declared.stage.Stage.{Stage}
use Rattle.rambo_paxos.specs.declared.stage.Stage.TheVariants as stage
use Rattle.rambo_paxos.specs.Attempts.{AttemptState, opened, rebid, proposing, advanced, advanced_in}
use Rattle.rambo_paxos.specs.Votes.{VoteState}
use Rattle.rambo_bids.specs.Fitting.{AttemptFits}

module _ {Q : Type 0} where
  -- an attempt fits the map where it begins, and begins again
  pub fits_opened : (m : MapState Q) (place me : ℕ) (wish : Q) (v : VoteState Q) → place ≡ end_of m → nat_le 8 (length m.configs) ≡ false
      → AttemptFits m (Some (opened place wish v me))
  unfolding opened
  fits_opened m place me wish v e h =
      let few = leb-false 8 (length m.configs) h in
      (omega (arith, e), λ _. omega (arith, few))

  pub fits_rebid : (m : MapState Q) (a : AttemptState Q) (v : VoteState Q) → AttemptFits m (Some a) → AttemptFits m (Some (rebid a v))
  unfolding opened
  fits_rebid m a v f = f

  advanced_place : (a : AttemptState Q) (s : Stage Q) (v : VoteState Q) → (advanced_in s a v).place ≡ a.place
  unfolding proposing
  advanced_place a (stage.Prepare told) v = refl
  advanced_place a (stage.Propose c) v = refl

  -- where it goes on
  pub fits_advanced : (m : MapState Q) (a : AttemptState Q) (v : VoteState Q) → AttemptFits m (Some a) → AttemptFits m (Some (advanced a v))
  fits_advanced m a v f =
      subst (λ p. (p ≤ end_of m) × (end_of m ≤ p → length m.configs ≤ 7)) (sym (advanced_place a a.stage v)) f

  -- and with a map whose lowest place is removed
  pub fits_removed : (m : MapState Q) (o : Option (AttemptState Q)) (b : Bool) → AttemptFits m o → (b ≡ false → nat_le (length m.configs) 1 ≡ false)
      → AttemptFits (if b then m else without_lowest m) o
  fits_removed m o true f h = f
  fits_removed m None false f h = f
  fits_removed m (Some a) false f h =
      let two = leb-false (length m.configs) 1 (h refl) in
      let e : end_of (without_lowest m) ≡ end_of m = omega (arith, two, length-drop 1 m.configs) in
      let known = f.0 in (
        omega (arith, e, known),
        λ i.
            let own : end_of m ≤ a.place = omega (arith, e, i) in
            let room = f.1 own in
            omega (arith, room, length-drop 1 m.configs),
      )

  -- a collection that is done has a next place, unless its own is removed already
  pub has_next_place : (s : QuorumSystem Q) (m : MapState Q) (g : CollectionState) → move_of s m g ≡ Some Done → nat_lt g.place m.floor ≡ false
      → nat_le (length m.configs) 1 ≡ false
  has_next_place s m g e kept = elim (collection_over s m g e) [
    | inl l ↦ absurd (true≢false (sym (lt-ltb g.place m.floor l) ∙ kept))
    | inr w ↦
        (let low = w.kept in
        let past : m.floor ≤ g.place + 1 = omega (arith, low) in
        let at : slice_get m.configs (g.place + 1 - m.floor) ≡ Some w.met.config = sym (active_kept m (g.place + 1) past) ∙ w.met.active in
        let within = slice_get_within m.configs (g.place + 1 - m.floor) w.met.config at in
        lt-leb (length m.configs) 1 (omega (arith, low, within)))
  ]
