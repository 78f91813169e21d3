-- Laws, no definitions: what proofs over runs read of phases
use Rattle.std.proofs.Common.{◌≡◌, ℕ, ◌+◌, ◌-◌, ◌<◌, ◌≤◌, max, Bool, true, false, if◌then◌else◌, nat_le, ◌||◌, length, drop, None, refl, sym, ap, ◌∙◌, inl, inr, arith, slice_get, length-append, length-drop}
use Rattle.std.proofs.lemmas.Bool.{cases_lt, leb-true, lt-ltb, le-ltb}
use Rattle.std.specs.Cmp.{nat_cmp_total, unsigned_tied}
use Rattle.std.specs.FinSet.{contains, contains-insert}
use Rattle.rambo_config_map.specs.Rows.{row_at}
use Rattle.rambo_config_map.specs.Maps.{MapState, end_of}
use Rattle.rambo_config_map.specs.MapLaws.{get_left, get_right, get_drop, active_kept}
use Rattle.rambo_phase.specs.declared.heard.Heard.TheVariants as heard
use Rattle.rambo_phase.specs.Phases.{PhaseState, above, fits, counted, heard_as, after_letter}
use Rattle.rambo_phase.specs.Counting.{held_at, CountsReply}

-- a phase that counts a letter keeps what it has
pub counted_old : {Q : Type 0} (p : PhaseState Q) (m : MapState Q) (j place : ℕ) → place < above p → p.lo ≤ place
    → row_at p.lo (counted p m j).configs place ≡ row_at p.lo p.configs place
counted_old p m j place h l = get_left p.configs (drop (above p - m.floor) m.configs) (place - p.lo) (omega (arith, h, l))

-- and has the letter's configurations above it
pub counted_new : {Q : Type 0} (p : PhaseState Q) (m : MapState Q) (j place : ℕ) → above p ≤ place → m.floor ≤ above p
    → row_at p.lo (counted p m j).configs place ≡ row_at m.floor m.configs place
counted_new p m j place h f =
    let same : (above p - m.floor) + ((place - p.lo) - length p.configs) ≡ place - m.floor = omega (arith, h, f) in
    get_right p.configs (drop (above p - m.floor) m.configs) (place - p.lo) (omega (arith, h))
    ∙ get_drop (above p - m.floor) m.configs ((place - p.lo) - length p.configs) ∙ ap (slice_get m.configs) same

-- it ends where the longer of the two ends
pub counted_end : {Q : Type 0} (p : PhaseState Q) (m : MapState Q) (j : ℕ) → m.floor ≤ above p
    → above (counted p m j) ≡ max (above p) (end_of m)
counted_end p m j f =
    omega (arith, f, length-append p.configs (drop (above p - m.floor) m.configs), length-drop (above p - m.floor) m.configs)

-- a place from lo on has the row's configuration
pub held_kept : {Q : Type 0} (p : PhaseState Q) (place : ℕ) → p.lo ≤ place → held_at p place ≡ row_at p.lo p.configs place
held_kept p place h = ap (λ t. if t then None else row_at p.lo p.configs place) (le-ltb place p.lo h)

pub held_below : {Q : Type 0} (p : PhaseState Q) (place : ℕ) → place < p.lo → held_at p place ≡ None
held_below p place h = ap (λ t. if t then None else row_at p.lo p.configs place) (lt-ltb place p.lo h)

pub counted_reply : {Q : Type 0} (p : PhaseState Q) (m : MapState Q) (j : ℕ) → m.floor ≤ above p → CountsReply p m j (counted p m j)
counted_reply p m j f = record {
  number = refl;
  lo = refl;
  kept = λ place h. elim (cases_lt place p.lo) [
    | inl l ↦ held_below (counted p m j) place l ∙ sym (held_below p place l)
    | inr l ↦ held_kept (counted p m j) place l ∙ counted_old p m j place h l ∙ sym (held_kept p place l)
  ];
  gained = λ place h. held_kept (counted p m j) place (omega (arith, h)) ∙ counted_new p m j place h f
      ∙ sym (active_kept m place (omega (arith, h, f)));
  repliers = λ n. contains-insert nat_cmp_total p.repliers j n ∙ ap (λ t. t || contains p.repliers n) (unsigned_tied n j);
}

-- what the two tests of a letter decide
counts : {A : Type 0} (b f : Bool) (x y : A) → (if b then (if f then heard.Counted else heard.Restart) else heard.Old) ≡ heard.Counted
    → (f ≡ true) × ((if b then (if f then x else y) else y) ≡ x)
counts true true x y e = (refl, refl)
counts true false x y e = cc
counts false f x y e = cc

ignores : {A : Type 0} (b f : Bool) (x y : A)
    → ((if b then (if f then heard.Counted else heard.Restart) else heard.Old) ≡ heard.Counted → ⊥)
    → (if b then (if f then x else y) else y) ≡ y
ignores true true x y h = absurd (h refl)
ignores true false x y h = refl
ignores false f x y h = refl

-- a letter that counts
pub letter_counted : {Q : Type 0} (p : PhaseState Q) (number : ℕ) (m : MapState Q) (j : ℕ) → heard_as p number m ≡ heard.Counted
    → (m.floor ≤ above p) × (after_letter p number m j ≡ counted p m j)
letter_counted p number m j e =
    let both = counts (nat_le p.number number) (fits p m) (counted p m j) p e in (leb-true m.floor (above p) both.0, both.1)

pub letter_ignored : {Q : Type 0} (p : PhaseState Q) (number : ℕ) (m : MapState Q) (j : ℕ) → (heard_as p number m ≡ heard.Counted → ⊥)
    → after_letter p number m j ≡ p
letter_ignored p number m j h = ignores (nat_le p.number number) (fits p m) (counted p m j) p h

pub letter_reply : {Q : Type 0} (p : PhaseState Q) (number : ℕ) (m : MapState Q) (j : ℕ) → heard_as p number m ≡ heard.Counted
    → CountsReply p m j (after_letter p number m j)
letter_reply p number m j e =
    let both = letter_counted p number m j e in rw both.1 (counted_reply p m j both.0)
