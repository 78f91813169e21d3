-- Reminders are few
use Rattle.std.proofs.Common.{◌≡◌, ℕ, zero, suc, ◌+◌, ◌-◌, ◌*◌, ◌/◌, ◌^◌, ◌<◌, ◌≤◌, min, max, Bool, true, false, if◌then◌else◌, nat_le, List, [], ◌∷◌, get_or, ◌⊎◌, inl, inr, refl, arith}
use Rattle.std.proofs.lemmas.Bool.{leb-true, cases_lt}
use Rattle.std.proofs.lemmas.Nat.{pow_pos}
use Rattle.rambo_names.specs.Quorums.{QuorumSystem}
use Rattle.rambo_outbox.specs.declared.asks.Asks.{Asks}
use Rattle.rambo_outbox.specs.declared.asks.Asks.TheVariants.{Nothing, More, First, Again}
use Rattle.rambo_outbox.specs.Outboxes.{OutboxState, OpenedState}
use Rattle.rambo_outbox.specs.Pauses.{pause, more, later}
use Rattle.rambo_outbox.specs.Reminders.{Event, Waits, Answers, Moves, Hears, Owes, KeepsOpen, Rounds, happened, progresses, time_of, Rise, is_again, reminders}
use Rattle.rambo_outbox.specs.Rounds.{after_by}
use Rattle.rambo_outbox.specs.Wishes.{has_asked, is_new, asks_by, asks_of}
use Rattle.rambo_outbox.proofs.LooksAgain.{pause-most}

-- what the reminders from a number on, that come sooner than a second after the one before, save of a second each
abbrev saved : ℕ → ℕ
saved n = 980 * (50 - n) + get_or (3760 ∷ 3760 ∷ 2800 ∷ 1880 ∷ 1040 ∷ 360 ∷ []) (min (n - 49) 6) 0

abbrev Saves : ℕ → Type 0
Saves n = 1000 + saved (more n) ≤ pause n + saved n

before_doubling : (n : ℕ) → n < 49 → 1000 + (980 * (50 - (n + 1)) + 3760) ≤ 20 + (980 * (50 - n) + 3760)
before_doubling n h = omega (arith, h)

at_first : (n : ℕ) → n < 49 → Saves n
at_first n h =
    let none : n - 49 ≡ 0 = omega (arith, h) in
    let still_none : more n - 49 ≡ 0 = omega (arith, h) in
    let next : more n ≡ n + 1 = omega (arith, h) in
    rw (none, still_none, next) (before_doubling n h)

at_most_itself : (n : ℕ) → n ≤ n
at_most_itself n = omega arith

at_last : (n : ℕ) → 55 ≤ n → Saves n
at_last n h =
    let full : min (n - 49) 6 ≡ 6 = omega (arith, h) in
    let still_full : min (more n - 49) 6 ≡ 6 = omega (arith, h) in
    let none : 50 - n ≡ 0 = omega (arith, h) in
    let still_none : 50 - more n ≡ 0 = omega (arith, h) in
    rw (full, still_full, none, still_none) (at_most_itself 1000)

-- while the pauses double, and later
from_doubling : (j n : ℕ) → n ≡ 49 + j → Saves n
from_doubling zero n is = rw is (at_most_itself 4760)
from_doubling (suc zero) n is = rw is (at_most_itself 3800)
from_doubling (suc (suc zero)) n is = rw is (at_most_itself 2880)
from_doubling (suc (suc (suc zero))) n is = rw is (at_most_itself 2040)
from_doubling (suc (suc (suc (suc zero)))) n is = rw is (at_most_itself 1360)
from_doubling (suc (suc (suc (suc (suc zero))))) n is = rw is (at_most_itself 1000)
from_doubling (suc (suc (suc (suc (suc (suc j)))))) n is = at_last n (omega (arith, is))

saves : (n : ℕ) → Saves n
saves n =
    elim (cases_lt n 49) [
      | inl h ↦ at_first n h
      | inr h ↦ from_doubling (n - 49) n (omega (arith, h))
    ]

-- so much at most is saved by those that come while the pauses double
later_saved : (x : ℕ) → get_or (3760 ∷ 3760 ∷ 2800 ∷ 1880 ∷ 1040 ∷ 360 ∷ []) x 0 ≤ 3760
later_saved zero = omega arith
later_saved (suc zero) = omega arith
later_saved (suc (suc zero)) = omega arith
later_saved (suc (suc (suc zero))) = omega arith
later_saved (suc (suc (suc (suc zero)))) = omega arith
later_saved (suc (suc (suc (suc (suc zero))))) = omega arith
later_saved (suc (suc (suc (suc (suc (suc x)))))) = omega arith

saved_in_all : (g n : ℕ) → g ≤ 3760 → 980 * (50 - more n) + g ≤ 51780
saved_in_all g n h = omega (arith, h)

doubled : (x : ℕ) → 20 ≤ min (20 * 2 ^ x) 1000
doubled x = omega (arith, pow_pos x)

pause-least : (stood : ℕ) → 20 ≤ pause stood
pause-least stood = doubled _

-- no reminder comes, or so many take at least so long: each takes u milliseconds, but for the first, for what is saved, and for
-- what each time is worth that something goes on
abbrev Few : ℕ → ℕ → (ℕ → ℕ) → ℕ → ℕ → ℕ → ℕ → ℕ → Type 0
Few u worth credit floor stood last m k = (k ≡ 0) ⊎ (floor + u * k ≤ u + credit (more stood) + last + worth * m)

one_more : (u floor now last p a c x k : ℕ) → floor ≤ now → now ≤ last → u + c ≤ p + a → (k ≡ 0) ⊎ (now + p + u * k ≤ u + c + last + x) → (1 + k ≡ 0) ⊎ (floor + u * (1 + k) ≤ u + a + last + x)
one_more u floor now last p a c x k low in_time saving (inl none) = inr (rw none (omega (arith, low, in_time)))
one_more u floor now last p a c x k low in_time saving (inr few) = inr (omega (arith, low, saving, few))

went_on : (u worth floor first last g g0 a a0 m k : ℕ) → floor ≤ first + g → a0 + g ≤ a + worth + g0 → g0 ≤ g → (k ≡ 0) ⊎ (min floor (first + g0) + u * k ≤ u + a0 + last + worth * m) → (k ≡ 0) ⊎ (floor + u * k ≤ u + a + last + worth * (1 + m))
went_on u worth floor first last g g0 a a0 m k low fits less (inl none) = inl none
went_on u worth floor first last g g0 a a0 m k low fits less (inr few) = inr (omega (arith, low, fits, less, few))

-- no reminder comes before this time
stays_due : (floor first now last g p due : ℕ) → first ≤ now → now ≤ last → last + 1000 < 2 ^ 64 → p ≤ 1000 → g ≤ p → floor ≤ first + g → floor ≤ max first due → floor ≤ max now (min due (later now p))
stays_due floor first now last g p due rises in_time fits short less low before = omega (arith, rises, in_time, fits, short, less, low, before)

is_due_later : (floor first now last g p : ℕ) → first ≤ now → now ≤ last → last + 1000 < 2 ^ 64 → p ≤ 1000 → g ≤ p → floor ≤ first + g → floor ≤ max now (later now p)
is_due_later floor first now last g p rises in_time fits short less low = omega (arith, rises, in_time, fits, short, less, low)

rises_on : (floor first now g : ℕ) → first ≤ now → floor ≤ first + g → floor ≤ now + g
rises_on floor first now g rises low = omega (arith, rises, low)

is_over : (floor first now due : ℕ) → first ≤ now → due ≤ now → floor ≤ max first due → floor ≤ now
is_over floor first now due rises is before = omega (arith, rises, is, before)

after_it : (now last g p : ℕ) → now ≤ last → last + 1000 < 2 ^ 64 → p ≤ 1000 → g ≤ p → now + g ≤ max now (later now p)
after_it now last g p in_time fits short less = omega (arith, in_time, fits, short, less)

least_right : (x y : ℕ) → min x y ≤ y
least_right x y = omega arith

least_left : (x y z : ℕ) → x ≤ z → min x y ≤ z
least_left x y z h = omega (arith, h)

again_is_due : (has_asked is_due is_new : Bool) → is_again (asks_by has_asked is_due is_new) ≡ true → is_due ≡ true
again_is_due has_asked true is_new h = refl
again_is_due true false true h = cc
again_is_due true false false h = cc
again_is_due false false true h = cc
again_is_due false false false h = cc

to_the_last : {Q : Type 0} (es : List (Event Q)) (first last : ℕ) → Rise first es last → first ≤ last
to_the_last [] first last rise = rise
to_the_last (e ∷ es) first last rise = let h = to_the_last es (time_of first e) last rise.1 in omega (arith, rise.0, h)

-- each reminder is so long after the one before, at least
module _ {Q : Type 0} (s : QuorumSystem Q) (u worth : ℕ) (gap credit : ℕ → ℕ) (least : (n : ℕ) → gap n ≤ pause n) (grows : (n : ℕ) → gap 0 ≤ gap n) (saving : (n : ℕ) → u + credit (more n) ≤ gap n + credit n)
    (anew : (n : ℕ) → credit (more 0) + gap n ≤ credit (more n) + worth + gap 0) (last : ℕ) (fits : last + 1000 < 2 ^ 64) where
  none_here : (floor stood m k : ℕ) → Few u worth credit floor stood last m k → Few u worth credit floor stood last (0 + m) (0 + k)
  none_here floor stood m k few =
      let no_time : 0 + m ≡ m = omega arith in
      let no_more : 0 + k ≡ k = omega arith in
      rw (no_time, no_more) few

  -- a round, where those behind it are few whatever it leaves
  in_round : (b : OutboxState) (o : OpenedState Q) (es : List (Event Q)) (floor first now : ℕ) (a : Asks) → first ≤ now → now ≤ last → (is_again a ≡ true → b.due ≤ now) → floor ≤ first + gap b.stood → floor ≤ max first b.due
      → ((c : OutboxState) (f : ℕ) → f ≤ now + gap c.stood → f ≤ max now c.due → Few u worth credit f c.stood last (progresses es) (reminders s c es))
      → Few u worth credit floor b.stood last (0 + progresses es) ((if is_again a then 1 else 0) + reminders s (after_by s b o a now) es)
  in_round b o es floor first now Nothing rises in_time due low before rest =
      none_here floor b.stood (progresses es) (reminders s (after_by s b o Nothing now) es)
      (rest (after_by s b o Nothing now) floor (rises_on floor first now (gap b.stood) rises low) (stays_due floor first now last (gap b.stood) (pause b.stood) b.due rises in_time fits (pause-most b.stood) (least b.stood) low before))
  in_round b o es floor first now More rises in_time due low before rest =
      none_here floor b.stood (progresses es) (reminders s (after_by s b o More now) es)
      (rest (after_by s b o More now) floor (rises_on floor first now (gap b.stood) rises low) (stays_due floor first now last (gap b.stood) (pause b.stood) b.due rises in_time fits (pause-most b.stood) (least b.stood) low before))
  in_round b o es floor first now First rises in_time due low before rest =
      none_here floor b.stood (progresses es) (reminders s (after_by s b o First now) es)
      (rest (after_by s b o First now) floor (rises_on floor first now (gap b.stood) rises low) (is_due_later floor first now last (gap b.stood) (pause b.stood) rises in_time fits (pause-most b.stood) (least b.stood) low))
  in_round b o es floor first now Again rises in_time due low before rest =
      let p = pause (more b.stood) in
      let g = gap (more b.stood) in
      let no_time : 0 + progresses es ≡ progresses es = omega arith in
      rw no_time
      (one_more u floor now last g (credit (more b.stood)) (credit (more (more b.stood))) (worth * progresses es) (reminders s (after_by s b o Again now) es)
      (is_over floor first now b.due rises (due refl) before) in_time (saving (more b.stood))
      (rest (after_by s b o Again now) (now + g) (at_most_itself (now + g)) (after_it now last g p in_time fits (pause-most (more b.stood)) (least (more b.stood)))))

  -- something went on, where those behind it are few
  in_progress : (b c : OutboxState) (es : List (Event Q)) (floor first : ℕ) → c.stood ≡ 0 → floor ≤ first + gap b.stood → Few u worth credit (min floor (first + gap 0)) 0 last (progresses es) (reminders s c es)
      → Few u worth credit floor b.stood last (1 + progresses es) (0 + reminders s c es)
  in_progress b c es floor first is low few =
      let no_more : 0 + reminders s c es ≡ reminders s c es = omega arith in
      rw no_more
      (went_on u worth floor first last (gap b.stood) (gap 0) (credit (more b.stood)) (credit (more 0)) (progresses es) (reminders s c es) low (anew b.stood) (grows b.stood) few)

  few_from : (b : OutboxState) (es : List (Event Q)) (floor first : ℕ) → Rise first es last → floor ≤ first + gap b.stood → floor ≤ max first b.due → Few u worth credit floor b.stood last (progresses es) (reminders s b es)
  few_from b [] floor first rise low before = inl refl
  few_from b ((Waits ws) ∷ es) floor first rise low before =
      none_here floor b.stood (progresses es) (reminders s (happened s b (Waits ws)) es) (few_from (happened s b (Waits ws)) es floor first rise.1 low before)
  few_from b ((Answers number) ∷ es) floor first rise low before =
      in_progress b (happened s b (Answers number)) es floor first refl low
      (few_from (happened s b (Answers number)) es (min floor (first + gap 0)) first rise.1 (least_right floor (first + gap 0)) (least_left floor (first + gap 0) (max first b.due) before))
  few_from b (Moves ∷ es) floor first rise low before =
      in_progress b (happened s b Moves) es floor first refl low
      (few_from (happened s b Moves) es (min floor (first + gap 0)) first rise.1 (least_right floor (first + gap 0)) (least_left floor (first + gap 0) (max first b.due) before))
  few_from b ((Hears from asks) ∷ es) floor first rise low before =
      none_here floor b.stood (progresses es) (reminders s (happened s b (Hears from asks)) es) (few_from (happened s b (Hears from asks)) es floor first rise.1 low before)
  few_from b ((Owes who) ∷ es) floor first rise low before =
      none_here floor b.stood (progresses es) (reminders s (happened s b (Owes who)) es) (few_from (happened s b (Owes who)) es floor first rise.1 low before)
  few_from b ((KeepsOpen number) ∷ es) floor first rise low before =
      none_here floor b.stood (progresses es) (reminders s (happened s b (KeepsOpen number)) es) (few_from (happened s b (KeepsOpen number)) es floor first rise.1 low before)
  few_from b ((Rounds o now) ∷ es) floor first rise low before =
      in_round b o es floor first now (asks_of b o now) rise.0 (to_the_last es now last rise.1)
      (λ h. leb-true b.due now (again_is_due (has_asked b o) (nat_le b.due now) (is_new b o) h)) low before
      (λ c f low' before'. few_from c es f now rise.1 low' before')

each_20 : (first last stood m k : ℕ) → first ≤ last → Few 20 0 (λ n. 0) first stood last m k → k ≤ 1 + (last - first) / 20
each_20 first last stood m k rises (inl none) = omega (arith, none)
each_20 first last stood m k rises (inr few) = omega (arith, rises, few)

each_second : (first last stood m k : ℕ) → first ≤ last → Few 1000 52760 saved first stood last m k → k ≤ 53 * (1 + m) + (last - first) / 1000
each_second first last stood m k rises (inl none) = omega (arith, none)
each_second first last stood m k rises (inr few) =
    let most = saved_in_all (get_or (3760 ∷ 3760 ∷ 2800 ∷ 1880 ∷ 1040 ∷ 360 ∷ []) (min (more stood - 49) 6) 0) stood (later_saved (min (more stood - 49) 6)) in
    omega (arith, rises, few, most)

begins_anew : (n c : ℕ) → pause n ≤ 1000 → 51780 + pause n ≤ c + 52760 + 20
begins_anew n c h = omega (arith, h)

pub few_reminders : {Q : Type 0} (s : QuorumSystem Q) (b : OutboxState) (es : List (Event Q)) (first last : ℕ) → last + 1000 < 2 ^ 64 → Rise first es last
    → (reminders s b es ≤ 1 + (last - first) / 20) × (reminders s b es ≤ 53 * (1 + progresses es) + (last - first) / 1000)
few_reminders s b es first last fits rise =
    let rises = to_the_last es first last rise in
    let low : first ≤ first + pause b.stood = omega arith in
    let low_20 : first ≤ first + 20 = omega arith in
    let before : first ≤ max first b.due = omega arith in (
      each_20 first last b.stood (progresses es) (reminders s b es) rises
          (few_from s 20 0 (λ n. 20) (λ n. 0) pause-least (λ n. at_most_itself 20) (λ n. at_most_itself 20) (λ n. at_most_itself 20) last fits b es first first rise low_20 before),
      each_second first last b.stood (progresses es) (reminders s b es) rises
          (few_from s 1000 52760 pause saved (λ n. at_most_itself (pause n)) pause-least saves (λ n. begins_anew n (saved (more n)) (pause-most n)) last fits b es first first rise low before),
    )
