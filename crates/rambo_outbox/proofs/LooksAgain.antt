-- While somebody wishes for something somebody looks again
use Rattle.std.proofs.Common.{◌≡◌, ℕ, ◌+◌, ◌*◌, ◌-◌, ◌^◌, ◌≤◌, min, Bool, true, false, ◌||◌, if◌then◌else◌, None, Some, is_some, refl, arith}
use Rattle.rambo_names.specs.Quorums.{QuorumSystem}
use Rattle.rambo_outbox.specs.declared.asks.Asks.{Asks}
use Rattle.rambo_outbox.specs.declared.asks.Asks.TheVariants.{Nothing, More, First, Again}
use Rattle.rambo_outbox.specs.Outboxes.{OutboxState, OpenedState}
use Rattle.rambo_outbox.specs.Pauses.{pause, more, later}
use Rattle.rambo_outbox.specs.Rounds.{due_after, rebid_after, round_of}
use Rattle.rambo_outbox.specs.Wishes.{has_wished, has_wish, asks_of}

least_right : (x y z : ℕ) → y ≤ z → min x y ≤ z
least_right x y z h = omega (arith, h)

at_most_itself : (x : ℕ) → x ≤ x
at_most_itself x = omega arith

pub pause-most : (stood : ℕ) → pause stood ≤ 1000
pause-most stood = least_right _ 1000 1000 (at_most_itself 1000)

later-most : (now p : ℕ) → p ≤ 1000 → later now p ≤ now + 1000
later-most now p h = omega (arith, h)

due-most : (b : OutboxState) (a : Asks) (now : ℕ) → due_after b a now ≤ now + 1000
due-most b Nothing now = least_right b.due (later now (pause b.stood)) (now + 1000) (later-most now (pause b.stood) (pause-most b.stood))
due-most b More now = least_right b.due (later now (pause b.stood)) (now + 1000) (later-most now (pause b.stood) (pause-most b.stood))
due-most b First now = later-most now (pause b.stood) (pause-most b.stood)
due-most b Again now = later-most now (pause (more b.stood)) (pause-most (more b.stood))

wakes : (w some joins : Bool) (d r m : ℕ) → d ≤ m → (w || some || joins) ≡ true → (t : ℕ) × ((if w then Some (min d r) else (if some || joins then Some d else None)) ≡ Some t) × (t ≤ m)
wakes true some joins d r m low h = (min d r, refl, omega (arith, low))
wakes false true joins d r m low h = (d, refl, low)
wakes false false true d r m low h = (d, refl, low)
wakes false false false d r m low h = cc

pub looks_again : {Q : Type 0} (s : QuorumSystem Q) (b : OutboxState) (o : OpenedState Q) (now : ℕ) → has_wish b o ≡ true → (t : ℕ) × ((round_of s b o now).wake ≡ Some t) × (t ≤ now + 1000)
looks_again s b o now h =
    wakes (is_some o.bid) (has_wished b o) o.joins (due_after b (asks_of b o now) now) (rebid_after b o now) (now + 1000) (due-most b (asks_of b o now) now) h
