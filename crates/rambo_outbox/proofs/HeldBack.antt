-- Entries whose calls aren't open hold nobody back
use Rattle.std.proofs.Common.{◌≡◌, ℕ, Bool, true, false, not, ◌&&◌, ◌||◌, cond, if◌then◌else◌, nat_le, nat_lt, nat_eq, List, [], ◌∷◌, ◌++◌, filter, option_to_list, Option, None, Some, refl, sym, ap, ◌∙◌, eqb-true, eq-eqb}
use Rattle.std.specs.List.{list_any}
use Rattle.std.specs.FinSet as set
use Rattle.rambo_names.specs.Quorums.{QuorumSystem}
use Rattle.rambo_outbox.specs.declared.entry.Entry.{Entry}
use Rattle.rambo_outbox.specs.declared.round.Round.{Round}
use Rattle.rambo_outbox.specs.Bids.{is_asked_bid, is_new_bid}
use Rattle.rambo_outbox.specs.Laws.{is_open, opened_only}
use Rattle.rambo_outbox.specs.Outboxes.{OutboxState, OpenedState, CallNumbers, is_idle}
use Rattle.rambo_outbox.specs.Rounds.{whom, due_after, rebid_after, wake_of, round_of}
use Rattle.rambo_outbox.specs.Waiting.{is_of, is_waited}
use Rattle.rambo_outbox.specs.Wishes.{phases, wished, greatest, asks_by}

-- an entry that is left out unless its call is open
entry_kept : (stays : Bool) (n : ℕ) (e : Entry) (es : List Entry) (t : Bool) → nat_eq e.number n ≡ t → (t ≡ true → stays ≡ true)
    → list_any (is_of n) (cond stays (e ∷ es) es) ≡ (t || list_any (is_of n) es)
entry_kept true n e es t is needs = ap (λ u. u || list_any (is_of n) es) is
entry_kept false n e es true is needs = cc (needs refl)
entry_kept false n e es false is needs = refl

-- who waits for an open call stays
waited_kept : (all : List CallNumbers) (n : ℕ) (es : List Entry) → list_any (λ c. nat_eq c.number n) all ≡ true → is_waited (filter (is_open all) es) n ≡ is_waited es n
waited_kept all n [] isopen = refl
waited_kept all n (e ∷ es) isopen =
    entry_kept (is_open all e) n e (filter (is_open all) es) (nat_eq e.number n) refl
    (λ same. ap (λ m. list_any (λ c. nat_eq c.number m) all) (eqb-true e.number n same) ∙ isopen)
    ∙ ap (λ u. nat_eq e.number n || u) (waited_kept all n es isopen)

behind : (a b : Bool) → b ≡ true → (a || b) ≡ true
behind true b h = refl
behind false b h = h

front : (a b : Bool) → a ≡ true → (a || b) ≡ true
front true b h = refl
front false b h = cc

phases_kept : (b : OutboxState) (room : Bool) (all cs : List CallNumbers) → ((n : ℕ) → list_any (λ c. nat_eq c.number n) cs ≡ true → list_any (λ c. nat_eq c.number n) all ≡ true)
    → phases (record b { waiting = filter (is_open all) b.waiting }) room cs ≡ phases b room cs
phases_kept b room all [] among = refl
phases_kept b room all (c ∷ cs) among =
    let here = waited_kept all c.number b.waiting (among c.number (front (nat_eq c.number c.number) (list_any (λ d. nat_eq d.number c.number) cs) (eq-eqb c.number c.number refl))) in
    let rest = phases_kept b room all cs (λ n h. among n (behind (nat_eq c.number n) (list_any (λ d. nat_eq d.number n) cs) h)) in
    ap (λ w. if w || (room && not (is_idle b.idle c.number)) then c.phase ∷ phases (record b { waiting = filter (is_open all) b.waiting }) room cs else phases (record b { waiting = filter (is_open all) b.waiting }) room cs) here
    ∙ ap (λ ps. if is_waited b.waiting c.number || (room && not (is_idle b.idle c.number)) then c.phase ∷ ps else ps) rest

pub held_back : {Q : Type 0} (s : QuorumSystem Q) (b : OutboxState) (o : OpenedState Q) (now : ℕ) → round_of s (opened_only o b) o now ≡ round_of s b o now
held_back s b o now =
    let same : wished (opened_only o b) o ≡ wished b o = ap (λ ps. ps ++ option_to_list o.collection) (phases_kept b o.wants_room o.calls o.calls (λ n h. h)) in
    let asks = λ (ns : List ℕ). asks_by (list_any (λ n. nat_le n b.asked) ns || is_asked_bid b.bid o.bid || (o.joins && b.joins)) (nat_le b.due now) (is_new_bid b.bid o.bid || (o.joins && not b.joins) || (not (list_any (λ n. nat_le n b.asked) ns) && nat_lt b.asked (greatest ns))) in
    let round : List ℕ → Round = λ ns. record { asked = whom s b o (asks ns); owed = set.intersection b.owes o.reach; wake = wake_of (list_any (λ n. true) ns) o (due_after b (asks ns) now) (rebid_after b o now) } in
    ap round same
