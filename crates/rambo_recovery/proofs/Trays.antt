-- What is in a tray, once letters came or left
use Rattle.std.proofs.Common.{◌≡◌, ◌⊎◌, ℕ, zero, suc, ◌+◌, ◌-◌, ◌<◌, Bool, true, false, nat_eq, if◌then◌else◌, List, [], ◌∷◌, ◌++◌, length, map, replicate, take, Some, slice_get, refl, sym, ap, ◌∙◌, subst, inl, inr, arith, eqb-true}
use Rattle.std.proofs.lemmas.Bool.{true≢false}
use Rattle.std.proofs.lemmas.List.{get_or-set_same, length-set, take_all}
use Rattle.rambo_mail.specs.declared.mail.Mail.{Mail}
use Rattle.rambo_mail.specs.Waiting.{divides, drop_gone_numbers, times, waiting_for}
use Rattle.rambo_joiner.specs.Statuses.{is_stopped}
use Rattle.rambo_pass.specs.Passes.{HasStopped}
use Rattle.rambo_run.specs.Worlds.{WorldState, node_at}
use Rattle.rambo_run.proofs.Legal.{get-left}
use Rattle.rambo_run.proofs.Lists.{none-some, some_inj}
use Rattle.rambo_book.specs.Kept.{BookView, KeeperView}
use Rattle.rambo_book.specs.Mailing.{AreTaken, IsBehind, all_for, comes_to, sent_to, waiting_after, without}
use Rattle.rambo_book.specs.Readying.{IsIn}

pub get_right : {A : Type 0} (xs ys : List A) (i : ℕ) → slice_get (xs ++ ys) (length xs + i) ≡ slice_get ys i
get_right [] ys i = (let none : 0 + i ≡ i = omega arith in ap (slice_get ys) none)
get_right (x ∷ xs) ys i = (let next : suc (length xs) + i ≡ suc (length xs + i) = omega arith in ap (slice_get (x ∷ (xs ++ ys))) next ∙ get_right xs ys i)

pub get_last : {A : Type 0} (xs : List A) (x : A) (rest : List A) → slice_get (xs ++ x ∷ rest) (length xs) ≡ Some x
get_last [] x rest = refl
get_last (y ∷ xs) x rest = get_last xs x rest

-- another letter stays where the first one of a number leaves
left_without : {Q : Type 0} (b : Bool) (m : Mail Q) (ms left : List (Mail Q)) (n : ℕ) → ((b ≡ true) → m.number ≡ n → ⊥) → (IsIn ms n → IsIn left n) → IsIn (m ∷ ms) n → IsIn (if b then ms else m ∷ left) n
left_without true m ms left n other more (zero, k, e, is) = absurd (other refl (ap (λ (m : Mail _). m.number) (some_inj m k e) ∙ is))
left_without true m ms left n other more (suc i, k, e, is) = (i, k, e, is)
left_without false m ms left n other more (zero, k, e, is) = (zero, k, e, is)
left_without false m ms left n other more (suc i, k, e, is) = (let r = more (i, k, e, is) in (suc r.0, r.1, r.2, r.3))

pub without_keeps : {Q : Type 0} (tray : List (Mail Q)) (number n : ℕ) → (n ≡ number → ⊥) → IsIn tray n → IsIn (without tray number) n
without_keeps [] number n other h = h
without_keeps (m ∷ ms) number n other h = left_without (nat_eq m.number number) m ms (without ms number) n (λ same is. other (sym is ∙ eqb-true m.number number same)) (without_keeps ms number n other) h

-- letters that came are in the tray, and those that were there
pub before_in : {Q : Type 0} (before after : List (Mail Q)) (ns : List ℕ) (n : ℕ) → IsBehind before ns after → IsIn before n → IsIn after n
before_in before after ns n h (place, m, e, is) = (place, m, ap (λ l. slice_get l place) h.tray ∙ get-left before h.more place m e, is)

numbered_in : {Q : Type 0} (more : List (Mail Q)) (place n : ℕ) → slice_get (map (λ (m : Mail Q). m.number) more) place ≡ Some n → (m : Mail Q) × (slice_get more place ≡ Some m) × (m.number ≡ n)
numbered_in [] place n e = absurd (none-some n e)
numbered_in (m ∷ more) zero n e = (m, refl, some_inj m.number n e)
numbered_in (m ∷ more) (suc i) n e = numbered_in more i n e

pub behind_in : {Q : Type 0} (before after : List (Mail Q)) (ns : List ℕ) (place n : ℕ) → IsBehind before ns after → slice_get ns place ≡ Some n → IsIn after n
behind_in before after ns place n h e =
    let m = numbered_in h.more place n (ap (λ l. slice_get l place) h.numbered ∙ e) in
    (length before + place, m.0, ap (λ l. slice_get l (length before + place)) h.tray ∙ get_right before h.more place ∙ m.1, m.2)

-- a letter that comes is one of those that come
come_more : (b : Bool) (n : ℕ) (ns : List ℕ) (place k : ℕ) → slice_get ns place ≡ Some k → (at : ℕ) × (slice_get (if b then n ∷ ns else ns) at ≡ Some k)
come_more true n ns place k e = (suc place, e)
come_more false n ns place k e = (place, e)

pub sent_keeps : {Q : Type 0} (w : WorldState Q) (gone name : ℕ) (ns : List ℕ) (place n : ℕ) → slice_get ns place ≡ Some n → comes_to w gone name n ≡ true → (at : ℕ) × (slice_get (sent_to w gone name ns) at ≡ Some n)
sent_keeps w gone name [] place n e comes = absurd (none-some n e)
sent_keeps w gone name (k ∷ ns) zero n e comes = (zero, ap (λ b. slice_get (if b then k ∷ sent_to w gone name ns else sent_to w gone name ns) 0) (ap (comes_to w gone name) (some_inj k n e) ∙ comes) ∙ e)
sent_keeps w gone name (k ∷ ns) (suc i) n e comes = (let r = sent_keeps w gone name ns i n e comes in come_more (comes_to w gone name k) k (sent_to w gone name ns) r.0 n r.1)

-- the letter that was sent last waits, if it isn't lost
last_of : (lost twice : Bool) (xs : List ℕ) (number : ℕ) → lost ≡ false → slice_get (xs ++ replicate (if lost then 0 else if twice then 2 else 1) number) (length xs) ≡ Some number
last_of true twice xs number e = absurd (true≢false e)
last_of false true xs number e = get_last xs number (number ∷ [])
last_of false false xs number e = get_last xs number []

pub last_waits : {Q : Type 0} (b : BookView Q) (to gone number : ℕ) → to - 1 < length b.waiting → divides b.lose number ≡ false
    → slice_get (waiting_for (waiting_after b (to ∷ []) gone number) to) (length (drop_gone_numbers gone (waiting_for b.waiting to))) ≡ Some number
last_waits b to gone number there kept =
    let before = drop_gone_numbers gone (waiting_for b.waiting to) in
    ap (λ l. slice_get l (length before)) (get_or-set_same b.waiting (to - 1) (before ++ replicate (times b.lose b.twice number) number) [] there)
    ∙ last_of (divides b.lose number) (divides b.twice number) before number kept

-- there are as many lists of letters that wait as before
pub as_many : {Q : Type 0} (b : BookView Q) (ns : List ℕ) (gone number : ℕ) → length (waiting_after b ns gone number) ≡ length b.waiting
as_many b [] gone number = refl
as_many b (to ∷ ns) gone number = length-set b.waiting (to - 1) (drop_gone_numbers gone (waiting_for b.waiting to) ++ replicate (times b.lose b.twice number) number)

-- a letter that waits and comes is in the tray of whoever takes all, unless they have stopped
comes_by : {Q : Type 0} (stopped : Bool) (w : WorldState Q) (gone : ℕ) (k : KeeperView Q) (after : List (Mail Q)) (lists left : List (List ℕ)) → is_stopped k.node.status ≡ stopped → node_at w k.name ≡ Some k.node
    → AreTaken w gone k.name (all_for k lists) lists left k.tray after → (place n : ℕ) → slice_get (waiting_for lists k.name) place ≡ Some n → comes_to w gone k.name n ≡ true → HasStopped w k.name ⊎ IsIn after n
comes_by true w gone k after lists left is here t place n e comes = inl (k.node, (here, is))
comes_by false w gone k after lists left is here t place n e comes =
    let ws = waiting_for lists k.name in
    let whole = subst (λ count. AreTaken w gone k.name count lists left k.tray after) (ap (λ b. if b then 0 else length ws) is) t in
    let all : take (length ws) ws ≡ ws = take_all (length ws) ws (omega arith) in
    let r = sent_keeps w gone k.name (take (length ws) ws) place n (ap (λ l. slice_get l place) all ∙ e) comes in
    inr (behind_in k.tray after (sent_to w gone k.name (take (length ws) ws)) r.0 n whole.taken r.1)

pub comes_in : {Q : Type 0} (w : WorldState Q) (gone : ℕ) (k : KeeperView Q) (after : List (Mail Q)) (lists left : List (List ℕ)) → node_at w k.name ≡ Some k.node
    → AreTaken w gone k.name (all_for k lists) lists left k.tray after → (place n : ℕ) → slice_get (waiting_for lists k.name) place ≡ Some n → comes_to w gone k.name n ≡ true → HasStopped w k.name ⊎ IsIn after n
comes_in w gone k after lists left here t place n e comes = comes_by (is_stopped k.node.status) w gone k after lists left refl here t place n e comes
