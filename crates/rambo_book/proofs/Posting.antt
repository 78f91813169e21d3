-- What the mail of a book comes to with a step, by the numbers of the letters
use Rattle.std.proofs.Common.{◌≡◌, ℕ, zero, suc, ◌-◌, Bool, true, false, nat_le, if◌then◌else◌, List, [], ◌∷◌, ◌++◌, map, length, drop, replicate, slice_get, slice_set, slice_index_or, Option, None, Some, option_map, option_to_list, refl, sym, ap, ◌∙◌, arith}
use Rattle.std.proofs.lemmas.List.{map-append}
use Rattle.rambo_node.specs.Steps.{Step}
use Rattle.rambo_mail.specs.declared.entry.Entry.{Entry}
use Rattle.rambo_mail.specs.declared.posting.Posting.{Posting}
use Rattle.rambo_mail.specs.Waiting.{MailState, drop_gone, drop_gone_numbers, number_of, numbers_of, waiting_for, with_waiting, times, sent_if, posted}
use Rattle.rambo_book.specs.Kept.{BookView}
use Rattle.rambo_book.specs.Mailing.{waiting_after}

abbrev head_of : ℕ → List ℕ → ℕ
head_of d [] = d
head_of d (n ∷ ns) = n

-- two names that are the same list
pub same_to : (o p : Option ℕ) (l : List ℕ) → option_to_list o ≡ l → option_to_list p ≡ l → o ≡ p
same_to None None l e f = refl
same_to None (Some n) l e f = absurd (omega (arith, ap length (e ∙ sym f)))
same_to (Some n) None l e f = absurd (omega (arith, ap length (e ∙ sym f)))
same_to (Some n) (Some m) l e f = ap (λ l. Some (head_of n l)) (e ∙ sym f)

-- the numbers of one of the lists, and of all where one changes
numbers_at : (lists : List (List Entry)) (i : ℕ) → map number_of (slice_index_or lists i []) ≡ slice_index_or (numbers_of lists) i []
numbers_at [] i = refl
numbers_at (l ∷ lists) zero = refl
numbers_at (l ∷ lists) (suc i) = numbers_at lists i

numbers_put : (lists : List (List Entry)) (i : ℕ) (new : List Entry) → numbers_of (slice_set lists i new) ≡ slice_set (numbers_of lists) i (map number_of new)
numbers_put [] i new = refl
numbers_put (l ∷ lists) zero new = refl
numbers_put (l ∷ lists) (suc i) new = ap (λ ns. map number_of l ∷ ns) (numbers_put lists i new)

numbers_same : (n : ℕ) (e : Entry) → map number_of (replicate n e) ≡ replicate n e.number
numbers_same zero e = refl
numbers_same (suc n) e = ap (λ ns. e.number ∷ ns) (numbers_same n e)

numbers_left : (es : List Entry) → map number_of (drop 1 es) ≡ drop 1 (map number_of es)
numbers_left [] = refl
numbers_left (e ∷ es) = refl

first_of : (es : List Entry) → option_map number_of (slice_get es 0) ≡ slice_get (map number_of es) 0
first_of [] = refl
first_of (e ∷ es) = refl

-- the number of the letter that waits for a name for the longest time
pub first_number : (lists : List (List Entry)) (name : ℕ) → option_map number_of (slice_get (waiting_for lists name) 0) ≡ slice_get (waiting_for (numbers_of lists) name) 0
first_number lists name = first_of (waiting_for lists name) ∙ ap (λ ns. slice_get ns 0) (numbers_at lists (name - 1))

-- and those of all where that waits no more
pub numbers_rest : (lists : List (List Entry)) (name : ℕ) → numbers_of (with_waiting lists name (drop 1 (waiting_for lists name))) ≡ with_waiting (numbers_of lists) name (drop 1 (waiting_for (numbers_of lists) name))
numbers_rest lists name =
    numbers_put lists (name - 1) (drop 1 (waiting_for lists name))
    ∙ ap (slice_set (numbers_of lists) (name - 1)) (numbers_left (waiting_for lists name) ∙ ap (drop 1) (numbers_at lists (name - 1)))

sent_lose : (m : MailState) (o : Option ℕ) (e : Entry) (gone : ℕ) → (sent_if m o e gone).lose ≡ m.lose
sent_lose m None e gone = refl
sent_lose m (Some to) e gone = refl

sent_twice : (m : MailState) (o : Option ℕ) (e : Entry) (gone : ℕ) → (sent_if m o e gone).twice ≡ m.twice
sent_twice m None e gone = refl
sent_twice m (Some to) e gone = refl

pub posted_lose : (m : MailState) (p : Posting) (n gone : ℕ) → (posted m p n gone).lose ≡ m.lose
posted_lose m p n gone = sent_lose m p.to (record { number = n; asks = p.asks }) gone

pub posted_twice : (m : MailState) (p : Posting) (n gone : ℕ) → (posted m p n gone).twice ≡ m.twice
posted_twice m p n gone = sent_twice m p.to (record { number = n; asks = p.asks }) gone

-- those that are left where the gone ones have left, by their numbers
numbers_by : (gone : ℕ) (e : Entry) (es : List Entry) (b : Bool) → map number_of (drop_gone gone es) ≡ drop_gone_numbers gone (map number_of es)
    → map number_of (if b then drop_gone gone es else e ∷ es) ≡ (if b then drop_gone_numbers gone (map number_of es) else e.number ∷ map number_of es)
numbers_by gone e es true rest = rest
numbers_by gone e es false rest = refl

numbers_kept : (gone : ℕ) (es : List Entry) → map number_of (drop_gone gone es) ≡ drop_gone_numbers gone (map number_of es)
numbers_kept gone [] = refl
numbers_kept gone (e ∷ es) = numbers_by gone e es (nat_le e.number gone) (numbers_kept gone es)

-- what is put in a list's place, and then changed there
put_twice : {A : Type 0} (xs : List (List A)) (i : ℕ) (a r : List A) → slice_set (slice_set xs i a) i (slice_index_or (slice_set xs i a) i [] ++ r) ≡ slice_set xs i (a ++ r)
put_twice [] i a r = refl
put_twice (x ∷ xs) zero a r = refl
put_twice (x ∷ xs) (suc i) a r = ap (λ l. x ∷ l) (put_twice xs i a r)

numbers_left_more : (lists : List (List Entry)) (name often gone : ℕ) (e : Entry)
    → numbers_of (with_waiting (with_waiting lists name (drop_gone gone (waiting_for lists name))) name (waiting_for (with_waiting lists name (drop_gone gone (waiting_for lists name))) name ++ replicate often e))
    ≡ with_waiting (numbers_of lists) name (drop_gone_numbers gone (waiting_for (numbers_of lists) name) ++ replicate often e.number)
numbers_left_more lists name often gone e =
    let ns = waiting_for lists name in
    ap numbers_of (put_twice lists (name - 1) (drop_gone gone ns) (replicate often e))
    ∙ numbers_put lists (name - 1) (drop_gone gone ns ++ replicate often e)
    ∙ ap (slice_set (numbers_of lists) (name - 1))
    (map-append number_of (drop_gone gone ns) (replicate often e) ∙ (λ i. (numbers_kept gone ns ∙ ap (drop_gone_numbers gone) (numbers_at lists (name - 1))) i ++ numbers_same often e i))

-- with the mail of a book so, its letters wait so
module _ {Q : Type 0} (f : Q) (steps : List (Step Q)) (drawn capacity ahead : ℕ) where
  abbrev pub kept_with : MailState → BookView Q
  kept_with m = record { founders = f; steps = steps; drawn = drawn; capacity = capacity; ahead = ahead; waiting = numbers_of m.waiting; lose = m.lose; twice = m.twice }

  sent_waiting : (m : MailState) (o : Option ℕ) (e : Entry) (gone : ℕ) → numbers_of (sent_if m o e gone).waiting ≡ waiting_after (kept_with m) (option_to_list o) gone e.number
  sent_waiting m None e gone = refl
  sent_waiting m (Some to) e gone = numbers_left_more m.waiting to (times m.lose m.twice e.number) gone e

  pub posted_waiting : (m : MailState) (p : Posting) (n gone : ℕ) → numbers_of (posted m p n gone).waiting ≡ waiting_after (kept_with m) (option_to_list p.to) gone n
  posted_waiting m p n gone = sent_waiting m p.to (record { number = n; asks = p.asks }) gone
