-- Letters that wait go to a tray one behind another
use Rattle.std.proofs.Common.{◌≡◌, ℕ, zero, suc, ◌-◌, ◌<◌, ◌≤◌, true, false, Bool, if◌then◌else◌, List, [], ◌∷◌, ◌++◌, length, map, take, drop, slice_get, slice_set, slice_index_or, None, Some, refl, sym, ap, ◌∙◌, append_assoc, append-nil, set-set, arith}
use Rattle.std.proofs.lemmas.List.{set-get_or}
use Rattle.rambo_run.specs.Worlds.{WorldState}
use Rattle.rambo_run.proofs.Lists.{none-some, some_inj}
use Rattle.rambo_mail.specs.declared.mail.Mail.{Mail}
use Rattle.rambo_mail.specs.Waiting.{waiting_for, with_waiting}
use Rattle.rambo_book.specs.Mailing.{comes_to, sent_to, IsBehind, AreTaken}

abbrev nothing : List ℕ
nothing = []

drop_nothing : (count : ℕ) → drop count nothing ≡ nothing
drop_nothing zero = refl
drop_nothing (suc count) = refl

-- what is left of a list in its place
left_here : (lists : List (List ℕ)) (i count : ℕ) → slice_index_or (slice_set lists i (drop count (slice_index_or lists i []))) i [] ≡ drop count (slice_index_or lists i [])
left_here [] i count = sym (drop_nothing count)
left_here (x ∷ xs) zero count = refl
left_here (x ∷ xs) (suc i) count = left_here xs i count

-- the first number that is left
record Next (ns : List ℕ) (count n : ℕ) : Type 0 where
  pub below : count < length ns
  pub taken : take (suc count) ns ≡ take count ns ++ n ∷ []
  pub rest : drop 1 (drop count ns) ≡ drop (suc count) ns

next : (ns : List ℕ) (count n : ℕ) → slice_get (drop count ns) 0 ≡ Some n → Next ns count n
next [] zero n e = absurd (none-some n e)
next [] (suc count) n e = absurd (none-some n e)
next (x ∷ ns) zero n e = record { below = omega arith; taken = ap (λ n. n ∷ []) (some_inj x n e); rest = refl }
next (x ∷ ns) (suc count) n e = let r = next ns count n e in record { below = omega (arith, r.below); taken = ap (λ l. x ∷ l) r.taken; rest = r.rest }

-- none is left
ended : (ns : List ℕ) (count : ℕ) → slice_get (drop count ns) 0 ≡ None → length ns ≤ count
ended [] count e = omega arith
ended (x ∷ ns) zero e = absurd (none-some x (sym e))
ended (x ∷ ns) (suc count) e = (let r = ended ns count e in omega (arith, r))

chosen_append : (b : Bool) (n : ℕ) (xs ys : List ℕ) → (if b then n ∷ (xs ++ ys) else (xs ++ ys)) ≡ (if b then n ∷ xs else xs) ++ ys
chosen_append true n xs ys = refl
chosen_append false n xs ys = refl

sent_append : {Q : Type 0} (w : WorldState Q) (gone name : ℕ) (xs ys : List ℕ) → sent_to w gone name (xs ++ ys) ≡ sent_to w gone name xs ++ sent_to w gone name ys
sent_append w gone name [] ys = refl
sent_append w gone name (x ∷ xs) ys =
    ap (λ l. if comes_to w gone name x then x ∷ l else l) (sent_append w gone name xs ys) ∙ chosen_append (comes_to w gone name x) x (sent_to w gone name xs) (sent_to w gone name ys)

map_append : {A B : Type 0} (f : A → B) (xs ys : List A) → map f (xs ++ ys) ≡ map f xs ++ map f ys
map_append f [] ys = refl
map_append f (x ∷ xs) ys = ap (λ l. f x ∷ l) (map_append f xs ys)

-- nothing more is in a tray
pub nothing_behind : {Q : Type 0} (tray : List (Mail Q)) → IsBehind tray [] tray
nothing_behind tray = record { more = []; tray = sym (append-nil tray); numbered = refl }

behind_both : {Q : Type 0} (before mid after : List (Mail Q)) (ns ms : List ℕ) → IsBehind before ns mid → IsBehind mid ms after → IsBehind before (ns ++ ms) after
behind_both before mid after ns ms h k = record {
  more = h.more ++ k.more;
  tray = k.tray ∙ ap (λ l. l ++ k.more) h.tray ∙ append_assoc before h.more k.more;
  numbered = map_append (λ (m : Mail _). m.number) h.more k.more ∙ (λ i. h.numbered i ++ k.numbered i);
}

module _ {Q : Type 0} (w : WorldState Q) (gone name : ℕ) (lists : List (List ℕ)) (before : List (Mail Q)) where
  pub none_taken : AreTaken w gone name 0 lists lists before before
  none_taken = record { taken = nothing_behind before; others = sym (set-get_or lists (name - 1) []) }

  left_is : (count : ℕ) (left : List (List ℕ)) (mid : List (Mail Q)) → AreTaken w gone name count lists left before mid → waiting_for left name ≡ drop count (waiting_for lists name)
  left_is count left mid t = ap (λ l. waiting_for l name) t.others ∙ left_here lists (name - 1) count

  pub next_below : (count n : ℕ) (left : List (List ℕ)) (mid : List (Mail Q)) → AreTaken w gone name count lists left before mid → Some n ≡ slice_get (waiting_for left name) 0 → count < length (waiting_for lists name)
  next_below count n left mid t e = (next (waiting_for lists name) count n (ap (λ l. slice_get l 0) (sym (left_is count left mid t)) ∙ sym e)).below

  -- the next one is in the tray too
  pub one_more : (count n : ℕ) (left : List (List ℕ)) (mid after : List (Mail Q)) → AreTaken w gone name count lists left before mid → Some n ≡ slice_get (waiting_for left name) 0
      → IsBehind mid (sent_to w gone name (n ∷ [])) after → AreTaken w gone name (suc count) lists (with_waiting left name (drop 1 (waiting_for left name))) before after
  one_more count n left mid after t e h =
      let ns = waiting_for lists name in
      let r = next ns count n (ap (λ l. slice_get l 0) (sym (left_is count left mid t)) ∙ sym e) in
      let b = behind_both before mid after (sent_to w gone name (take count ns)) (sent_to w gone name (n ∷ [])) t.taken h in
      record {
        taken = record { more = b.more; tray = b.tray; numbered = b.numbered ∙ sym (sent_append w gone name (take count ns) (n ∷ [])) ∙ ap (sent_to w gone name) (sym r.taken) };
        others =
            (λ i. slice_set (t.others i) (name - 1) ((ap (drop 1) (left_is count left mid t) ∙ r.rest) i))
            ∙ set-set lists (name - 1) (drop count ns) (drop (suc count) ns);
      }

  -- all are
  pub all_taken : (count : ℕ) (left : List (List ℕ)) (mid : List (Mail Q)) → AreTaken w gone name count lists left before mid → count ≤ length (waiting_for lists name)
      → None ≡ slice_get (waiting_for left name) 0 → count ≡ length (waiting_for lists name)
  all_taken count left mid t most e =
      let past = ended (waiting_for lists name) count (ap (λ l. slice_get l 0) (sym (left_is count left mid t)) ∙ sym e) in
      omega (arith, past, most)

-- fewer wait then
one_less : (ns : List ℕ) (n : ℕ) → Some n ≡ slice_get ns 0 → length (drop 1 ns) < length ns
one_less [] n e = absurd (none-some n (sym e))
one_less (x ∷ ns) n e = omega arith

pub fewer : (left after : List (List ℕ)) (name n : ℕ) → Some n ≡ slice_get (waiting_for left name) 0 → after ≡ with_waiting left name (drop 1 (waiting_for left name)) → length (waiting_for after name) < length (waiting_for left name)
fewer left after name n first is =
    let less = one_less (waiting_for left name) n first in
    let same = ap length (ap (λ l. waiting_for l name) is ∙ left_here left (name - 1) 1) in
    omega (arith, less, same)
