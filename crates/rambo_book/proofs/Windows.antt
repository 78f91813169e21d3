-- The letters that are kept, behind those that are gone
use Rattle.std.proofs.Common.{◌≡◌, ℕ, zero, suc, ◌+◌, ◌-◌, ◌<◌, ◌≤◌, Bool, true, false, not, nat_le, nat_lt, if◌then◌else◌, List, [], ◌∷◌, ◌++◌, length, take, drop, slice_get, slice_set, Option, None, Some, IfSome, Bor, refl, sym, ap, ◌∙◌, subst, append_assoc, inl, inr, true≢false, arith}
use Rattle.std.specs.Option.{option_and_then, option_copied, option_map, option_map_or}
use Rattle.std.proofs.lemmas.List.{length-append}
use Rattle.std.proofs.lemmas.Bool.{ltb-true, ltb-false, leb-false, leb-true, le-ltb}
use Rattle.std.specs.FinMap as map
use mathlib.Core.List.{IsPrefix}
use Rattle.rambo_names.specs.declared.refusal.Refusal.{Refusal}
use Rattle.rambo_names.specs.declared.refusal.Refusal.TheVariants.{LetterGone}
use Rattle.rambo_names.specs.Quorums.{QuorumSystem}
use Rattle.rambo_gossip.specs.Letters.{LetterState, letter_with}
use Rattle.rambo_node.specs.Changes.{made_by}
use Rattle.rambo_node.specs.Nodes.{NodeState}
use Rattle.rambo_node.specs.Acts.{Act, Meant, meant_by, name_in}
use Rattle.rambo_node.proofs.Short.{whole_is_short}
use Rattle.rambo_node.specs.Steps.{Step, delivered_by}
use Rattle.rambo_node.specs.declared.step.StepOf.TheVariants as step
use Rattle.rambo_run.specs.Runs.{after, run, run_from, unless_refused}
use Rattle.rambo_run.specs.Steps.{meant_in, refusal, turn, turn_at, turn_of, meant, with_letter, letter_in}
use Rattle.rambo_run.specs.Worlds.{WorldState, first_world, held_by, letter_at, node_at}
use Rattle.rambo_run.proofs.GoingOn.{run_is}
use Rattle.rambo_run.proofs.Legal.{run-grows}
use Rattle.rambo_run.proofs.Lists.{none-some, some_inj}
use Rattle.rambo_book.specs.Kept.{AreSent, IsLetterOf, IsServedBy, StandsFor, lightened, lightened_at}
use Rattle.rambo_book.specs.Windows.{LettersView, completed, delivers_gone, gone_of, is_gone, kept_at, kept_in, refused_in, window_of}
use Rattle.rambo_book.proofs.Firsts.{none_named, served_own}
use Rattle.rambo_book.proofs.Standing.{letters_paired, light_count}

-- the window of a book
again : (b : Bool) → not (not b) ≡ b
again true = refl
again false = refl

pub window_is : (endless : Bool) (most : ℕ) (keeps_all : Bool) (capacity window : ℕ) → window ≡ window_of (not keeps_all) capacity → keeps_all ≡ not endless → capacity ≡ most → window ≡ window_of endless most
window_is endless most keeps_all capacity window is all same = is ∙ (λ i. window_of (not (all i)) (same i)) ∙ ap (λ b. window_of b most) (again endless)

-- lists of which a beginning is that of another one
pub take_count : {A : Type 0} (g : ℕ) (xs : List A) → g ≤ length xs → length (take g xs) ≡ g
take_count zero xs le = refl
take_count (suc g) [] le = absurd (omega (arith, le))
take_count (suc g) (x ∷ xs) le = ap suc (take_count g xs (omega (arith, le)))

get_behind : {A : Type 0} (xs ys : List A) (i : ℕ) → length xs ≤ i → slice_get (xs ++ ys) i ≡ slice_get ys (i - length xs)
get_behind [] ys i le = ap (slice_get ys) (omega arith)
get_behind (x ∷ xs) ys zero le = absurd (omega (arith, le))
get_behind (x ∷ xs) ys (suc i) le = get_behind xs ys i (omega (arith, le)) ∙ ap (slice_get ys) (omega arith)

-- one of the beginning is that of the list
get_before : {A : Type 0} (g : ℕ) (xs ys : List A) (i : ℕ) → g ≤ length xs → i < g → slice_get (take g xs ++ ys) i ≡ slice_get xs i
get_before zero xs ys i le lt = absurd (omega (arith, lt))
get_before (suc g) [] ys i le lt = absurd (omega (arith, le))
get_before (suc g) (x ∷ xs) ys zero le lt = refl
get_before (suc g) (x ∷ xs) ys (suc i) le lt = get_before g xs ys i (omega (arith, le)) (omega (arith, lt))

-- and one behind it that of the others
get_kept : {A : Type 0} (g : ℕ) (xs ys : List A) (i : ℕ) → g ≤ length xs → g ≤ i → slice_get (take g xs ++ ys) i ≡ slice_get ys (i - g)
get_kept g xs ys i le past =
    let count = take_count g xs le in
    get_behind (take g xs) ys i (omega (arith, count, past)) ∙ ap (λ n. slice_get ys (i - n)) count

get_dropped : {A : Type 0} (e : ℕ) (xs : List A) (i : ℕ) → slice_get (drop e xs) i ≡ slice_get xs (e + i)
get_dropped zero xs i = ap (slice_get xs) (omega arith)
get_dropped (suc e) [] i = refl
get_dropped (suc e) (x ∷ xs) i = (let next : suc (e + i) ≡ suc e + i = omega arith in get_dropped e xs i ∙ ap (slice_get (x ∷ xs)) next)

set_behind : {A : Type 0} (xs ys : List A) (i : ℕ) (a : A) → slice_set (xs ++ ys) (length xs + i) a ≡ xs ++ slice_set ys i a
set_behind [] ys i a = ap (λ n. slice_set ys n a) (omega arith)
set_behind (x ∷ xs) ys i a = (let next : suc (length xs) + i ≡ suc (length xs + i) = omega arith in ap (λ n. slice_set (x ∷ (xs ++ ys)) n a) next ∙ ap (λ l. x ∷ l) (set_behind xs ys i a))

take_more : {A : Type 0} (g : ℕ) (xs ys : List A) → g ≤ length xs → take g (xs ++ ys) ≡ take g xs
take_more zero xs ys le = refl
take_more (suc g) [] ys le = absurd (omega (arith, le))
take_more (suc g) (x ∷ xs) ys le = ap (λ l. x ∷ l) (take_more g xs ys (omega (arith, le)))

pub drop_count : {A : Type 0} (e : ℕ) (xs : List A) → length (drop e xs) ≡ length xs - e
drop_count zero xs = omega arith
drop_count (suc e) [] = omega arith
drop_count (suc e) (x ∷ xs) = drop_count e xs ∙ omega arith

-- where none is gone, none is delivered that is
none_gone : (n : ℕ) → is_gone 0 n ≡ false
none_gone zero = refl
none_gone (suc i) = le-ltb i 0 (omega arith)

none_by : (o : Option ℕ) → option_map_or (is_gone 0) o false ≡ false
none_by None = refl
none_by (Some n) = none_gone n

pub none_delivered : {Q : Type 0} (gone : ℕ) (st : Step Q) → gone ≡ 0 → delivers_gone gone st ≡ false
none_delivered gone st e = ap (λ g. delivers_gone g st) e ∙ none_by (delivered_by st)

pub refused_there : {Q : Type 0} (s : QuorumSystem Q) (endless : Bool) (most : ℕ) (w : WorldState Q) (st : Step Q) → delivers_gone (gone_of endless most w) st ≡ false → refused_in s endless most w st ≡ refusal s w st
refused_there s endless most w st e = ap (λ b. if b then Some LetterGone else refusal s w st) e

-- a step that names its node delivers none by its number
pub named_there : {Q : Type 0} (gone name : ℕ) (st : Step Q) → name_in (meant_in [] st) ≡ Some name → delivers_gone gone st ≡ false
named_there gone name (step.Deliver zero) e = refl
named_there gone name (step.Deliver (suc i)) e = absurd (none-some name e)
named_there gone name _ e = refl

-- a step means what it does by the letter that it lets come
pub meant_by_letters : {Q : Type 0} (ls : List (LetterState Q)) (st : Step Q) → meant_by (letter_in ls st) st ≡ meant_in ls st
meant_by_letters ls (step.Deliver n) = refl
meant_by_letters ls _ = refl

-- what is gone isn't kept
pub at_gone : {Q : Type 0} (v : LettersView Q) (n : ℕ) → is_gone v.gone n ≡ true → kept_at v n ≡ None
at_gone v zero e = absurd (true≢false (sym e))
at_gone v (suc i) e =
    let below = ltb-true i v.gone e in
    let first : suc i - v.gone ≡ 0 = omega (arith, below) in
    ap (letter_at v.kept) first

pub gone_unnamed : {Q : Type 0} (v : LettersView Q) (st : Step Q) → delivers_gone v.gone st ≡ true → name_in (meant_by (kept_in v st) st) ≡ None
gone_unnamed v (step.Deliver n) e = ap (λ o. name_in (Rattle.rambo_node.specs.Acts.delivery o)) (at_gone v n e)
gone_unnamed v _ e = absurd (true≢false (sym e))

module _ {Q : Type 0} (w : WorldState Q) (v : LettersView Q) (within : v.gone ≤ length w.letters) where
  -- one that isn't gone is the one that is kept
  pub at_kept : (n : ℕ) → is_gone v.gone n ≡ false → kept_at v n ≡ letter_at (completed w v) n
  at_kept zero e = (let none : 0 - v.gone ≡ 0 = omega arith in ap (letter_at v.kept) none)
  at_kept (suc i) e =
      let past = ltb-false i v.gone e in
      let next : suc i - v.gone ≡ suc (i - v.gone) = omega (arith, past) in
      ap (letter_at v.kept) next ∙ sym (get_kept v.gone w.letters v.kept i within (omega (arith, past)))

  pub kept_is : (n : ℕ) (l : LetterState Q) → kept_at v n ≡ Some l → letter_at (completed w v) n ≡ Some l
  kept_is n l e = by_case (is_gone v.gone n) refl
    where
      by_case : (b : Bool) → is_gone v.gone n ≡ b → letter_at (completed w v) n ≡ Some l
      by_case true gone = absurd (none-some l (sym (at_gone v n gone) ∙ e))
      by_case false there = sym (at_kept n there) ∙ e

  by_number : (o : Option ℕ) → option_map_or (is_gone v.gone) o false ≡ false → option_and_then (kept_at v) o ≡ option_and_then (letter_at (completed w v)) o
  by_number None e = refl
  by_number (Some n) e = at_kept n e

  -- so a step that delivers none that is gone delivers what is kept
  pub kept_there : (st : Step Q) → delivers_gone v.gone st ≡ false → kept_in v st ≡ letter_in (completed w v) st
  kept_there st e = by_number (delivered_by st) e

  pub meant_there : (st : Step Q) → delivers_gone v.gone st ≡ false → meant_by (kept_in v st) st ≡ meant_in (completed w v) st
  meant_there st e = ap (λ o. meant_by o st) (kept_there st e) ∙ meant_by_letters (completed w v) st

  -- a kept one represents that of its number
  module _ (sent : AreSent w (completed w v)) where
    pub kept_sent : (n : ℕ) (l : LetterState Q) → kept_at v n ≡ Some l → IsLetterOf w n l
    kept_sent n l e = by_case (is_gone v.gone n) refl
      where
        by_case : (b : Bool) → is_gone v.gone n ≡ b → IsLetterOf w n l
        by_case true gone = absurd (none-some l (sym (at_gone v n gone) ∙ e))
        by_case false there = elim (letters_paired w (completed w v) sent n) [
          | inl p ↦ absurd (none-some l (sym p.0 ∙ sym (at_kept n there) ∙ e))
          | inr p ↦ (p.1, p.3, subst (λ l. StandsFor w l p.1) (some_inj p.0 l (sym p.2 ∙ sym (at_kept n there) ∙ e)) p.4)
        ]

    pub none_sent : (n : ℕ) → kept_at v n ≡ None → is_gone v.gone n ≡ false → letter_at w.letters n ≡ None
    none_sent n e there = elim (letters_paired w (completed w v) sent n) [
      | inl p ↦ p.1
      | inr p ↦ absurd (none-some p.0 (sym e ∙ at_kept n there ∙ p.2))
    ]

-- whose step a step is, by what is kept
pub named_gone : {Q A : Type 0} (v : LettersView Q) (st : Step Q) (own : ℕ) → delivers_gone v.gone st ≡ true → Some own ≡ name_in (meant_by (kept_in v st) st) → A
named_gone v st own gone e = absurd (none-some own (sym (e ∙ gone_unnamed v st gone)))

module _ {Q : Type 0} (w : WorldState Q) (v : LettersView Q) (within : v.gone ≤ length w.letters) where
  pub named_kept : (st : Step Q) → delivers_gone v.gone st ≡ false → name_in (meant_by (kept_in v st) st) ≡ name_in (meant_in (completed w v) st)
  named_kept st e = ap name_in (meant_there w v within st e)

  module _ (sent : AreSent w (completed w v)) (st : Step Q) (own : ℕ) where
    pub named_none : {A : Type 0} → Some own ≡ name_in (meant_by (kept_in v st) st) → meant w st ≡ None → A
    named_none {A} e none = by_case (delivers_gone v.gone st) refl
      where
        by_case : (b : Bool) → delivers_gone v.gone st ≡ b → A
        by_case true gone = named_gone v st own gone e
        by_case false there = none_named w (completed w v) st own sent (e ∙ named_kept st there) none

    pub named_own : (name : ℕ) → Some own ≡ name_in (meant_by (kept_in v st) st) → IsServedBy w st name → own ≡ name
    named_own name e served = by_case (delivers_gone v.gone st) refl
      where
        by_case : (b : Bool) → delivers_gone v.gone st ≡ b → own ≡ name
        by_case true gone = named_gone v st own gone e
        by_case false there = served_own w (completed w v) st own name sent (e ∙ named_kept st there) served

-- what holds of a letter that is copied holds of it
pub copied_is : {A : Type 0} (o : Option (Bor A)) (P : A → Type 0) → ((a : A) → option_copied o ≡ Some a → P a) → IfSome o (λ x. P x.now)
copied_is None P all = tt
copied_is (Some x) P all = all x.now refl

-- how many are kept
within_by : (all window gone : ℕ) → gone ≡ all - window → gone ≤ all
within_by all window gone e = omega (arith, e)

few_by : (all window gone kept : ℕ) → gone ≡ all - window → gone + kept ≡ all → kept ≤ window
few_by all window gone kept e f = omega (arith, e, f)

pub after_by : (all more window gone kept past : ℕ) → gone ≡ all - window → all ≤ more → gone + kept ≡ more → past ≡ gone + (kept - window) → past ≡ more - window
after_by all more window gone kept past e grows counts is = omega (arith, e, grows, counts, is)

module _ {Q : Type 0} (w : WorldState Q) (v : LettersView Q) (window : ℕ) (gone : v.gone ≡ length w.letters - window) where
  pub within_all : v.gone ≤ length w.letters
  within_all = within_by (length w.letters) window v.gone gone

  module _ (sent : AreSent w (completed w v)) where
    pub counted : v.gone + length v.kept ≡ length w.letters
    counted =
        let first = take_count v.gone w.letters within_all in
        let both = length-append (take v.gone w.letters) v.kept in
        omega (arith, first, both, sent.0)

    pub few_kept : length v.kept ≤ window
    few_kept = few_by (length w.letters) window v.gone (length v.kept) gone counted

-- no more letters are sent than steps done
with_count : {Q : Type 0} (ls : List (LetterState Q)) (o : Option (LetterState Q)) → length (with_letter ls o) ≤ length ls + 1
with_count ls None = omega arith
with_count ls (Some l) = (let e = length-append ls (l ∷ []) in omega (arith, e))

at_count : {Q : Type 0} (w : WorldState Q) (n : ℕ) (o : Option (NodeState Q)) (c : Act Q) → length (turn_at w n o c).world.letters ≤ length w.letters + 1
at_count w n None c = omega arith
at_count w n (Some x) c = with_count w.letters (made_by x c).letter

of_count : {Q : Type 0} (w : WorldState Q) (o : Option (Meant Q)) → length (turn_of w o).world.letters ≤ length w.letters + 1
of_count w None = omega arith
of_count w (Some m) = at_count w m.name (node_at w m.name) m.act

turn_count : {Q : Type 0} (w : WorldState Q) (st : Step Q) → length (turn w st).world.letters ≤ length w.letters + 1
unfolding turn
turn_count w st = of_count w (meant w st)

unless_count : {Q : Type 0} (o : Option Refusal) (w next : WorldState Q) → length next.letters ≤ length w.letters + 1 → length (unless_refused o w next).letters ≤ length w.letters + 1
unless_count None w next le = le
unless_count (Some r) w next le = omega arith

after_count : {Q : Type 0} (s : QuorumSystem Q) (w : WorldState Q) (st : Step Q) → length (after s w st).letters ≤ length w.letters + 1
unfolding after
after_count s w st = unless_count (refusal s w st) w (turn w st).world (turn_count w st)

from_count : {Q : Type 0} (s : QuorumSystem Q) (w : WorldState Q) (sts : List (Step Q)) → length (run_from s w sts).letters ≤ length w.letters + length sts
unfolding run_from
from_count s w [] = omega arith
from_count s w (st ∷ sts) =
    let rest = from_count s (after s w st) sts in
    let one = after_count s w st in
    omega (arith, rest, one)

first_count : {Q : Type 0} (s : QuorumSystem Q) (f : Q) → length (first_world s f).letters ≡ 0
unfolding first_world
first_count s f = refl

pub few_letters : {Q : Type 0} (s : QuorumSystem Q) (f : Q) (sts : List (Step Q)) → length (run s f sts).letters ≤ length sts
few_letters s f sts =
    let all = from_count s (first_world s f) sts in
    let none = first_count s f in
    let same = ap (λ (w : WorldState _). length w.letters) (run_is s f sts) in
    omega (arith, all, none, same)

-- so a book that isn't endless keeps all
bounded_by : (count all most : ℕ) → count ≤ all → all ≤ most → count - most ≡ 0
bounded_by count all most few fits = omega (arith, few, fits)

pub bounded_keeps : {Q : Type 0} (s : QuorumSystem Q) (f : Q) (sts : List (Step Q)) (endless : Bool) (most : ℕ) → endless ≡ false → length sts ≤ most → gone_of endless most (run s f sts) ≡ 0
bounded_keeps s f sts endless most e fits =
    ap (λ b. length (run s f sts).letters - window_of b most) e ∙ bounded_by (length (run s f sts).letters) (length sts) most (few_letters s f sts) fits

-- letters leave out copies behind those that are gone: of such a number none does
abbrev pub far : ℕ → Option ℕ → Option ℕ
far gone None = None
far gone (Some n) = if nat_le n gone then None else Some n

far_by : (b : Bool) (m n : ℕ) → (if b then None else Some m) ≡ Some n → m ≡ n
far_by true m n e = absurd (none-some n e)
far_by false m n e = some_inj m n e

pub far_is : (gone : ℕ) (o : Option ℕ) (n : ℕ) → far gone o ≡ Some n → o ≡ Some n
far_is gone None n e = absurd (none-some n e)
far_is gone (Some m) n e = ap Some (far_by (nat_le m gone) m n e)

module _ {Q : Type 0} (xs ys : List (LetterState Q)) where
  light_both : (i : ℕ) (o : Option (LetterState Q)) → length xs ≤ i → lightened_at (xs ++ ys) (suc i) o ≡ xs ++ lightened_at ys (suc i - length xs) o
  light_both i None past = refl
  light_both i (Some l) past =
      let at : suc i - 1 ≡ length xs + ((suc i - length xs) - 1) = omega (arith, past) in
      ap (λ k. slice_set (xs ++ ys) k (letter_with l map.empty)) at ∙ set_behind xs ys ((suc i - length xs) - 1) (letter_with l map.empty)

  light_behind : (n : ℕ) → length xs < n → lightened (xs ++ ys) (Some n) ≡ xs ++ lightened ys (Some (n - length xs))
  light_behind zero past = absurd (omega (arith, past))
  light_behind (suc i) past =
      let le : length xs ≤ i = omega (arith, past) in
      let next : suc (i - length xs) ≡ suc i - length xs = omega (arith, past) in
      ap (lightened_at (xs ++ ys) (suc i)) (get_behind xs ys i le ∙ ap (letter_at ys) next) ∙ light_both i (letter_at ys (suc i - length xs)) le

  light_by : (n : ℕ) (b : Bool) → nat_le n (length xs) ≡ b → lightened (xs ++ ys) (if b then None else Some n) ≡ xs ++ lightened ys (Some (n - length xs))
  light_by n true e =
      let le = leb-true n (length xs) e in
      let none : 0 ≡ n - length xs = omega (arith, le) in
      ap (λ k. xs ++ lightened ys (Some k)) none
  light_by n false e = light_behind n (leb-false n (length xs) e)

  pub light_completed : (gone : ℕ) (o : Option ℕ) → length xs ≡ gone → lightened (xs ++ ys) (far gone o) ≡ xs ++ lightened ys (option_map (λ n. n - gone) o)
  light_completed gone None e = refl
  light_completed gone (Some n) e = subst (λ g. lightened (xs ++ ys) (if nat_le n g then None else Some n) ≡ xs ++ lightened ys (Some (n - g))) e (light_by n (nat_le n (length xs)) refl)

with_behind : {Q : Type 0} (xs ys : List (LetterState Q)) (o : Option (LetterState Q)) → with_letter (xs ++ ys) o ≡ xs ++ with_letter ys o
with_behind xs ys None = refl
with_behind xs ys (Some l) = append_assoc xs ys (l ∷ [])

module _ {Q : Type 0} (s : QuorumSystem Q) (f : Q) (xs ys : List (Step Q)) (p : IsPrefix xs ys) where
  pub grown_count : length (run s f xs).letters ≤ length (run s f ys).letters
  grown_count =
      let g = (run-grows s f xs ys p).letters in
      let same = ap length g.1 in
      let both = length-append (run s f xs).letters g.0 in
      omega (arith, same, both)

  -- what a longer run has besides is behind those that are gone
  module _ (v : LettersView Q) (within : v.gone ≤ length (run s f xs).letters) where
    same_gone : take v.gone (run s f xs).letters ≡ take v.gone (run s f ys).letters
    same_gone = (let g = (run-grows s f xs ys p).letters in sym (take_more v.gone (run s f xs).letters g.0 within) ∙ ap (take v.gone) g.1)

    pub longer_by : (o : Option (LetterState Q)) (came : Option ℕ)
        → lightened (with_letter (completed (run s f xs) v) o) (far v.gone came) ≡ take v.gone (run s f ys).letters ++ lightened (with_letter v.kept o) (option_map (λ n. n - v.gone) came)
    longer_by o came =
        ap (λ ls. lightened ls (far v.gone came)) (with_behind (take v.gone (run s f xs).letters) v.kept o)
        ∙ light_completed (take v.gone (run s f xs).letters) (with_letter v.kept o) v.gone came (take_count v.gone (run s f xs).letters within)
        ∙ ap (λ ls. ls ++ lightened (with_letter v.kept o) (option_map (λ n. n - v.gone) came)) same_gone

-- the oldest go, in whose place those are that were sent
module _ {Q : Type 0} (w : WorldState Q) (g e : ℕ) (ks : List (LetterState Q)) (sent : AreSent w (take g w.letters ++ ks)) (within : g + e ≤ length w.letters) where
  less : g ≤ length w.letters
  less = omega (arith, within)

  count_fewer : length (take (g + e) w.letters ++ drop e ks) ≡ length w.letters
  count_fewer =
      let first = take_count (g + e) w.letters within in
      let both = length-append (take (g + e) w.letters) (drop e ks) in
      let rest = drop_count e ks in
      let old = take_count g w.letters less in
      let all = length-append (take g w.letters) ks in
      omega (arith, first, both, rest, old, all, sent.0, within)

  place_fewer : (place : ℕ) (l whole : LetterState Q) (b : Bool) → nat_lt place (g + e) ≡ b → slice_get (take (g + e) w.letters ++ drop e ks) place ≡ Some l → slice_get w.letters place ≡ Some whole → StandsFor w l whole
  place_fewer place l whole true below there sent_there =
      let is : whole ≡ l = some_inj whole l (sym sent_there ∙ sym (get_before (g + e) w.letters (drop e ks) place within (ltb-true place (g + e) below)) ∙ there) in
      subst (λ l. StandsFor w l whole) is (whole_is_short whole (held_by w whole.addressee))
  place_fewer place l whole false above there sent_there =
      let past = ltb-false place (g + e) above in
      let at : e + (place - (g + e)) ≡ place - g = omega (arith, past) in
      let here : slice_get ks (place - g) ≡ Some l =
      ap (slice_get ks) (sym at) ∙ sym (get_dropped e ks (place - (g + e))) ∙ sym (get_kept (g + e) w.letters (drop e ks) place within (omega (arith, past))) ∙ there in
      sent.1 place l whole (get_kept g w.letters ks place less (omega (arith, past)) ∙ here) sent_there

  pub sent_fewer : AreSent w (take (g + e) w.letters ++ drop e ks)
  sent_fewer = (count_fewer, λ place l whole there sent_there. place_fewer place l whole (nat_lt place (g + e)) refl there sent_there)

-- a letter more, and copies less
pub count_more : {Q : Type 0} (ls : List (LetterState Q)) (o : Option (LetterState Q)) (came : Option ℕ) → length (lightened (with_letter ls o) came) ≤ length ls + 1
count_more ls o came = (let same = light_count (with_letter ls o) came in let more = with_count ls o in omega (arith, same, more))
