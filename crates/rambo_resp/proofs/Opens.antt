-- A command that has begun can be completed
use Rattle.std.proofs.Common.{◌≡◌, ℕ, zero, suc, ◌-◌, ◌≤◌, Bool, true, false, cond, ◌==◌, List, [], ◌∷◌, ◌++◌, Some, None, refl, sym, ap, ◌∙◌, subst, arith, inl, inr, append_assoc, length-append}
use Rattle.std.proofs.lemmas.Bool.Decides.{nat_tests}
use Rattle.std.proofs.lemmas.Bool.{true≢false}
use Rattle.rambo_resp.specs.declared.awaited.Awaited.{Awaited}
use Rattle.rambo_resp.specs.declared.awaited.Awaited.TheVariants.{Star, Count, CountMinus, CountMinusOne, CountDigits, CountFeed, NoCountFeed, Dollar, Length, LengthDigits, LengthFeed, Bytes, ItemFeed}
use Rattle.rambo_resp.specs.Rests.{Rest, spelled_as, spelled, may_stand, IsRest, IsOpen}
use Rattle.rambo_resp.specs.Progresses.{after, rest_as, is_last}
use Rattle.rambo_resp.specs.Endings.{is_star}
use Rattle.rambo_resp.proofs.Steps.{step_as}

-- a beginning of an open rest is open
pub open_front : (bytes more : List ℕ) → IsOpen (bytes ++ more) → IsOpen bytes
open_front bytes more o = record {
  text = o.text;
  tells = o.tells;
  spelling = o.spelling;
  more = more ++ o.more;
  begins = o.begins ∙ append_assoc bytes more o.more;
  proper = omega (arith, length-append more o.more, o.proper);
}

true_false : {G : Type 0} (t : Bool) → t ≡ true → t ≡ false → G
true_false t p q = absurd (true≢false (sym p ∙ q))

-- one with which a spelling is whole
ends_open : (w : Awaited) (items : List (List ℕ)) (item : List ℕ) (b : ℕ) (a : Awaited) → may_stand w items item → after w b ≡ Some a → is_star a ≡ true
    → IsOpen (spelled_as w items item)
ends_open w items item b a h e s =
    elim (step_as w items item b a h e) [
      | inl g ↦ true_false (is_star a) s g.0
      | inr k ↦ record { text = spelled_as w items item ++ b ∷ []; tells = k.1.0; spelling = k.1.1; more = b ∷ []; begins = refl; proper = omega arith }
    ]

-- one that goes on to what is open
goes_open : (w : Awaited) (items : List (List ℕ)) (item : List ℕ) (b : ℕ) (a : Awaited) → may_stand w items item → after w b ≡ Some a → is_star a ≡ false
    → (IsRest (rest_as w items item b a) → IsOpen (spelled (rest_as w items item b a))) → IsOpen (spelled_as w items item)
goes_open w items item b a h e s f =
    elim (step_as w items item b a h e) [
      | inl g ↦ open_front (spelled_as w items item) (b ∷ []) (subst IsOpen g.2 (f g.1))
      | inr k ↦ true_false (is_star a) k.0 s
    ]

no_feed_open : (items : List (List ℕ)) (item : List ℕ) → may_stand NoCountFeed items item → IsOpen (spelled_as NoCountFeed items item)
no_feed_open items item h = ends_open NoCountFeed items item 10 Star h refl refl

minus_one_open : (items : List (List ℕ)) (item : List ℕ) → may_stand CountMinusOne items item → IsOpen (spelled_as CountMinusOne items item)
minus_one_open items item h = goes_open CountMinusOne items item 13 NoCountFeed h refl refl (no_feed_open items item)

minus_open : (items : List (List ℕ)) (item : List ℕ) → may_stand CountMinus items item → IsOpen (spelled_as CountMinus items item)
minus_open items item h = goes_open CountMinus items item 49 CountMinusOne h refl refl (minus_one_open items item)

count_open : (items : List (List ℕ)) (item : List ℕ) → may_stand Count items item → IsOpen (spelled_as Count items item)
count_open items item h = goes_open Count items item 45 CountMinus h refl refl (minus_open items item)

star_open : (items : List (List ℕ)) (item : List ℕ) → may_stand Star items item → IsOpen (spelled_as Star items item)
star_open items item h = goes_open Star items item 42 Count h refl refl (count_open items item)

-- an item whose bytes have all come, where what follows it is open
bytes_end_open : (left : ℕ) (items : List (List ℕ)) (item : List ℕ) → may_stand (Bytes left 0) items item
    → (may_stand (ItemFeed left) items item → IsOpen (spelled_as (ItemFeed left) items item)) → IsOpen (spelled_as (Bytes left 0) items item)
bytes_end_open left items item h f = goes_open (Bytes left 0) items item 13 (ItemFeed left) h refl refl f

-- an array that goes on, item by item
mutual_dollar : (left : ℕ) (items : List (List ℕ)) (item : List ℕ) → (may_stand (ItemFeed left) items [] → IsOpen (spelled_as (ItemFeed left) items []))
    → may_stand (Dollar left) items item → IsOpen (spelled_as (Dollar left) items item)
mutual_dollar left items item f h =
    goes_open (Dollar left) items item 36 (Length left) h refl refl (λ h1.
    goes_open (Length left) items item 48 (LengthDigits left 0) h1 refl refl (λ h2.
    goes_open (LengthDigits left 0) items item 13 (LengthFeed left 0) h2 refl refl (λ h3.
    goes_open (LengthFeed left 0) items item 10 (Bytes left 0) h3 refl refl (λ h4.
    bytes_end_open left items [] h4 f))))

last_one : (left : ℕ) → left ≤ 1 → is_last left ≡ true
last_one left e = grind (arith, nat_tests)

feed_after : (left : ℕ) (t : Bool) (x : Awaited) → is_last left ≡ t → cond t Star (Dollar (left - 1)) ≡ x → after (ItemFeed left) 10 ≡ Some x
feed_after left t x e k = ap (λ y. Some (cond y Star (Dollar (left - 1)))) e ∙ ap (λ y. Some y) k

item_feed_open : (left : ℕ) (items : List (List ℕ)) (item : List ℕ) → may_stand (ItemFeed left) items item → IsOpen (spelled_as (ItemFeed left) items item)
item_feed_open zero items item h = ends_open (ItemFeed 0) items item 10 Star h refl refl
item_feed_open (suc zero) items item h = ends_open (ItemFeed (suc zero)) items item 10 Star h (feed_after (suc zero) true Star (last_one (suc zero) (omega arith)) refl) refl
item_feed_open (suc (suc k)) items item h =
    let more : is_last (suc (suc k)) ≡ false = grind (arith, nat_tests) in
    let down : suc (suc k) - 1 ≡ suc k = omega arith in
    goes_open (ItemFeed (suc (suc k))) items item 10 (Dollar (suc k)) h (feed_after (suc (suc k)) false (Dollar (suc k)) more (ap (λ n. Dollar n) down)) refl (λ h1.
    mutual_dollar (suc k) _ _ (item_feed_open (suc k) _ []) h1)

dollar_open : (left : ℕ) (items : List (List ℕ)) (item : List ℕ) → may_stand (Dollar left) items item → IsOpen (spelled_as (Dollar left) items item)
dollar_open left items item h = mutual_dollar left items item (item_feed_open left items []) h

bytes_open : (more left : ℕ) (items : List (List ℕ)) (item : List ℕ) → may_stand (Bytes left more) items item → IsOpen (spelled_as (Bytes left more) items item)
bytes_open zero left items item h = bytes_end_open left items item h (item_feed_open left items item)
bytes_open (suc k) left items item h =
    let some : (suc k == 0) ≡ false = grind (arith, nat_tests) in
    let down : suc k - 1 ≡ k = omega arith in
    let step : after (Bytes left (suc k)) 0 ≡ Some (Bytes left k) =
    ap (λ t. cond t (cond (0 == 13) (Some (ItemFeed left)) None) (Some (Bytes left (suc k - 1)))) some ∙ ap (λ n. Some (Bytes left n)) down in
    goes_open (Bytes left (suc k)) items item 0 (Bytes left k) h step refl (bytes_open k left items (cond (suc k == 0) item (item ++ 0 ∷ [])))

feed_open : (n : ℕ) (items : List (List ℕ)) (item : List ℕ) → may_stand (CountFeed n) items item → IsOpen (spelled_as (CountFeed n) items item)
feed_open zero items item h = ends_open (CountFeed 0) items item 10 Star h refl refl
feed_open (suc k) items item h =
    let some : (suc k == 0) ≡ false = grind (arith, nat_tests) in
    let step : after (CountFeed (suc k)) 10 ≡ Some (Dollar (suc k)) = ap (λ t. Some (cond t Star (Dollar (suc k)))) some in
    goes_open (CountFeed (suc k)) items item 10 (Dollar (suc k)) h step refl (dollar_open (suc k) [] item)

length_feed_open : (left n : ℕ) (items : List (List ℕ)) (item : List ℕ) → may_stand (LengthFeed left n) items item → IsOpen (spelled_as (LengthFeed left n) items item)
length_feed_open left n items item h = goes_open (LengthFeed left n) items item 10 (Bytes left n) h refl refl (bytes_open n left items [])

open_as : (w : Awaited) (items : List (List ℕ)) (item : List ℕ) → may_stand w items item → IsOpen (spelled_as w items item)
open_as Star items item h = star_open items item h
open_as Count items item h = count_open items item h
open_as CountMinus items item h = minus_open items item h
open_as CountMinusOne items item h = minus_one_open items item h
open_as (CountDigits n) items item h = goes_open (CountDigits n) items item 13 (CountFeed n) h refl refl (feed_open n items item)
open_as (CountFeed n) items item h = feed_open n items item h
open_as NoCountFeed items item h = no_feed_open items item h
open_as (Dollar left) items item h = dollar_open left items item h
open_as (Length left) items item h =
    goes_open (Length left) items item 48 (LengthDigits left 0) h refl refl (λ h1.
    goes_open (LengthDigits left 0) items item 13 (LengthFeed left 0) h1 refl refl (length_feed_open left 0 items item))
open_as (LengthDigits left n) items item h = goes_open (LengthDigits left n) items item 13 (LengthFeed left n) h refl refl (length_feed_open left n items item)
open_as (LengthFeed left n) items item h = length_feed_open left n items item h
open_as (Bytes left more) items item h = bytes_open more left items item h
open_as (ItemFeed left) items item h = item_feed_open left items item h

-- a command that has begun is a proper beginning of a spelling
pub rest_open : (r : Rest) → IsRest r → IsOpen (spelled r)
rest_open r h = open_as r.awaited r.items r.item h
