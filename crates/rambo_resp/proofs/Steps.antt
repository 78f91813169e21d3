-- What one byte does to a command that has begun
use Rattle.std.proofs.Common.{◌≡◌, ℕ, ◌+◌, ◌-◌, ◌≤◌, ◌⊎◌, Bool, true, false, cond, ◌==◌, List, [], ◌∷◌, ◌++◌, length, Option, Some, None, decimal, refl, sym, ap, ◌∙◌, subst, arith, inl, inr, append_assoc, append-nil, zero-add, length-append, lit<}
use Rattle.std.proofs.lemmas.Bool.Decides.{nat_tests}
use Rattle.std.proofs.lemmas.Fmt.{decimal_digit}
use Rattle.std.proofs.lemmas.List.Concat.{flat_map-append}
use Rattle.std.specs.Char.{is_ascii_digit}
use Rattle.std.specs.Option.{option_to_list}
use Rattle.std.specs.List.{flat_map, AllByRecursion}
use Rattle.rambo_resp.specs.declared.awaited.Awaited.{Awaited}
use Rattle.rambo_resp.specs.declared.awaited.Awaited.TheVariants.{Star, Count, CountMinus, CountMinusOne, CountDigits, CountFeed, NoCountFeed, Dollar, Length, LengthDigits, LengthFeed, Bytes, ItemFeed}
use Rattle.rambo_resp.specs.Spellings.{line_end, number_line, item_spelling, command_spelling, IsShort, IsCommand, Spells}
use Rattle.rambo_resp.specs.Rests.{Rest, array_front, spelled_as, spelled, IsBare, may_stand, IsRest}
use Rattle.rambo_resp.specs.Progresses.{as_count, as_length, is_last, after, rest_as, whole_as, fresh}
use Rattle.rambo_resp.specs.Endings.{is_star}
use Rattle.rambo_resp.proofs.ByteTests.{same, apart, if_some, if_or, one_digit, grown_some}

-- the command goes on, with this byte
abbrev pub Goes : Awaited → List (List ℕ) → List ℕ → ℕ → Awaited → Type 0
Goes w items item b a = (is_star a ≡ false) × IsRest (rest_as w items item b a)
    × (spelled (rest_as w items item b a) ≡ spelled_as w items item ++ b ∷ []) × (whole_as w items item ≡ [])

-- a spelling is whole with this byte
abbrev pub Ends : Awaited → List (List ℕ) → List ℕ → ℕ → Awaited → Type 0
Ends w items item b a = (is_star a ≡ true) × ((c : Option (List (List ℕ))) × Spells (spelled_as w items item ++ b ∷ []) c × (whole_as w items item ≡ option_to_list c))
    × (rest_as w items item b a ≡ fresh)

abbrev pub Moves : Awaited → List (List ℕ) → List ℕ → ℕ → Awaited → Type 0
Moves w items item b a = Goes w items item b a ⊎ Ends w items item b a

count_some : (o : Option ℕ) (a : Awaited) → as_count o ≡ Some a → (m : ℕ) × (o ≡ Some m) × (CountDigits m ≡ a)
count_some None a e = cc
count_some (Some m) a e = (m, refl, cc)

length_some : (left : ℕ) (o : Option ℕ) (a : Awaited) → as_length left o ≡ Some a → (m : ℕ) × (o ≡ Some m) × (LengthDigits left m ≡ a)
length_some left None a e = cc
length_some left (Some m) a e = (m, refl, cc)

star_step : (items : List (List ℕ)) (item : List ℕ) (b : ℕ) (a : Awaited) → IsBare items item → after Star b ≡ Some a → Moves Star items item b a
star_step items item b a h e =
    let k = if_some (b == 42) Count a e in
    let is = same b 42 k.0 in
    subst (Moves Star items item b) k.1 (inl (refl, h, cc, refl))

count_step : (items : List (List ℕ)) (item : List ℕ) (b : ℕ) (a : Awaited) → IsBare items item → after Count b ≡ Some a → Moves Count items item b a
count_step items item b a h e =
    elim (if_or (b == 45) CountMinus a _ e) [
      | inl k ↦ (let is = same b 45 k.0 in subst (Moves Count items item b) k.1 (inl (refl, h, cc, refl)))
      | inr k ↦
          (let d = if_some (is_ascii_digit b) (CountDigits (b - 48)) a k.1 in
          let n = one_digit b d.0 in
          subst (Moves Count items item b) d.1 (inl (refl, (omega (arith, n.1), h), ap (λ ds. 42 ∷ ds) n.0, refl)))
    ]

minus_step : (items : List (List ℕ)) (item : List ℕ) (b : ℕ) (a : Awaited) → IsBare items item → after CountMinus b ≡ Some a → Moves CountMinus items item b a
minus_step items item b a h e =
    let k = if_some (b == 49) CountMinusOne a e in
    let is = same b 49 k.0 in
    subst (Moves CountMinus items item b) k.1 (inl (refl, h, cc, refl))

minus_one_step : (items : List (List ℕ)) (item : List ℕ) (b : ℕ) (a : Awaited) → IsBare items item → after CountMinusOne b ≡ Some a → Moves CountMinusOne items item b a
minus_one_step items item b a h e =
    let k = if_some (b == 13) NoCountFeed a e in
    let is = same b 13 k.0 in
    subst (Moves CountMinusOne items item b) k.1 (inl (refl, h, cc, refl))

digits_step : (n : ℕ) (items : List (List ℕ)) (item : List ℕ) (b : ℕ) (a : Awaited) → n ≤ 128 → IsBare items item → after (CountDigits n) b ≡ Some a
    → Moves (CountDigits n) items item b a
digits_step n items item b a small h e =
    elim (if_or (b == 13) (CountFeed n) a _ e) [
      | inl k ↦ (let is = same b 13 k.0 in subst (Moves (CountDigits n) items item b) k.1 (inl (refl, (small, h), ap (λ x. (42 ∷ decimal n) ++ x ∷ []) (sym is), refl)))
      | inr k ↦
          (let d = count_some _ a k.1 in
          let g = grown_some n b 128 d.0 (lit< tt) d.1 in
          subst (Moves (CountDigits n) items item b) d.2 (inl (refl, (g.1, h), ap (λ ds. 42 ∷ ds) g.0, refl)))
    ]

no_feed_step : (items : List (List ℕ)) (item : List ℕ) (b : ℕ) (a : Awaited) → IsBare items item → after NoCountFeed b ≡ Some a → Moves NoCountFeed items item b a
no_feed_step items item b a h e =
    let k = if_some (b == 10) Star a e in
    let is = same b 10 k.0 in
    subst (Moves NoCountFeed items item b) k.1 (inr (refl, (None, inr cc, refl), cc))

dollar_step : (left : ℕ) (items : List (List ℕ)) (item : List ℕ) (b : ℕ) (a : Awaited) → may_stand (Dollar left) items item → after (Dollar left) b ≡ Some a
    → Moves (Dollar left) items item b a
dollar_step left items item b a h e =
    let k = if_some (b == 36) (Length left) a e in
    let is = same b 36 k.0 in
    subst (Moves (Dollar left) items item b) k.1 (inl (refl, h, ap (λ x. array_front items left ++ x ∷ []) (sym is), refl))

length_step : (left : ℕ) (items : List (List ℕ)) (item : List ℕ) (b : ℕ) (a : Awaited) → may_stand (Length left) items item → after (Length left) b ≡ Some a
    → Moves (Length left) items item b a
length_step left items item b a h e =
    let d = if_some (is_ascii_digit b) (LengthDigits left (b - 48)) a e in
    let n = one_digit b d.0 in
    let text : array_front items left ++ 36 ∷ decimal (b - 48) ≡ (array_front items left ++ 36 ∷ []) ++ b ∷ [] =
    ap (λ ds. array_front items left ++ 36 ∷ ds) n.0 ∙ sym (append_assoc (array_front items left) (36 ∷ []) (b ∷ [])) in
    subst (Moves (Length left) items item b) d.1 (inl (refl, (h.0, h.1, omega (arith, n.1)), text, refl))

length_digits_step : (left n : ℕ) (items : List (List ℕ)) (item : List ℕ) (b : ℕ) (a : Awaited) → may_stand (LengthDigits left n) items item
    → after (LengthDigits left n) b ≡ Some a → Moves (LengthDigits left n) items item b a
length_digits_step left n items item b a h e =
    elim (if_or (b == 13) (LengthFeed left n) a _ e) [
      | inl k ↦
          (let is = same b 13 k.0 in
          let text : array_front items left ++ ((36 ∷ decimal n) ++ 13 ∷ []) ≡ (array_front items left ++ 36 ∷ decimal n) ++ b ∷ [] =
          ap (λ x. array_front items left ++ ((36 ∷ decimal n) ++ x ∷ [])) (sym is) ∙ sym (append_assoc (array_front items left) (36 ∷ decimal n) (b ∷ [])) in
          subst (Moves (LengthDigits left n) items item b) k.1 (inl (refl, h, text, refl)))
      | inr k ↦
          (let d = length_some left _ a k.1 in
          let g = grown_some n b 4096 d.0 (lit< tt) d.1 in
          let text : array_front items left ++ 36 ∷ decimal d.0 ≡ (array_front items left ++ 36 ∷ decimal n) ++ b ∷ [] =
          ap (λ ds. array_front items left ++ 36 ∷ ds) g.0 ∙ sym (append_assoc (array_front items left) (36 ∷ decimal n) (b ∷ [])) in
          subst (Moves (LengthDigits left n) items item b) d.2 (inl (refl, (h.0, h.1, g.1), text, refl)))
    ]

-- a list behind another, as lists of three
regroup : (x y z : List ℕ) → x ++ (y ++ z) ≡ (x ++ y) ++ z
regroup x y z = sym (append_assoc x y z)

-- a line of a number, by its sign, its digits and its end
line_split : (front : List ℕ) (sign n : ℕ) → front ++ number_line sign n ≡ (front ++ ((sign ∷ decimal n) ++ 13 ∷ [])) ++ 10 ∷ []
line_split front sign n =
    ap (λ t. front ++ t) (sym (append_assoc (sign ∷ decimal n) (13 ∷ []) (10 ∷ []))) ∙ regroup front ((sign ∷ decimal n) ++ 13 ∷ []) (10 ∷ [])

length_feed_step : (left n : ℕ) (items : List (List ℕ)) (item : List ℕ) (b : ℕ) (a : Awaited) → may_stand (LengthFeed left n) items item
    → after (LengthFeed left n) b ≡ Some a → Moves (LengthFeed left n) items item b a
length_feed_step left n items item b a h e =
    let k = if_some (b == 10) (Bytes left n) a e in
    let is = same b 10 k.0 in
    let front = array_front items left in
    let text : front ++ (number_line 36 (0 + n) ++ []) ≡ (front ++ ((36 ∷ decimal n) ++ 13 ∷ [])) ++ b ∷ [] =
    ap (λ t. front ++ t) (append-nil (number_line 36 (0 + n)) ∙ ap (number_line 36) (zero-add n)) ∙ line_split front 36 n
    ∙ ap (λ x. (front ++ ((36 ∷ decimal n) ++ 13 ∷ [])) ++ x ∷ []) (sym is) in
    subst (Moves (LengthFeed left n) items item b) k.1 (inl (refl, (h.0, omega (arith, h.2)), text, refl))

-- the line of an array with no item yet
empty_front : (n : ℕ) → array_front [] n ≡ number_line 42 n
empty_front n = append-nil (number_line 42 (0 + n)) ∙ ap (number_line 42) (zero-add n)

feed_step : (n : ℕ) (items : List (List ℕ)) (item : List ℕ) (b : ℕ) (a : Awaited) → may_stand (CountFeed n) items item
    → after (CountFeed n) b ≡ Some a → Moves (CountFeed n) items item b a
feed_step n items item b a h e =
    let k = if_some (b == 10) (cond (n == 0) Star (Dollar n)) a e in
    let is = same b 10 k.0 in
    let G : Type 0 = Moves (CountFeed n) items item b a in
    let text : number_line 42 n ≡ ((42 ∷ decimal n) ++ 13 ∷ []) ++ b ∷ [] = line_split [] 42 n ∙ ap (λ x. ((42 ∷ decimal n) ++ 13 ∷ []) ++ x ∷ []) (sym is) in
    elim (n == 0) as (λ t. (n == 0) ≡ t → cond t Star (Dollar n) ≡ a → G) [
      | true ↦ λ z eq.
          (let zero_is = same n 0 z in
          let none : ((42 ∷ decimal n) ++ 13 ∷ []) ++ b ∷ [] ≡ (42 ∷ 48 ∷ []) ++ line_end = sym text ∙ ap (number_line 42) zero_is ∙ ap (λ ds. (42 ∷ ds) ++ line_end) (decimal_digit 0 (lit< tt)) in
          subst (Moves (CountFeed n) items item b) eq (inr (refl, (None, inl none, refl), ap (λ i. record { awaited = Star; items = []; item = i }) h.1.1)))
      | false ↦ λ z eq.
          (let some = apart n 0 z in
          subst (Moves (CountFeed n) items item b) eq
          (inl (refl, ((omega (arith, some), omega (arith, h.0), tt), h.1.1), empty_front n ∙ text, refl)))
    ] refl k.1

bytes_step : (left more : ℕ) (items : List (List ℕ)) (item : List ℕ) (b : ℕ) (a : Awaited) → may_stand (Bytes left more) items item
    → after (Bytes left more) b ≡ Some a → Moves (Bytes left more) items item b a
bytes_step left more items item b a h e =
    let front = array_front items left in
    let rest_if : Bool → Awaited → Rest = λ t x. record { awaited = x; items = items; item = cond t item (item ++ b ∷ []) } in
    let G : Bool → Awaited → Type 0 = λ t x. (is_star x ≡ false) × IsRest (rest_if t x) × (spelled (rest_if t x) ≡ spelled_as (Bytes left more) items item ++ b ∷ [])
    × (whole_as (Bytes left more) items item ≡ []) in
    inl (elim (more == 0) as (λ t. (more == 0) ≡ t → cond t (cond (b == 13) (Some (ItemFeed left)) None) (Some (Bytes left (more - 1))) ≡ Some a → G t a) [
      | true ↦ λ z eq.
          (let k = if_some (b == 13) (ItemFeed left) a eq in
          let is = same b 13 k.0 in
          let zero_is = same more 0 z in
          let line : number_line 36 (length item) ≡ number_line 36 (length item + more) = ap (number_line 36) (omega (arith, zero_is)) in
          let text : front ++ (number_line 36 (length item) ++ (item ++ 13 ∷ [])) ≡ (front ++ (number_line 36 (length item + more) ++ item)) ++ b ∷ [] =
          ap (λ x. front ++ (number_line 36 (length item) ++ (item ++ x ∷ []))) (sym is) ∙ ap (λ l. front ++ (l ++ (item ++ b ∷ []))) line
          ∙ ap (λ t. front ++ t) (regroup (number_line 36 (length item + more)) item (b ∷ [])) ∙ regroup front (number_line 36 (length item + more) ++ item) (b ∷ []) in
          subst (G true) k.1 (refl, (h.0, omega (arith, h.1)), text, refl))
      | false ↦ λ z eq.
          (let is : Bytes left (more - 1) ≡ a = cc in
          let some = apart more 0 z in
          let len = length-append item (b ∷ []) in
          let line : number_line 36 (length (item ++ b ∷ []) + (more - 1)) ≡ number_line 36 (length item + more) = ap (number_line 36) (omega (arith, len, some)) in
          let text : front ++ (number_line 36 (length (item ++ b ∷ []) + (more - 1)) ++ (item ++ b ∷ [])) ≡ (front ++ (number_line 36 (length item + more) ++ item)) ++ b ∷ [] =
          ap (λ l. front ++ (l ++ (item ++ b ∷ []))) line
          ∙ ap (λ t. front ++ t) (regroup (number_line 36 (length item + more)) item (b ∷ [])) ∙ regroup front (number_line 36 (length item + more) ++ item) (b ∷ []) in
          subst (G false) is (refl, (h.0, omega (arith, len, some, h.1)), text, refl))
    ] refl e)

pub short_append : (xs ys : List (List ℕ)) → AllByRecursion IsShort xs → AllByRecursion IsShort ys → AllByRecursion IsShort (xs ++ ys)
short_append [] ys h k = k
short_append (x ∷ xs) ys h k = (h.0, short_append xs ys h.1 k)

-- an item behind those that have come
pub items_push : (items : List (List ℕ)) (item : List ℕ) → flat_map item_spelling (items ++ item ∷ []) ≡ flat_map item_spelling items ++ item_spelling item
items_push items item = flat_map-append item_spelling items (item ∷ []) ∙ ap (λ t. flat_map item_spelling items ++ t) (append-nil (item_spelling item))

-- the text of an item that has come, byte for byte
item_text : (n : ℕ) (items : List (List ℕ)) (item : List ℕ) (b : ℕ) → b ≡ 10
    → number_line 42 n ++ flat_map item_spelling (items ++ item ∷ [])
    ≡ ((number_line 42 n ++ flat_map item_spelling items) ++ (number_line 36 (length item) ++ (item ++ 13 ∷ []))) ++ b ∷ []
item_text n items item b is =
    let head = number_line 42 n in
    let past = flat_map item_spelling items in
    let line = number_line 36 (length item) in
    ap (λ t. head ++ t) (items_push items item) ∙ regroup head past (item_spelling item)
    ∙ ap (λ x. (head ++ past) ++ (line ++ (item ++ 13 ∷ x ∷ []))) (sym is)
    ∙ ap (λ t. (head ++ past) ++ (line ++ t)) (regroup item (13 ∷ []) (b ∷ []))
    ∙ ap (λ t. (head ++ past) ++ t) (regroup line (item ++ 13 ∷ []) (b ∷ []))
    ∙ regroup (head ++ past) (line ++ (item ++ 13 ∷ [])) (b ∷ [])

last_is : (left : ℕ) → is_last left ≡ true → left ≤ 1
last_is left e = grind (arith, nat_tests)

not_last : (left : ℕ) → is_last left ≡ false → 2 ≤ left
not_last left e = grind (arith, nat_tests)

item_feed_step : (left : ℕ) (items : List (List ℕ)) (item : List ℕ) (b : ℕ) (a : Awaited) → may_stand (ItemFeed left) items item
    → after (ItemFeed left) b ≡ Some a → Moves (ItemFeed left) items item b a
item_feed_step left items item b a h e =
    let k = if_some (b == 10) (cond (is_last left) Star (Dollar (left - 1))) a e in
    let is = same b 10 k.0 in
    let all = items ++ item ∷ [] in
    let shorts = short_append items (item ∷ []) h.0.2 (h.1, tt) in
    let len : length all ≡ length items + 1 = length-append items (item ∷ []) in
    let text = spelled_as (ItemFeed left) items item ++ b ∷ [] in
    let rest_if : Bool → Awaited → Rest = λ t x. record { awaited = x; items = cond t [] all; item = [] } in
    let whole_if : Bool → List (List (List ℕ)) = λ t. cond t (all ∷ []) [] in
    let G : Bool → Awaited → Type 0 = λ t x.
    ((is_star x ≡ false) × IsRest (rest_if t x) × (spelled (rest_if t x) ≡ text) × (whole_if t ≡ []))
    ⊎ ((is_star x ≡ true) × ((c : Option (List (List ℕ))) × Spells text c × (whole_if t ≡ option_to_list c)) × (rest_if t x ≡ fresh)) in
    elim (is_last left) as (λ t. is_last left ≡ t → cond t Star (Dollar (left - 1)) ≡ a → G t a) [
      | true ↦ λ z eq.
          (let le = last_is left z in
          let count : length all ≡ length items + left = omega (arith, len, le, h.0.0) in
          let is_command : IsCommand all = record { some = omega (arith, len); few = omega (arith, count, h.0.1); short = shorts } in
          let spell : text ≡ command_spelling all = sym (item_text (length items + left) items item b is) ∙ ap (λ n. number_line 42 n ++ flat_map item_spelling all) (sym count) in
          subst (G true) eq (inr (refl, (Some all, (is_command, spell), refl), refl)))
      | false ↦ λ z eq.
          (let ge = not_last left z in
          let count : length all + (left - 1) ≡ length items + left = omega (arith, len, ge) in
          let spell : array_front all (left - 1) ≡ text = ap (λ n. number_line 42 n ++ flat_map item_spelling all) count ∙ item_text (length items + left) items item b is in
          subst (G false) eq (inl (refl, ((omega (arith, ge), omega (arith, count, h.0.1), shorts), refl), spell, refl)))
    ] refl k.1

-- what a byte that may stand does
pub step_as : (w : Awaited) (items : List (List ℕ)) (item : List ℕ) (b : ℕ) (a : Awaited) → may_stand w items item → after w b ≡ Some a → Moves w items item b a
step_as Star items item b a h e = star_step items item b a h e
step_as Count items item b a h e = count_step items item b a h e
step_as CountMinus items item b a h e = minus_step items item b a h e
step_as CountMinusOne items item b a h e = minus_one_step items item b a h e
step_as (CountDigits n) items item b a h e = digits_step n items item b a h.0 h.1 e
step_as (CountFeed n) items item b a h e = feed_step n items item b a h e
step_as NoCountFeed items item b a h e = no_feed_step items item b a h e
step_as (Dollar left) items item b a h e = dollar_step left items item b a h e
step_as (Length left) items item b a h e = length_step left items item b a h e
step_as (LengthDigits left n) items item b a h e = length_digits_step left n items item b a h e
step_as (LengthFeed left n) items item b a h e = length_feed_step left n items item b a h e
step_as (Bytes left more) items item b a h e = bytes_step left more items item b a h e
step_as (ItemFeed left) items item b a h e = item_feed_step left items item b a h e
