-- A spelling is read to its end, and no further
use Rattle.std.proofs.Common.{◌≡◌, ℕ, suc, ◌+◌, ◌-◌, ◌/◌, ◌%◌, ◌<◌, ◌≤◌, ◌^◌, Bool, true, false, cond, not, ◌&&◌, ◌==◌, nat_le, List, [], ◌∷◌, ◌++◌, length, Option, Some, None, decimal, refl, sym, ap, ◌∙◌, arith, inl, inr, append_assoc, append-nil, zero-add, lit<}
use Rattle.std.proofs.lemmas.Bool.Decides.{nat_tests}
use Rattle.std.proofs.lemmas.Fmt.{decimal_by_steps}
use Rattle.std.specs.Char.{is_ascii_digit}
use Rattle.std.specs.Option.{option_to_list}
use Rattle.std.specs.List.{flat_map, AllByRecursion}
use Rattle.rambo_resp.specs.declared.awaited.Awaited.{Awaited}
use Rattle.rambo_resp.specs.declared.awaited.Awaited.TheVariants.{Star, Count, CountMinus, CountMinusOne, CountDigits, CountFeed, NoCountFeed, Dollar, Length, LengthDigits, LengthFeed, Bytes, ItemFeed}
use Rattle.rambo_resp.specs.Spellings.{number_line, item_spelling, command_spelling, IsShort, IsCommand, Spells}
use Rattle.rambo_resp.specs.Rests.{Rest, array_front, spelled_as, spelled, IsWithin, may_stand, IsRest, goes_on}
use Rattle.rambo_resp.specs.Progresses.{longer, grown, as_count, as_length, is_last, after, rest_after, whole, fresh}
use Rattle.rambo_resp.specs.Endings.{is_star, Drive, at, done, stuck, drive}

abbrev pub rest_at : Awaited → List (List ℕ) → List ℕ → Rest
rest_at w items item = record { awaited = w; items = items; item = item }

-- what follows a byte
abbrev followed : Rest → ℕ → List ℕ → Option Awaited → Drive
followed r b bs o = elim o as (λ _. Drive) [ None ↦ stuck | Some a ↦ cond (is_star a) (done (whole r) bs) (drive (rest_after r b a) bs) ]

pub drive_on : (r : Rest) (b : ℕ) (bs : List ℕ) (a : Awaited) → after r.awaited b ≡ Some a → is_star a ≡ false → drive r (b ∷ bs) ≡ drive (rest_after r b a) bs
unfolding drive
drive_on r b bs a e s = ap (followed r b bs) e ∙ ap (λ t. cond t (done (whole r) bs) (drive (rest_after r b a) bs)) s

pub drive_end : (r : Rest) (b : ℕ) (bs : List ℕ) (a : Awaited) → after r.awaited b ≡ Some a → is_star a ≡ true → drive r (b ∷ bs) ≡ done (whole r) bs
unfolding drive
drive_end r b bs a e s = ap (followed r b bs) e ∙ ap (λ t. cond t (done (whole r) bs) (drive (rest_after r b a) bs)) s

pub drive_stuck : (r : Rest) (b : ℕ) (bs : List ℕ) → after r.awaited b ≡ None → drive r (b ∷ bs) ≡ stuck
unfolding drive
drive_stuck r b bs e = ap (followed r b bs) e

pub drive_none : (r : Rest) → drive r [] ≡ at r
unfolding drive
drive_none r = refl

-- digits are read one by one
digits_drive : (first : Rest) (next : ℕ → Rest) (most : ℕ) → most < 2 ^ 64
    → ((n : ℕ) (bs : List ℕ) → n < 10 → drive first ((48 + n) ∷ bs) ≡ drive (next n) bs)
    → ((n : ℕ) (bs : List ℕ) → 10 ≤ n → n ≤ most → drive (next (n / 10)) ((48 + n % 10) ∷ bs) ≡ drive (next n) bs)
    → (n : ℕ) (rest : List ℕ) → n ≤ most → drive first (decimal n ++ rest) ≡ drive (next n) rest
digits_drive first next most small one more n rest h =
    let P : ℕ → List ℕ → Type 0 = λ m ds. m ≤ most → (bs : List ℕ) → drive first (ds ++ bs) ≡ drive (next m) bs in
    decimal_by_steps P (λ m l k bs. one m bs l)
    (λ m ds l f k bs.
    let le : m / 10 ≤ most = omega (arith, k) in
    ap (drive first) (append_assoc ds ((48 + m % 10) ∷ []) bs) ∙ f le ((48 + m % 10) ∷ bs) ∙ more m bs l k)
    n (omega (arith, h, small)) h rest

digit_test : (n : ℕ) → n < 10 → is_ascii_digit (48 + n) ≡ true
digit_test n h = grind (arith, nat_tests)

not_this : (n b : ℕ) → b < 48 → ((48 + n) == b) ≡ false
not_this n b h = grind (arith, nat_tests)

if_false : {A : Type 0} (t : Bool) (x y : A) → t ≡ false → cond t x y ≡ y
if_false t x y e = ap (λ u. cond u x y) e

if_true : {A : Type 0} (t : Bool) (x y : A) → t ≡ true → cond t x y ≡ x
if_true t x y e = ap (λ u. cond u x y) e

grows : (n most : ℕ) → 10 ≤ n → n ≤ most → grown (n / 10) (48 + n % 10) most ≡ Some n
grows n most big h =
    let d : is_ascii_digit (48 + n % 10) ≡ true = digit_test (n % 10) (omega arith) in
    let z : not (n / 10 == 0) ≡ true = (let some : 1 ≤ n / 10 = omega (arith, big) in grind (arith, nat_tests)) in
    let val : longer (n / 10) (48 + n % 10) ≡ n = omega arith in
    let le : nat_le (longer (n / 10) (48 + n % 10)) most ≡ true = (let k : longer (n / 10) (48 + n % 10) ≤ most = omega (arith, val, h) in grind (arith, nat_tests)) in
    let t : (goes_on (n / 10) (48 + n % 10) && nat_le (longer (n / 10) (48 + n % 10)) most) ≡ true =
    ap (λ u. (u && not (n / 10 == 0)) && nat_le (longer (n / 10) (48 + n % 10)) most) d ∙ ap (λ u. u && nat_le (longer (n / 10) (48 + n % 10)) most) z ∙ le in
    if_true _ (Some (longer (n / 10) (48 + n % 10))) None t ∙ ap (λ m. Some m) val

back : (n : ℕ) → (48 + n) - 48 ≡ n
back n = omega arith

count_one : (items : List (List ℕ)) (old : List ℕ) (n : ℕ) (bs : List ℕ) → n < 10 → drive (rest_at Count items old) ((48 + n) ∷ bs) ≡ drive (rest_at (CountDigits n) items old) bs
count_one items old n bs h =
    let e : after Count (48 + n) ≡ Some (CountDigits n) =
    if_false ((48 + n) == 45) (Some CountMinus) _ (not_this n 45 (lit< tt)) ∙ if_true _ (Some (CountDigits ((48 + n) - 48))) None (digit_test n h) ∙ ap (λ m. Some (CountDigits m)) (back n) in
    drive_on (rest_at Count items old) (48 + n) bs (CountDigits n) e refl

count_more : (items : List (List ℕ)) (old : List ℕ) (n : ℕ) (bs : List ℕ) → 10 ≤ n → n ≤ 128 → drive (rest_at (CountDigits (n / 10)) items old) ((48 + n % 10) ∷ bs) ≡ drive (rest_at (CountDigits n) items old) bs
count_more items old n bs big h =
    let e : after (CountDigits (n / 10)) (48 + n % 10) ≡ Some (CountDigits n) =
    if_false ((48 + n % 10) == 13) (Some (CountFeed (n / 10))) _ (not_this (n % 10) 13 (lit< tt)) ∙ ap as_count (grows n 128 big h) in
    drive_on (rest_at (CountDigits (n / 10)) items old) (48 + n % 10) bs (CountDigits n) e refl

-- the number of items
count_drive : (items : List (List ℕ)) (old : List ℕ) (n : ℕ) (rest : List ℕ) → n ≤ 128 → drive (rest_at Star items old) (42 ∷ (decimal n ++ rest)) ≡ drive (rest_at (CountDigits n) items old) rest
count_drive items old n rest h =
    drive_on (rest_at Star items old) 42 (decimal n ++ rest) Count refl refl
    ∙ digits_drive (rest_at Count items old) (λ m. rest_at (CountDigits m) items old) 128 (lit< tt) (count_one items old) (count_more items old) n rest h

feed_drive : (items : List (List ℕ)) (old : List ℕ) (n : ℕ) (rest : List ℕ) → n ≤ 128 → drive (rest_at Star items old) (((42 ∷ decimal n) ++ 13 ∷ []) ++ rest) ≡ drive (rest_at (CountFeed n) items old) rest
feed_drive items old n rest h =
    ap (drive (rest_at Star items old)) (append_assoc (42 ∷ decimal n) (13 ∷ []) rest) ∙ count_drive items old n (13 ∷ rest) h
    ∙ drive_on (rest_at (CountDigits n) items old) 13 rest (CountFeed n) refl refl

line_split : (sign n : ℕ) (rest : List ℕ) → number_line sign n ++ rest ≡ ((sign ∷ decimal n) ++ 13 ∷ []) ++ 10 ∷ rest
line_split sign n rest = append_assoc (sign ∷ decimal n) (13 ∷ 10 ∷ []) rest ∙ sym (append_assoc (sign ∷ decimal n) (13 ∷ []) (10 ∷ rest))

-- the line of an array
pub array_drive : (items : List (List ℕ)) (old : List ℕ) (n : ℕ) (rest : List ℕ) → 1 ≤ n → n ≤ 128 → drive (rest_at Star items old) (number_line 42 n ++ rest) ≡ drive (rest_at (Dollar n) [] old) rest
array_drive items old n rest some h =
    let nz : (n == 0) ≡ false = grind (arith, nat_tests) in
    ap (drive (rest_at Star items old)) (line_split 42 n rest) ∙ feed_drive items old n (10 ∷ rest) h
    ∙ drive_on (rest_at (CountFeed n) items old) 10 rest (Dollar n) (ap (λ t. Some (cond t Star (Dollar n))) nz) refl

length_one : (left : ℕ) (items : List (List ℕ)) (old : List ℕ) (n : ℕ) (bs : List ℕ) → n < 10
    → drive (rest_at (Length left) items old) ((48 + n) ∷ bs) ≡ drive (rest_at (LengthDigits left n) items old) bs
length_one left items old n bs h =
    let e : after (Length left) (48 + n) ≡ Some (LengthDigits left n) =
    if_true _ (Some (LengthDigits left ((48 + n) - 48))) None (digit_test n h) ∙ ap (λ m. Some (LengthDigits left m)) (back n) in
    drive_on (rest_at (Length left) items old) (48 + n) bs (LengthDigits left n) e refl

length_more : (left : ℕ) (items : List (List ℕ)) (old : List ℕ) (n : ℕ) (bs : List ℕ) → 10 ≤ n → n ≤ 4096
    → drive (rest_at (LengthDigits left (n / 10)) items old) ((48 + n % 10) ∷ bs) ≡ drive (rest_at (LengthDigits left n) items old) bs
length_more left items old n bs big h =
    let e : after (LengthDigits left (n / 10)) (48 + n % 10) ≡ Some (LengthDigits left n) =
    if_false ((48 + n % 10) == 13) (Some (LengthFeed left (n / 10))) _ (not_this (n % 10) 13 (lit< tt)) ∙ ap (as_length left) (grows n 4096 big h) in
    drive_on (rest_at (LengthDigits left (n / 10)) items old) (48 + n % 10) bs (LengthDigits left n) e refl

-- the length of an item
length_drive : (left : ℕ) (items : List (List ℕ)) (old : List ℕ) (n : ℕ) (rest : List ℕ) → n ≤ 4096
    → drive (rest_at (Dollar left) items old) ((36 ∷ decimal n) ++ rest) ≡ drive (rest_at (LengthDigits left n) items old) rest
length_drive left items old n rest h =
    drive_on (rest_at (Dollar left) items old) 36 (decimal n ++ rest) (Length left) refl refl
    ∙ digits_drive (rest_at (Length left) items old) (λ m. rest_at (LengthDigits left m) items old) 4096 (lit< tt) (length_one left items old) (length_more left items old) n rest h

length_feed_drive : (left : ℕ) (items : List (List ℕ)) (old : List ℕ) (n : ℕ) (rest : List ℕ) → n ≤ 4096
    → drive (rest_at (Dollar left) items old) (((36 ∷ decimal n) ++ 13 ∷ []) ++ rest) ≡ drive (rest_at (LengthFeed left n) items old) rest
length_feed_drive left items old n rest h =
    ap (drive (rest_at (Dollar left) items old)) (append_assoc (36 ∷ decimal n) (13 ∷ []) rest) ∙ length_drive left items old n (13 ∷ rest) h
    ∙ drive_on (rest_at (LengthDigits left n) items old) 13 rest (LengthFeed left n) refl refl

-- the bytes of an item, of which more may be to come
bytes_drive : (bs : List ℕ) (left more : ℕ) (items : List (List ℕ)) (past rest : List ℕ)
    → drive (rest_at (Bytes left (length bs + more)) items past) (bs ++ rest) ≡ drive (rest_at (Bytes left more) items (past ++ bs)) rest
bytes_drive [] left more items past rest =
    ap (λ n. drive (rest_at (Bytes left n) items past) rest) (zero-add more) ∙ ap (λ t. drive (rest_at (Bytes left more) items t) rest) (sym (append-nil past))
bytes_drive (b ∷ bs) left more items past rest =
    let total : ℕ = suc (length bs) + more in
    let some : (total == 0) ≡ false = grind (arith, nat_tests) in
    let down : total - 1 ≡ length bs + more = omega arith in
    let step : after (Bytes left total) b ≡ Some (Bytes left (length bs + more)) =
    if_false (total == 0) _ (Some (Bytes left (total - 1))) some ∙ ap (λ n. Some (Bytes left n)) down in
    let put : cond (total == 0) past (past ++ b ∷ []) ≡ past ++ b ∷ [] = if_false (total == 0) past (past ++ b ∷ []) some in
    drive_on (rest_at (Bytes left total) items past) b (bs ++ rest) (Bytes left (length bs + more)) step refl
    ∙ ap (λ t. drive (rest_at (Bytes left (length bs + more)) items t) (bs ++ rest)) put
    ∙ bytes_drive bs left more items (past ++ b ∷ []) rest
    ∙ ap (λ t. drive (rest_at (Bytes left more) items t) rest) (append_assoc past (b ∷ []) bs)

-- a length and then bytes
item_bytes_drive : (left more : ℕ) (items : List (List ℕ)) (old item rest : List ℕ) → length item + more ≤ 4096
    → drive (rest_at (Dollar left) items old) ((number_line 36 (length item + more) ++ item) ++ rest) ≡ drive (rest_at (Bytes left more) items item) rest
item_bytes_drive left more items old item rest h =
    let n : ℕ = length item + more in
    ap (drive (rest_at (Dollar left) items old)) (append_assoc (number_line 36 n) item rest ∙ line_split 36 n (item ++ rest))
    ∙ length_feed_drive left items old n (10 ∷ (item ++ rest)) h
    ∙ drive_on (rest_at (LengthFeed left n) items old) 10 (item ++ rest) (Bytes left n) refl refl
    ∙ bytes_drive item left more items [] rest

pub item_feed_drive : (left : ℕ) (items : List (List ℕ)) (old item rest : List ℕ) → IsShort item
    → drive (rest_at (Dollar left) items old) ((number_line 36 (length item) ++ (item ++ 13 ∷ [])) ++ rest) ≡ drive (rest_at (ItemFeed left) items item) rest
item_feed_drive left items old item rest h =
    let line = number_line 36 (length item) in
    let same_line : line ≡ number_line 36 (length item + 0) = ap (number_line 36) (omega arith) in
    let text : (line ++ (item ++ 13 ∷ [])) ++ rest ≡ (line ++ item) ++ 13 ∷ rest =
    ap (λ t. t ++ rest) (sym (append_assoc line item (13 ∷ []))) ∙ append_assoc (line ++ item) (13 ∷ []) rest in
    ap (drive (rest_at (Dollar left) items old)) (text ∙ ap (λ l. (l ++ item) ++ 13 ∷ rest) same_line)
    ∙ item_bytes_drive left 0 items old item (13 ∷ rest) (omega (arith, h))
    ∙ drive_on (rest_at (Bytes left 0) items item) 13 rest (ItemFeed left) refl refl

pub item_split : (item rest : List ℕ) → item_spelling item ++ rest ≡ (number_line 36 (length item) ++ (item ++ 13 ∷ [])) ++ 10 ∷ rest
item_split item rest =
    let line = number_line 36 (length item) in
    ap (λ t. (line ++ t) ++ rest) (sym (append_assoc item (13 ∷ []) (10 ∷ [])))
    ∙ ap (λ t. t ++ rest) (sym (append_assoc line (item ++ 13 ∷ []) (10 ∷ []))) ∙ append_assoc (line ++ (item ++ 13 ∷ [])) (10 ∷ []) rest

-- an item that others follow
item_drive : (left : ℕ) (items : List (List ℕ)) (item rest : List ℕ) → 1 ≤ left → IsShort item
    → drive (rest_at (Dollar (suc left)) items []) (item_spelling item ++ rest) ≡ drive (rest_at (Dollar left) (items ++ item ∷ []) []) rest
item_drive left items item rest some h =
    let more : is_last (suc left) ≡ false = grind (arith, nat_tests) in
    let down : suc left - 1 ≡ left = omega arith in
    let step : after (ItemFeed (suc left)) 10 ≡ Some (Dollar left) = ap (λ t. Some (cond t Star (Dollar (suc left - 1)))) more ∙ ap (λ n. Some (Dollar n)) down in
    ap (drive (rest_at (Dollar (suc left)) items [])) (item_split item rest) ∙ item_feed_drive (suc left) items [] item (10 ∷ rest) h
    ∙ drive_on (rest_at (ItemFeed (suc left)) items item) 10 rest (Dollar left) step refl
    ∙ ap (λ t. drive (rest_at (Dollar left) (cond t [] (items ++ item ∷ [])) []) rest) more

-- the last item
last_drive : (items : List (List ℕ)) (item rest : List ℕ) → IsShort item
    → drive (rest_at (Dollar 1) items []) (item_spelling item ++ rest) ≡ done ((items ++ item ∷ []) ∷ []) rest
last_drive items item rest h =
    ap (drive (rest_at (Dollar 1) items [])) (item_split item rest) ∙ item_feed_drive 1 items [] item (10 ∷ rest) h
    ∙ drive_end (rest_at (ItemFeed 1) items item) 10 rest Star refl refl

-- items that others follow
past_drive : (todo past : List (List ℕ)) (left : ℕ) (rest : List ℕ) → 1 ≤ left → AllByRecursion IsShort todo
    → drive (rest_at (Dollar (length todo + left)) past []) (flat_map item_spelling todo ++ rest) ≡ drive (rest_at (Dollar left) (past ++ todo) []) rest
past_drive [] past left rest some h =
    ap (λ n. drive (rest_at (Dollar n) past []) rest) (zero-add left) ∙ ap (λ t. drive (rest_at (Dollar left) t []) rest) (sym (append-nil past))
past_drive (i ∷ is) past left rest some h =
    let n : ℕ = length is + left in
    let up : suc (length is) + left ≡ suc n = omega arith in
    ap (λ m. drive (rest_at (Dollar m) past []) (flat_map item_spelling (i ∷ is) ++ rest)) up
    ∙ ap (drive (rest_at (Dollar (suc n)) past [])) (append_assoc (item_spelling i) (flat_map item_spelling is) rest)
    ∙ item_drive n past i (flat_map item_spelling is ++ rest) (omega (arith, some)) h.0
    ∙ past_drive is (past ++ i ∷ []) left rest some h.1
    ∙ ap (λ t. drive (rest_at (Dollar left) t []) rest) (append_assoc past (i ∷ []) is)

-- all items
items_drive : (i : List ℕ) (is past : List (List ℕ)) (rest : List ℕ) → IsShort i → AllByRecursion IsShort is
    → drive (rest_at (Dollar (suc (length is))) past []) (flat_map item_spelling (i ∷ is) ++ rest) ≡ done ((past ++ i ∷ is) ∷ []) rest
items_drive i [] past rest h k = ap (λ t. drive (rest_at (Dollar 1) past []) (t ++ rest)) (append-nil (item_spelling i)) ∙ last_drive past i rest h
items_drive i (j ∷ is) past rest h k =
    ap (drive (rest_at (Dollar (suc (suc (length is)))) past [])) (append_assoc (item_spelling i) (flat_map item_spelling (j ∷ is)) rest)
    ∙ item_drive (suc (length is)) past i (flat_map item_spelling (j ∷ is) ++ rest) (omega arith) h
    ∙ items_drive j is (past ++ i ∷ []) rest k.0 k.1
    ∙ ap (λ t. done (t ∷ []) rest) (append_assoc past (i ∷ []) (j ∷ is))

command_drive : (items : List (List ℕ)) (rest : List ℕ) → IsCommand items → drive fresh (command_spelling items ++ rest) ≡ done (items ∷ []) rest
command_drive [] rest h = absurd (omega (arith, h.some))
command_drive (i ∷ is) rest h =
    ap (drive fresh) (append_assoc (number_line 42 (suc (length is))) (flat_map item_spelling (i ∷ is)) rest)
    ∙ array_drive [] [] (suc (length is)) (flat_map item_spelling (i ∷ is) ++ rest) h.some h.few ∙ items_drive i is [] rest h.short.0 h.short.1

-- a spelling is read to its end
pub spelling_drive : (text : List ℕ) (c : Option (List (List ℕ))) (rest : List ℕ) → Spells text c → drive fresh (text ++ rest) ≡ done (option_to_list c) rest
unfolding drive
spelling_drive text (Some items) rest h = ap (λ t. drive fresh (t ++ rest)) h.1 ∙ command_drive items rest h.0
spelling_drive text None rest (inl e) = ap (λ t. drive fresh (t ++ rest)) e
spelling_drive text None rest (inr e) = ap (λ t. drive fresh (t ++ rest)) e

-- an array that has begun is read as it is
front_drive : (items : List (List ℕ)) (left : ℕ) (rest : List ℕ) → IsWithin items left → drive fresh (array_front items left ++ rest) ≡ drive (rest_at (Dollar left) items []) rest
front_drive items left rest h =
    ap (drive fresh) (append_assoc (number_line 42 (length items + left)) (flat_map item_spelling items) rest)
    ∙ array_drive [] [] (length items + left) (flat_map item_spelling items ++ rest) (omega (arith, h.0)) h.1 ∙ past_drive items [] left rest h.0 h.2

behind : (items : List (List ℕ)) (left : ℕ) (text rest : List ℕ) → IsWithin items left
    → drive fresh ((array_front items left ++ text) ++ rest) ≡ drive (rest_at (Dollar left) items []) (text ++ rest)
behind items left text rest h = ap (drive fresh) (append_assoc (array_front items left) text rest) ∙ front_drive items left (text ++ rest) h

with_item : (w : Awaited) (items : List (List ℕ)) (item more : List ℕ) → item ≡ [] → drive (rest_at w items []) more ≡ drive (rest_at w items item) more
with_item w items item more e = ap (λ t. drive (rest_at w items t) more) (sym e)

with_both : (w : Awaited) (items : List (List ℕ)) (item more : List ℕ) → (items ≡ []) × (item ≡ []) → drive (rest_at w [] []) more ≡ drive (rest_at w items item) more
with_both w items item more h = ap (λ t. drive (rest_at w t []) more) (sym h.0) ∙ with_item w items item more h.1

rest_as_drive : (w : Awaited) (items : List (List ℕ)) (item more : List ℕ) → may_stand w items item → drive fresh (spelled_as w items item ++ more) ≡ drive (rest_at w items item) more
rest_as_drive Star items item more h = with_both Star items item more h
rest_as_drive Count items item more h = drive_on fresh 42 more Count refl refl ∙ with_both Count items item more h
rest_as_drive CountMinus items item more h =
    drive_on fresh 42 (45 ∷ more) Count refl refl ∙ drive_on (rest_at Count [] []) 45 more CountMinus refl refl ∙ with_both CountMinus items item more h
rest_as_drive CountMinusOne items item more h =
    drive_on fresh 42 (45 ∷ 49 ∷ more) Count refl refl ∙ drive_on (rest_at Count [] []) 45 (49 ∷ more) CountMinus refl refl
    ∙ drive_on (rest_at CountMinus [] []) 49 more CountMinusOne refl refl ∙ with_both CountMinusOne items item more h
rest_as_drive (CountDigits n) items item more h = count_drive [] [] n more h.0 ∙ with_both (CountDigits n) items item more h.1
rest_as_drive (CountFeed n) items item more h = feed_drive [] [] n more h.0 ∙ with_both (CountFeed n) items item more h.1
rest_as_drive NoCountFeed items item more h =
    drive_on fresh 42 (45 ∷ 49 ∷ 13 ∷ more) Count refl refl ∙ drive_on (rest_at Count [] []) 45 (49 ∷ 13 ∷ more) CountMinus refl refl
    ∙ drive_on (rest_at CountMinus [] []) 49 (13 ∷ more) CountMinusOne refl refl ∙ drive_on (rest_at CountMinusOne [] []) 13 more NoCountFeed refl refl
    ∙ with_both NoCountFeed items item more h
rest_as_drive (Dollar left) items item more h = front_drive items left more h.0 ∙ with_item (Dollar left) items item more h.1
rest_as_drive (Length left) items item more h =
    behind items left (36 ∷ []) more h.0 ∙ drive_on (rest_at (Dollar left) items []) 36 more (Length left) refl refl ∙ with_item (Length left) items item more h.1
rest_as_drive (LengthDigits left n) items item more h =
    behind items left (36 ∷ decimal n) more h.0 ∙ length_drive left items [] n more h.2 ∙ with_item (LengthDigits left n) items item more h.1
rest_as_drive (LengthFeed left n) items item more h =
    behind items left ((36 ∷ decimal n) ++ 13 ∷ []) more h.0 ∙ length_feed_drive left items [] n more h.2 ∙ with_item (LengthFeed left n) items item more h.1
rest_as_drive (Bytes left n) items item more h =
    behind items left (number_line 36 (length item + n) ++ item) more h.0 ∙ item_bytes_drive left n items [] item more h.1
rest_as_drive (ItemFeed left) items item more h =
    behind items left (number_line 36 (length item) ++ (item ++ 13 ∷ [])) more h.0 ∙ item_feed_drive left items [] item more h.1

-- the bytes of a command that has begun lead to it
pub rest_drive : (r : Rest) (more : List ℕ) → IsRest r → drive fresh (spelled r ++ more) ≡ drive r more
rest_drive r more h = rest_as_drive r.awaited r.items r.item more h
