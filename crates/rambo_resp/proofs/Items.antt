-- Whole items, and the line of an array, are read at once
use Rattle.std.proofs.Common.{◌≡◌, ℕ, suc, ◌+◌, ◌-◌, ◌*◌, ◌/◌, ◌%◌, ◌^◌, ◌<◌, ◌≤◌, Bool, true, false, cond, ◌==◌, List, [], ◌∷◌, ◌++◌, length, get_or, drop, Some, None, decimal, refl, sym, ap, ◌∙◌, arith, inl, inr, append_assoc, append-nil, length-append}
use Rattle.std.proofs.lemmas.Bool.{true≢false, cases_lt}
use Rattle.std.proofs.lemmas.List.{drop_at}
use Rattle.std.proofs.lemmas.Fmt.{decimal_digit, decimal_step}
use Rattle.rambo_resp.specs.declared.awaited.Awaited.{Awaited}
use Rattle.rambo_resp.specs.declared.awaited.Awaited.TheVariants.{Star, Count, CountMinus, CountMinusOne, CountDigits, CountFeed, NoCountFeed, Dollar, Length, LengthDigits, LengthFeed, Bytes, ItemFeed}
use Rattle.rambo_resp.specs.Streams.{place_of}
use Rattle.rambo_resp.specs.Spellings.{number_line, item_spelling, IsShort}
use Rattle.rambo_resp.specs.Rests.{Rest}
use Rattle.rambo_resp.specs.Progresses.{is_last, after, rest_after, whole_as, whole, ProgressState, running, stepped, run, item_read, line_read}
use Rattle.rambo_resp.specs.Endings.{is_star, at, done, stuck, drive}
use Rattle.rambo_resp.proofs.ByteTests.{if_some}
use Rattle.rambo_resp.proofs.Drives.{rest_at, drive_on, drive_end, drive_stuck, drive_none, array_drive, item_feed_drive, item_split}
use Rattle.rambo_resp.proofs.Readings.{run_cons}

not_last : (t : Bool) (x a : Awaited) (w : List (List (List ℕ))) → cond t Star x ≡ a → is_star a ≡ false → cond t w [] ≡ []
not_last true x a w e s = absurd (true≢false (ap is_star e ∙ s))
not_last false x a w e s = refl

-- no command is whole with a byte behind which a spelling goes on
none_whole : (w : Awaited) (items : List (List ℕ)) (item : List ℕ) (b : ℕ) (a : Awaited) → after w b ≡ Some a → is_star a ≡ false → whole_as w items item ≡ []
none_whole Star items item b a e s = refl
none_whole Count items item b a e s = refl
none_whole CountMinus items item b a e s = refl
none_whole CountMinusOne items item b a e s = refl
none_whole (CountDigits n) items item b a e s = refl
none_whole (CountFeed n) items item b a e s = refl
none_whole NoCountFeed items item b a e s = refl
none_whole (Dollar left) items item b a e s = refl
none_whole (Length left) items item b a e s = refl
none_whole (LengthDigits left n) items item b a e s = refl
none_whole (LengthFeed left n) items item b a e s = refl
none_whole (Bytes left more) items item b a e s = refl
none_whole (ItemFeed left) items item b a e s =
    let k = if_some (b == 10) (cond (is_last left) Star (Dollar (left - 1))) a e in
    not_last (is_last left) (Dollar (left - 1)) a ((items ++ item ∷ []) ∷ []) k.1 s

-- a progress by its parts
abbrev come : List (List (List ℕ)) → ℕ → Rest → ProgressState
come waiting place rest = record { waiting = waiting; place = place; rest = rest }

-- bytes that lead on are read, and no command is whole with them
driven_run : (bs : List ℕ) (p : ProgressState) (q : Rest) (rest : List ℕ) → (length bs ≡ 0 → p.place < 2 ^ 64) → drive p.rest bs ≡ at q
    → run (running p) (bs ++ rest) ≡ run (running (come p.waiting (place_of (p.place + length bs)) q)) rest
driven_run [] p q rest small e =
    let same : p.rest ≡ q = (let k : at p.rest ≡ at q = sym (drive_none p.rest) ∙ e in cc) in
    let here : p.place ≡ place_of (p.place + 0) = omega (arith, small refl) in
    ap (λ r. run (running (come p.waiting p.place r)) rest) same ∙ ap (λ n. run (running (come p.waiting n q)) rest) here
driven_run (b ∷ bs) p q rest small e =
    let G : Type 0 = run (running p) (b ∷ (bs ++ rest)) ≡ run (running (come p.waiting (place_of (p.place + suc (length bs))) q)) rest in
    elim (after p.rest.awaited b) as (λ o. after p.rest.awaited b ≡ o → G) [
      | None ↦ λ k. (let l : stuck ≡ at q = sym (drive_stuck p.rest b bs k) ∙ e in cc)
      | Some a ↦ λ k.
          elim (is_star a) as (λ t. is_star a ≡ t → G) [
            | true ↦ λ s. (let l : done (whole p.rest) bs ≡ at q = sym (drive_end p.rest b bs a k s) ∙ e in cc)
            | false ↦ λ s.
                (let later : place_of (place_of (p.place + 1) + length bs) ≡ place_of (p.place + suc (length bs)) = omega arith in
                let r : Rest = rest_after p.rest b a in
                run_cons p b (bs ++ rest) ∙ ap (λ o. run (stepped o p b) (bs ++ rest)) k
                ∙ ap (λ w. run (running (come (p.waiting ++ w) (place_of (p.place + 1)) r)) (bs ++ rest)) (none_whole p.rest.awaited p.rest.items p.rest.item b a k s)
                ∙ ap (λ w. run (running (come w (place_of (p.place + 1)) r)) (bs ++ rest)) (append-nil p.waiting)
                ∙ driven_run bs (come p.waiting (place_of (p.place + 1)) r) q rest (λ _. omega arith) (sym (drive_on p.rest b bs a k s) ∙ e)
                ∙ ap (λ n. run (running (come p.waiting n q)) rest) later)
          ] refl
    ] refl

-- how many bytes spell an item, but for the last
front_length : (item : List ℕ) → length (item_spelling item) ≡ length (number_line 36 (length item) ++ (item ++ 13 ∷ [])) + 1
front_length item = ap length (sym (append-nil (item_spelling item)) ∙ item_split item []) ∙ length-append (number_line 36 (length item) ++ (item ++ 13 ∷ [])) (10 ∷ [])

-- an item is read
pub item_run : (p : ProgressState) (left : ℕ) (item rest : List ℕ) → p.rest.awaited ≡ Dollar left → IsShort item
    → run (running p) (item_spelling item ++ rest) ≡ run (running (item_read p left item (length (item_spelling item)))) rest
item_run p left item rest a h =
    let front : List ℕ = number_line 36 (length item) ++ (item ++ 13 ∷ []) in
    let q : Rest = rest_at (ItemFeed left) p.rest.items item in
    let d : drive p.rest front ≡ at q =
    ap (λ w. drive (rest_at w p.rest.items p.rest.item) front) a ∙ ap (drive (rest_at (Dollar left) p.rest.items p.rest.item)) (sym (append-nil front))
    ∙ item_feed_drive left p.rest.items p.rest.item item [] h ∙ drive_none q in
    let total : place_of (place_of (p.place + length front) + 1) ≡ place_of (p.place + length (item_spelling item)) = omega (arith, front_length item) in
    ap (run (running p)) (item_split item rest) ∙ driven_run front p q (10 ∷ rest) (λ z. absurd (omega (arith, z))) d
    ∙ run_cons (come p.waiting (place_of (p.place + length front)) q) 10 rest
    ∙ ap (λ n. run (running (come (p.waiting ++ whole_as (ItemFeed left) p.rest.items item) n (rest_after q 10 (cond (is_last left) Star (Dollar (left - 1)))))) rest) total

-- a line that tells a number with one digit
pub line_of_one : (sign : ℕ) (bs : List ℕ) (n : ℕ) → 4 ≤ length bs → get_or bs 0 0 ≡ sign → n ≡ get_or bs 1 0 - 48 → 48 ≤ get_or bs 1 0 → get_or bs 1 0 < 58
    → get_or bs 2 0 ≡ 13 → get_or bs 3 0 ≡ 10 → bs ≡ number_line sign n ++ drop 4 bs
line_of_one sign [] n long is one low high cr lf = absurd (omega (arith, long))
line_of_one sign (a ∷ []) n long is one low high cr lf = absurd (omega (arith, long))
line_of_one sign (a ∷ b ∷ []) n long is one low high cr lf = absurd (omega (arith, long))
line_of_one sign (a ∷ b ∷ c ∷ []) n long is one low high cr lf = absurd (omega (arith, long))
line_of_one sign (a ∷ b ∷ c ∷ d ∷ bs) n long is one low high cr lf =
    let digit : 48 + n ≡ b = omega (arith, one, low) in
    let digits : decimal n ≡ b ∷ [] = decimal_digit n (omega (arith, one, high)) ∙ ap (λ x. x ∷ []) digit in
    ap (λ x. x ∷ b ∷ c ∷ d ∷ bs) is ∙ ap (λ x. sign ∷ b ∷ x ∷ d ∷ bs) cr ∙ ap (λ x. sign ∷ b ∷ 13 ∷ x ∷ bs) lf ∙ ap (λ ds. ((sign ∷ ds) ++ 13 ∷ 10 ∷ []) ++ bs) (sym digits)

-- a line that tells a length with two digits
pub line_of_two : (bs : List ℕ) (n : ℕ) → 5 ≤ length bs → get_or bs 0 0 ≡ 36 → n ≡ 10 * (get_or bs 1 0 - 48) + (get_or bs 2 0 - 48) → 49 ≤ get_or bs 1 0 → get_or bs 1 0 < 58
    → 48 ≤ get_or bs 2 0 → get_or bs 2 0 < 58 → get_or bs 3 0 ≡ 13 → get_or bs 4 0 ≡ 10 → bs ≡ number_line 36 n ++ drop 5 bs
line_of_two [] n long sign told low high low_one high_one cr lf = absurd (omega (arith, long))
line_of_two (a ∷ []) n long sign told low high low_one high_one cr lf = absurd (omega (arith, long))
line_of_two (a ∷ t ∷ []) n long sign told low high low_one high_one cr lf = absurd (omega (arith, long))
line_of_two (a ∷ t ∷ b ∷ []) n long sign told low high low_one high_one cr lf = absurd (omega (arith, long))
line_of_two (a ∷ t ∷ b ∷ c ∷ []) n long sign told low high low_one high_one cr lf = absurd (omega (arith, long))
line_of_two (a ∷ t ∷ b ∷ c ∷ d ∷ bs) n long sign told low high low_one high_one cr lf =
    let one : 48 + n % 10 ≡ b = omega (arith, told, low_one, high_one) in
    let ten : 48 + n / 10 ≡ t = omega (arith, told, low, low_one, high_one) in
    let first : decimal (n / 10) ≡ t ∷ [] = decimal_digit (n / 10) (omega (arith, ten, high)) ∙ ap (λ x. x ∷ []) ten in
    let digits : decimal n ≡ t ∷ b ∷ [] =
    decimal_step n (omega (arith, told, low)) (omega (arith, told, high, high_one)) ∙ ap (λ ds. ds ++ (48 + n % 10) ∷ []) first ∙ ap (λ x. t ∷ x ∷ []) one in
    ap (λ x. x ∷ t ∷ b ∷ c ∷ d ∷ bs) sign ∙ ap (λ x. 36 ∷ t ∷ b ∷ x ∷ d ∷ bs) cr ∙ ap (λ x. 36 ∷ t ∷ b ∷ 13 ∷ x ∷ bs) lf ∙ ap (λ ds. ((36 ∷ ds) ++ 13 ∷ 10 ∷ []) ++ bs) (sym digits)

-- what a line that tells a number with one digit is
pub one_digit_line : (sign n : ℕ) (rest : List ℕ) → n ≤ 9 → number_line sign n ++ rest ≡ sign ∷ (48 + n) ∷ 13 ∷ 10 ∷ rest
one_digit_line sign n rest low = ap (λ ds. ((sign ∷ ds) ++ 13 ∷ 10 ∷ []) ++ rest) (decimal_digit n (omega (arith, low)))

-- what a line that tells a number with two digits is
pub two_digit_line : (sign n : ℕ) (rest : List ℕ) → 10 ≤ n → n ≤ 99
    → number_line sign n ++ rest ≡ sign ∷ (48 + n / 10) ∷ (48 + n % 10) ∷ 13 ∷ 10 ∷ rest
two_digit_line sign n rest high low =
    ap (λ ds. ((sign ∷ ds) ++ 13 ∷ 10 ∷ []) ++ rest)
    (decimal_step n (omega (arith, high)) (omega (arith, low)) ∙ ap (λ ds. ds ++ (48 + n % 10) ∷ []) (decimal_digit (n / 10) (omega (arith, low))))

-- lines of at most two digits are one only where they tell one length, and what is behind is the same
pub same_line : (n m : ℕ) (a b : List ℕ) → n ≤ 99 → m ≤ 99 → number_line 36 n ++ a ≡ number_line 36 m ++ b → (n ≡ m) × (a ≡ b)
same_line n m a b small low e =
    let G : Type 0 = (n ≡ m) × (a ≡ b) in
    elim (cases_lt n 10) as (λ _. G) [
      | inl x ↦ elim (cases_lt m 10) as (λ _. G) [
        | inl y ↦
            (let l : 36 ∷ (48 + n) ∷ 13 ∷ 10 ∷ a ≡ 36 ∷ (48 + m) ∷ 13 ∷ 10 ∷ b = sym (one_digit_line 36 n a (omega (arith, x))) ∙ e ∙ one_digit_line 36 m b (omega (arith, y)) in
            let digit : 48 + n ≡ 48 + m = ap (λ s. get_or s 1 0) l in
            (omega (arith, digit), ap (drop 4) l))
        | inr y ↦
            (let l : 36 ∷ (48 + n) ∷ 13 ∷ 10 ∷ a ≡ 36 ∷ (48 + m / 10) ∷ (48 + m % 10) ∷ 13 ∷ 10 ∷ b = sym (one_digit_line 36 n a (omega (arith, x))) ∙ e ∙ two_digit_line 36 m b y low in
            let digit : 13 ≡ 48 + m % 10 = ap (λ s. get_or s 2 0) l in
            absurd (omega (arith, digit)))
      ]
      | inr x ↦ elim (cases_lt m 10) as (λ _. G) [
        | inl y ↦
            (let l : 36 ∷ (48 + n / 10) ∷ (48 + n % 10) ∷ 13 ∷ 10 ∷ a ≡ 36 ∷ (48 + m) ∷ 13 ∷ 10 ∷ b = sym (two_digit_line 36 n a x small) ∙ e ∙ one_digit_line 36 m b (omega (arith, y)) in
            let digit : 48 + n % 10 ≡ 13 = ap (λ s. get_or s 2 0) l in
            absurd (omega (arith, digit)))
        | inr y ↦
            (let l : 36 ∷ (48 + n / 10) ∷ (48 + n % 10) ∷ 13 ∷ 10 ∷ a ≡ 36 ∷ (48 + m / 10) ∷ (48 + m % 10) ∷ 13 ∷ 10 ∷ b = sym (two_digit_line 36 n a x small) ∙ e ∙ two_digit_line 36 m b y low in
            let ten : 48 + n / 10 ≡ 48 + m / 10 = ap (λ s. get_or s 1 0) l in
            let one : 48 + n % 10 ≡ 48 + m % 10 = ap (λ s. get_or s 2 0) l in
            (omega (arith, ten, one), ap (drop 5) l))
      ]
    ]

-- an item of at most 99 bytes that is behind its line
pub same_item : (n : ℕ) (behind item rest : List ℕ) → n ≤ 99 → length item ≤ 99 → number_line 36 n ++ behind ≡ item_spelling item ++ rest
    → (n ≡ length item) × (behind ≡ item ++ (13 ∷ 10 ∷ rest))
same_item n behind item rest small short e =
    let line : List ℕ = number_line 36 (length item) in
    same_line n (length item) behind (item ++ (13 ∷ 10 ∷ rest)) small short
    (e ∙ append_assoc line (item ++ 13 ∷ 10 ∷ []) rest ∙ ap (λ bs. line ++ bs) (append_assoc item (13 ∷ 10 ∷ []) rest))

-- the bytes of an item at the front of others are read
pub item_on : (v w : ProgressState) (left n : ℕ) (bs item rest : List ℕ) → v.rest.awaited ≡ Dollar left → IsShort item → bs ≡ item_spelling item ++ rest
    → n ≡ length bs - length rest → w ≡ item_read v left item n → run (running v) bs ≡ run (running w) (drop n bs)
item_on v w left n bs item rest a h split count e =
    let whole_length : n ≡ length (item_spelling item) = omega (arith, count, ap length split, length-append (item_spelling item) rest) in
    let behind : rest ≡ drop n bs = sym (ap (drop n) split ∙ drop_at (item_spelling item) rest n (sym whole_length)) in
    ap (run (running v)) split ∙ item_run v left item rest a h ∙ ap (λ m. run (running (item_read v left item m)) rest) (sym whole_length)
    ∙ ap (λ x. run (running x) rest) (sym e) ∙ ap (run (running w)) behind

-- the line of an array is read
pub line_run : (p : ProgressState) (n : ℕ) (rest : List ℕ) → p.rest.awaited ≡ Star → 1 ≤ n → n ≤ 128
    → run (running p) (number_line 42 n ++ rest) ≡ run (running (line_read p n (length (number_line 42 n)))) rest
line_run p n rest a some h =
    let line : List ℕ = number_line 42 n in
    let q : Rest = rest_at (Dollar n) [] p.rest.item in
    let d : drive p.rest line ≡ at q =
    ap (λ w. drive (rest_at w p.rest.items p.rest.item) line) a ∙ ap (drive (rest_at Star p.rest.items p.rest.item)) (sym (append-nil line))
    ∙ array_drive p.rest.items p.rest.item n [] some h ∙ drive_none q in
    driven_run line p q rest (λ z. absurd (omega (arith, z))) d

-- the line of an array at the front of others is read
pub line_on : (v w : ProgressState) (items n : ℕ) (bs rest : List ℕ) → v.rest.awaited ≡ Star → 1 ≤ items → items ≤ 128 → bs ≡ number_line 42 items ++ rest
    → n ≡ length bs - length rest → w ≡ line_read v items n → run (running v) bs ≡ run (running w) (drop n bs)
line_on v w items n bs rest a some h split count e =
    let whole_length : n ≡ length (number_line 42 items) = omega (arith, count, ap length split, length-append (number_line 42 items) rest) in
    let behind : rest ≡ drop n bs = sym (ap (drop n) split ∙ drop_at (number_line 42 items) rest n (sym whole_length)) in
    ap (run (running v)) split ∙ line_run v items rest a some h ∙ ap (λ m. run (running (line_read v items m)) rest) (sym whole_length)
    ∙ ap (λ x. run (running x) rest) (sym e) ∙ ap (run (running w)) behind
