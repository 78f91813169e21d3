-- Pairs of digits
use Rattle.std.proofs.Common.{◌≡◌, ℕ, zero, suc, ◌+◌, ◌*◌, ◌/◌, ◌%◌, ◌<◌, ◌≤◌, ◌⊎◌, inl, inr, length-append, List, [], ◌∷◌, ◌++◌, length, get_or, take, drop, false, refl, sym, ap, ◌∙◌, append_assoc, append-nil, true≢false, arith}
use Rattle.std.specs.Str.{bytes_eq}
use Rattle.std.proofs.lemmas.Slice.Eq.{bytes_eq-Decides}
use Rattle.std.proofs.lemmas.List.{take-append-drop, length-take-le}
use Rattle.std.proofs.lemmas.List.Elements.{All-nil, All-from_recursion, recursion_from_All}
use Rattle.rambo_text.specs.Signs.{digit_of, pairs_text, hex_text, AreBytes, HasNoPair}

pub pairs-append : (xs ys : List ℕ) → pairs_text (xs ++ ys) ≡ pairs_text xs ++ pairs_text ys
pairs-append [] ys = refl
pairs-append (x ∷ xs) ys = ap (λ t. digit_of (x / 16) ∷ digit_of (x % 16) ∷ t) (pairs-append xs ys)

-- the digits of more bytes, of those that were to come
pub pairs_on : (old new front rest behind whole : List ℕ) → new ≡ old ++ pairs_text front → rest ≡ front ++ behind
    → old ++ pairs_text rest ≡ whole → new ++ pairs_text behind ≡ whole
pairs_on old new front rest behind whole put is so =
    ap (λ t. t ++ pairs_text behind) put ∙ append_assoc old (pairs_text front) (pairs_text behind)
    ∙ ap (λ t. old ++ t) (sym (pairs-append front behind) ∙ ap pairs_text (sym is)) ∙ so

-- eight bytes are each of them
pub eight_bytes : (xs : List ℕ) → length xs ≡ 8
    → xs ≡ get_or xs 0 0 ∷ get_or xs 1 0 ∷ get_or xs 2 0 ∷ get_or xs 3 0 ∷ get_or xs 4 0 ∷ get_or xs 5 0 ∷ get_or xs 6 0 ∷ get_or xs 7 0 ∷ []
eight_bytes (a ∷ b ∷ c ∷ d ∷ e ∷ f ∷ g ∷ h ∷ []) is = refl
eight_bytes (a ∷ b ∷ c ∷ d ∷ e ∷ f ∷ g ∷ h ∷ x ∷ xs) is = absurd (omega (arith, is))
eight_bytes (a ∷ b ∷ c ∷ d ∷ e ∷ f ∷ g ∷ []) is = absurd (omega (arith, is))
eight_bytes (a ∷ b ∷ c ∷ d ∷ e ∷ f ∷ []) is = absurd (omega (arith, is))
eight_bytes (a ∷ b ∷ c ∷ d ∷ e ∷ []) is = absurd (omega (arith, is))
eight_bytes (a ∷ b ∷ c ∷ d ∷ []) is = absurd (omega (arith, is))
eight_bytes (a ∷ b ∷ c ∷ []) is = absurd (omega (arith, is))
eight_bytes (a ∷ b ∷ []) is = absurd (omega (arith, is))
eight_bytes (a ∷ []) is = absurd (omega (arith, is))
eight_bytes [] is = absurd (omega (arith, is))

tail_bytes : (c : ℕ) (cs : List ℕ) → AreBytes (c ∷ cs) → (c < 256) × AreBytes cs
tail_bytes c cs h =
    let r = recursion_from_All (λ b. b < 256) (c ∷ cs) h in
    (r.0, All-from_recursion (λ b. b < 256) cs r.1)

-- two digits on
first_pair : (cs : List ℕ) (high low : ℕ) (others : List ℕ) → AreBytes cs → high ∷ low ∷ others ≡ pairs_text cs
    → (c : ℕ) × (ds : List ℕ) × (c < 256) × AreBytes ds × (high ≡ digit_of (c / 16)) × (low ≡ digit_of (c % 16)) × (others ≡ pairs_text ds)
first_pair [] high low others h e = cc
first_pair (c ∷ cs) high low others h e =
    let t = tail_bytes c cs h in
    (c, cs, t.0, t.1, (cc), (cc), (cc))

-- digits at the front of those of some bytes are those of the first of them
split_pairs : (n : ℕ) (cs front behind : List ℕ) → AreBytes cs → length front ≡ 2 * n → front ++ behind ≡ pairs_text cs
    → (es : List ℕ) × (fs : List ℕ) × AreBytes es × AreBytes fs × (front ≡ pairs_text es) × (behind ≡ pairs_text fs)
split_pairs zero cs [] behind h long e = ([], cs, All-nil (λ b. b < 256), h, refl, e)
split_pairs zero cs (d ∷ front) behind h long e = absurd (omega (arith, long))
split_pairs (suc n) cs [] behind h long e = absurd (omega (arith, long))
split_pairs (suc n) cs (d ∷ []) behind h long e = absurd (omega (arith, long))
split_pairs (suc n) cs (high ∷ low ∷ front) behind h long e =
    let first = first_pair cs high low (front ++ behind) h e in
    let rest = split_pairs n first.1 front behind first.3 (omega (arith, long)) first.6 in
    let es = All-from_recursion (λ b. b < 256) (first.0 ∷ rest.0) (first.2, recursion_from_All (λ b. b < 256) rest.0 rest.2) in
    (first.0 ∷ rest.0, rest.1, es, rest.3, (λ i. first.4 i ∷ first.5 i ∷ rest.4 i), rest.5)

pub length-pairs : (bs : List ℕ) → length (pairs_text bs) ≡ 2 * length bs
length-pairs [] = refl
length-pairs (b ∷ bs) = let rest = length-pairs bs in omega (arith, rest)

-- what is spelt by no bytes, behind what is
spelt_behind : (word bytes rest bs : List ℕ) → word ≡ pairs_text bytes ++ rest → AreBytes bs → word ≡ pairs_text bs → (cs : List ℕ) × AreBytes cs × (rest ≡ pairs_text cs)
spelt_behind word bytes rest bs whole h is =
    let parts = split_pairs (length bytes) bs (pairs_text bytes) rest h (length-pairs bytes) (sym whole ∙ is) in
    (parts.1, parts.3, parts.5)

-- digits that spell no bytes
pub no_front : (n : ℕ) (word bytes rest front behind : List ℕ) → word ≡ pairs_text bytes ++ rest → rest ≡ front ++ behind → length front ≡ 2 * n
    → ((bs : List ℕ) → AreBytes bs → front ≡ pairs_text bs → ⊥) → (bs : List ℕ) → AreBytes bs → word ≡ pairs_text bs → ⊥
no_front n word bytes rest front behind whole e long none bs h is =
    let now = spelt_behind word bytes rest bs whole h is in
    let parts = split_pairs n now.0 front behind now.1 long (sym e ∙ now.2) in
    none parts.0 parts.2 parts.4

no_bytes : (cs rest : List ℕ) → AreBytes cs → rest ≡ pairs_text cs → HasNoPair rest → 0 < length rest → ⊥
no_bytes [] rest h e none some = let empty = ap length e in omega (arith, empty, some)
no_bytes (c ∷ cs) rest h e none some = none c (pairs_text cs) (tail_bytes c cs h).0 e

-- a rest that begins with no pair of digits
pub no_pair : (word bytes rest : List ℕ) → word ≡ pairs_text bytes ++ rest → HasNoPair rest → 0 < length rest → (bs : List ℕ) → AreBytes bs → word ≡ pairs_text bs → ⊥
no_pair word bytes rest whole none some bs h is =
    let now = spelt_behind word bytes rest bs whole h is in
    no_bytes now.0 rest now.1 now.2 none some

-- behind fifteen bytes there is nothing in a short word
pub no_more : (word bytes rest : List ℕ) (n : ℕ) → word ≡ pairs_text bytes ++ rest → length word ≤ 30 → length bytes ≡ n → (n ≡ 15) ⊎ HasNoPair rest → 0 < length rest
    → (bs : List ℕ) → AreBytes bs → word ≡ pairs_text bs → ⊥
no_more word bytes rest n whole short long (inr none) some = no_pair word bytes rest whole none some
no_more word bytes rest n whole short long (inl full) some = λ bs h is.
    let all = ap length whole in
    let pairs = length-pairs bytes in
    omega (arith, all, pairs, long, full, short, some, length-append (pairs_text bytes) rest)

-- some bytes more
pub pairs-front : (word bytes rest front behind more : List ℕ) → word ≡ pairs_text bytes ++ rest → rest ≡ front ++ behind → front ≡ pairs_text more
    → word ≡ pairs_text (bytes ++ more) ++ behind
pairs-front word bytes rest front behind more whole e is =
    whole ∙ ap (λ r. pairs_text bytes ++ r) (e ∙ ap (λ f. f ++ behind) is) ∙ sym (append_assoc (pairs_text bytes) (pairs_text more) behind)
    ∙ sym (ap (λ t. t ++ behind) (pairs-append bytes more))

-- the front of a text, and what is behind it
pub front_and_rest : (n : ℕ) (text front behind : List ℕ) → front ≡ take n text → behind ≡ drop n text → text ≡ front ++ behind
front_and_rest n text front behind f b = sym (take-append-drop n text) ∙ (λ i. sym f i ++ sym b i)

pub front_length : (n : ℕ) (text front behind : List ℕ) → front ≡ take n text → length behind + n ≡ length text → length front ≡ n
front_length n text front behind f is = ap length f ∙ length-take-le n text (omega (arith, is))

-- nothing is left
pub pairs-end : (word bytes rest : List ℕ) → length rest ≡ 0 → word ≡ pairs_text bytes ++ rest → word ≡ pairs_text bytes
pairs-end word bytes [] none e = e ∙ append-nil (pairs_text bytes)
pairs-end word bytes (x ∷ rest) none e = absurd (omega (arith, none))

-- some bytes are spelt by pairs alone
pub hex_is : (bs : List ℕ) → 0 < length bs → hex_text bs ≡ pairs_text bs
hex_is [] some = absurd (omega (arith, some))
hex_is (b ∷ bs) some = refl

-- what isn't a dash spells bytes by pairs alone
pub no_hex : (word bs : List ℕ) → false ≡ bytes_eq word (45 ∷ []) → (word ≡ pairs_text bs → ⊥) → word ≡ hex_text bs → ⊥
no_hex word [] dash none e = true≢false (sym ((bytes_eq-Decides word (45 ∷ [])).1 e) ∙ sym dash)
no_hex word (b ∷ bs) dash none e = none e
