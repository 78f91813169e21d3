-- Bytes and the halves of which they are made
use Rattle.std.proofs.Common.{◌≡◌, ℕ, ◌+◌, ◌*◌, ◌/◌, ◌%◌, ◌<◌, true, cond, ltb, List, [], ◌∷◌, map, length, refl, ap, ◌∙◌, arith}
use Rattle.std.proofs.lemmas.Bool.Decides.{nat_tests}
use Rattle.std.proofs.lemmas.List.Elements.{All-from_recursion}
use lib.Lanes.{Each1, sel_l, zip2}
use Rattle.rambo_text.specs.Signs.{digit_of, pairs_text, AreBytes}
use Rattle.rambo_text.specs.Lanes.{number_or_255, in_turn}
use Rattle.rambo_text.proofs.LaneByLane.{same_at}

abbrev pub Low : List ℕ → Type 0
Low xs = Each1 (λ n. n < 16) xs

pub made_bytes : (hs ls : List ℕ) → Low hs → Low ls → AreBytes (zip2 (λ h l. h * 16 + l) hs ls)
made_bytes hs ls p q = All-from_recursion (λ b. b < 256) _ (each hs ls p q) where
  each : (hs ls : List ℕ) → Low hs → Low ls → Each1 (λ b. b < 256) (zip2 (λ h l. h * 16 + l) hs ls)
  each [] ls p q = tt
  each (h ∷ hs) [] p q = tt
  each (h ∷ hs) (l ∷ ls) p q = (omega (arith, p.0, q.0), each hs ls p.1 q.1)

-- the greater of two numbers
greater : (h l : ℕ) → ltb (cond (ltb h l) l h) 16 ≡ true → (h < 16) × (l < 16)
greater h l e = grind (arith, nat_tests)

both : (h l : ℕ) → h < 16 → l < 16 → ltb (cond (ltb h l) l h) 16 ≡ true
both h l p q = grind (arith, nat_tests)

pub greater_low : (hs ls : List ℕ) → length hs ≡ length ls → Each1 (λ x. ltb x 16 ≡ true) (sel_l (zip2 ltb hs ls) ls hs) → Low hs × Low ls
greater_low [] [] long h = (tt, tt)
greater_low [] (l ∷ ls) long h = absurd (omega (arith, long))
greater_low (h ∷ hs) [] long t = absurd (omega (arith, long))
greater_low (h ∷ hs) (l ∷ ls) long t =
    let one = greater h l t.0 in
    let rest = greater_low hs ls (omega (arith, long)) t.1 in
    ((one.0, rest.0), (one.1, rest.1))

pub low_greater : (hs ls : List ℕ) → length hs ≡ length ls → Low hs → Low ls → Each1 (λ x. ltb x 16 ≡ true) (sel_l (zip2 ltb hs ls) ls hs)
low_greater [] [] long p q = tt
low_greater [] (l ∷ ls) long p q = absurd (omega (arith, long))
low_greater (h ∷ hs) [] long p q = absurd (omega (arith, long))
low_greater (h ∷ hs) (l ∷ ls) long p q = (both h l p.0 q.0, low_greater hs ls (omega (arith, long)) p.1 q.1)

-- bytes that are put together lane by lane
pub put_together : (k : ℕ → ℕ → ℕ) (f : ℕ → ℕ) → ((h l : ℕ) → h < 16 → l < 16 → k (f h) l ≡ h * 16 + l) → (hs ls : List ℕ) → Low hs → Low ls
    → zip2 k (map f hs) ls ≡ zip2 (λ h l. h * 16 + l) hs ls
put_together k f is [] ls p q = refl
put_together k f is (h ∷ hs) [] p q = refl
put_together k f is (h ∷ hs) (l ∷ ls) p q = (λ i. is h l p.0 q.0 i ∷ put_together k f is hs ls p.1 q.1 i)

-- the digits of the halves are those of the bytes
pub halves_turned : (bs : List ℕ) → in_turn (map digit_of (map (λ b. b / 16) bs)) (map digit_of (map (λ b. b % 16) bs)) ≡ pairs_text bs
halves_turned [] = refl
halves_turned (b ∷ bs) = ap (λ t. digit_of (b / 16) ∷ digit_of (b % 16) ∷ t) (halves_turned bs)

-- what has a number below 16 is its digit
digit_is : (d : ℕ) → number_or_255 d < 16 → d ≡ digit_of (number_or_255 d)
digit_is d low = grind (arith, nat_tests)

number_is : (n : ℕ) → n < 16 → number_or_255 (digit_of n) ≡ n
number_is n low = same_at (λ m. number_or_255 (digit_of m)) (λ m. m) 16 n tt low

pub spelt : (hs ls : List ℕ) → length hs ≡ length ls → Low (map number_or_255 hs) → Low (map number_or_255 ls)
    → in_turn hs ls ≡ pairs_text (zip2 (λ h l. h * 16 + l) (map number_or_255 hs) (map number_or_255 ls))
spelt [] ls long p q = refl
spelt (h ∷ hs) [] long p q = absurd (omega (arith, long))
spelt (h ∷ hs) (l ∷ ls) long p q =
    let n = number_or_255 h in
    let m = number_or_255 l in
    let high : n ≡ (n * 16 + m) / 16 = omega (arith, q.0) in
    let low : m ≡ (n * 16 + m) % 16 = omega (arith, q.0) in
    let hd = digit_is h p.0 ∙ ap digit_of high in
    let ld = digit_is l q.0 ∙ ap digit_of low in
    let rest = spelt hs ls (omega (arith, long)) p.1 q.1 in
    (λ i. hd i ∷ ld i ∷ rest i)

low_of : (d n : ℕ) → d ≡ digit_of n → n < 16 → number_or_255 d < 16
low_of d n e low = let is = ap number_or_255 e ∙ number_is n low in omega (arith, is, low)

pub unspelt : (hs ls bs : List ℕ) → length hs ≡ length ls → Each1 (λ b. b < 256) bs → in_turn hs ls ≡ pairs_text bs → Low (map number_or_255 hs) × Low (map number_or_255 ls)
unspelt [] [] bs long h e = (tt, tt)
unspelt [] (l ∷ ls) bs long h e = absurd (omega (arith, long))
unspelt (h ∷ hs) [] bs long p e = absurd (omega (arith, long))
unspelt (h ∷ hs) (l ∷ ls) [] long p e = cc
unspelt (h ∷ hs) (l ∷ ls) (b ∷ bs) long p e =
    let small = p.0 in
    let hd : h ≡ digit_of (b / 16) = cc in
    let ld : l ≡ digit_of (b % 16) = cc in
    let rest = unspelt hs ls bs (omega (arith, long)) p.1 cc in
    ((low_of h (b / 16) hd (omega (arith, small)), rest.0), (low_of l (b % 16) ld (omega arith), rest.1))
