-- A text that is cut at the first place of a byte
use Rattle.std.proofs.Common.{◌≡◌, ℕ, zero, suc, ◌+◌, ◌-◌, ◌<◌, List, [], ◌∷◌, ◌++◌, length, get_or, take, drop, sym, ap, subst, ◌∙◌, length-drop, arith}
use Rattle.std.proofs.lemmas.Bool.{eqb-true, eq-eqb}
use Rattle.std.proofs.lemmas.List.{take-append-drop, drop_more, take_all}
use Rattle.memchr.specs.Find.{Nowhere, Passes, is_byte}
use Rattle.rambo_text.specs.Words.{Lacks}

-- what stands behind the first n bytes
pub is_rest : (line : List ℕ) (n : ℕ) → take (length line - n) (drop n line) ≡ drop n line
is_rest line n = let l = length-drop n line in take_all (length line - n) (drop n line) (omega (arith, l))

pub lacks-take : (b n : ℕ) (xs : List ℕ) → Nowhere (Passes (is_byte b) xs) 0 n → Lacks b (take n xs)
lacks-take b zero xs none = tt
lacks-take b (suc n) [] none = tt
lacks-take b (suc n) (x ∷ xs) none = (
  λ e. none 0 (omega arith) (omega arith) (eq-eqb x b e),
  lacks-take b n xs (λ k low high here. none (suc k) (omega arith) (omega arith) here),
)

pub lacks-whole : (b : ℕ) (xs : List ℕ) → Nowhere (Passes (is_byte b) xs) 0 (length xs) → Lacks b xs
lacks-whole b xs none = subst (Lacks b) (take_all (length xs) xs (omega arith)) (lacks-take b (length xs) xs none)

pub cut_first : (b n : ℕ) (xs : List ℕ) → n < length xs → Passes (is_byte b) xs n → xs ≡ take n xs ++ b ∷ take (length xs - (n + 1)) (drop (n + 1) xs)
cut_first b n xs short here =
    let byte = eqb-true (get_or xs n 0) b here in
    sym (take-append-drop n xs) ∙ ap (λ l. take n xs ++ l) (drop_more xs n 0 short ∙ (λ i. byte i ∷ sym (is_rest xs (n + 1)) i))
