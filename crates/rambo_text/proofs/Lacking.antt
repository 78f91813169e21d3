-- Which bytes the signs lack
use Rattle.std.proofs.Common.{◌≡◌, ℕ, ◌+◌, ◌%◌, ◌<◌, ◌^◌, List, [], ◌∷◌, ◌++◌, decimal, arith}
use Rattle.std.proofs.lemmas.Fmt.{decimal_by_steps}
use Rattle.rambo_names.specs.Names.{IsName}
use Rattle.rambo_text.specs.Words.{Lacks}

pub lacks-append : (b : ℕ) (xs ys : List ℕ) → Lacks b xs → Lacks b ys → Lacks b (xs ++ ys)
lacks-append b [] ys l m = m
lacks-append b (x ∷ xs) ys l m = (l.0, lacks-append b xs ys l.1 m)

-- a number has digits alone
pub lacks-decimal : (b n : ℕ) → b < 48 → n < 2 ^ 64 → Lacks b (decimal n)
lacks-decimal b n low h =
    decimal_by_steps (λ m ds. Lacks b ds) (λ m k. (λ (e : 48 + m ≡ b). let bad : ⊥ = omega arith in bad, tt))
    (λ m ds k l. lacks-append b ds ((48 + m % 10) ∷ []) l (λ (e : 48 + m % 10 ≡ b). let bad : ⊥ = omega arith in bad, tt)) n h

pub lacks-name : (b n : ℕ) → b < 44 → IsName n → Lacks b (decimal n)
lacks-name b n low is = lacks-decimal b n (omega arith) (omega arith)

-- and no letter
pub letterless : (b n : ℕ) → 57 < b → n < 2 ^ 64 → Lacks b (decimal n)
letterless b n high h =
    decimal_by_steps (λ m ds. Lacks b ds) (λ m k. (λ (e : 48 + m ≡ b). let bad : ⊥ = omega (arith, k) in bad, tt))
    (λ m ds k l. lacks-append b ds ((48 + m % 10) ∷ []) l (λ (e : 48 + m % 10 ≡ b). let bad : ⊥ = omega arith in bad, tt)) n h
