-- What is left behind a line
use Rattle.std.proofs.Common.{◌≡◌, ℕ, ◌<◌, List, ◌∷◌, length, inl, inr, ap, arith, length-append}
use Rattle.rambo_text.specs.Words.{IsFirstLine}

pub shorter : (text line rest : List ℕ) → 0 < length text → IsFirstLine text line rest → length rest < length text
shorter text line rest some first = elim first.whole [
  | inl feed ↦ omega (arith, length-append line (10 ∷ rest), ap length feed)
  | inr last ↦ (let none : length rest ≡ 0 = ap length last.1 in omega arith)
]
