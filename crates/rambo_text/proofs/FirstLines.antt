-- The first line of a text
use Rattle.std.proofs.Common.{◌≡◌, ◌⊎◌, ℕ, List, [], ◌∷◌, ◌++◌, inl, inr, sym, ap, ◌∙◌, append_assoc}
use Rattle.rambo_text.specs.Words.{Lacks, IsFirstLine}
use Rattle.rambo_text.proofs.WordSplits.{cut, no_cut}

-- a line feed stands in no empty text
pub no_nothing : (l t : List ℕ) → [] ≡ l ++ 10 ∷ t → ⊥
no_nothing [] t e = cc
no_nothing (x ∷ l) t e = cc

-- the first line is the front up to the first line feed
pub first_line_is : (front t text line rest : List ℕ) → Lacks 10 front → (text ≡ front ++ 10 ∷ t) ⊎ (text ++ 10 ∷ [] ≡ front ++ 10 ∷ t) → IsFirstLine text line rest → line ≡ front
first_line_is front t text line rest lacks (inl whole) first = elim first.whole [
  | inl feed ↦ (cut 10 line front rest t first.no_feed lacks (sym feed ∙ whole)).0
  | inr last ↦ absurd (no_cut 10 line front t first.no_feed (sym last.0 ∙ whole))
]
first_line_is front t text line rest lacks (inr whole) first = elim first.whole [
  | inl feed ↦ (cut 10 line front (rest ++ 10 ∷ []) t first.no_feed lacks (sym (append_assoc line (10 ∷ rest) (10 ∷ [])) ∙ ap (λ x. x ++ 10 ∷ []) (sym feed) ∙ whole)).0
  | inr last ↦ (cut 10 line front [] t first.no_feed lacks (ap (λ x. x ++ 10 ∷ []) (sym last.0) ∙ whole)).0
]
