-- What is left once a line was used
use Rattle.std.proofs.Common.{◌≡◌, ◌≤◌, ℕ, ◌-◌, ◌++◌, ◌∷◌, [], List, length, drop, inl, inr, sym, ap, ◌∙◌, append_assoc, length-append, arith}
use Rattle.std.proofs.lemmas.List.{drop_at, drop_all}
use Rattle.rambo_text.specs.Words.{IsFirstLine}

-- what stands behind the first line is what is left once as many bytes were used
pub rest_of : (held line rest : List ℕ) → IsFirstLine held line rest → drop (length held - length rest) held ≡ rest
rest_of held line rest first =
    elim first.whole [
      | inl e ↦
          let whole : held ≡ (line ++ 10 ∷ []) ++ rest = e ∙ sym (append_assoc line (10 ∷ []) rest) in
          let used : length (line ++ 10 ∷ []) ≡ length held - length rest = omega (arith, ap length whole, length-append (line ++ 10 ∷ []) rest) in
          ap (drop (length held - length rest)) whole ∙ drop_at (line ++ 10 ∷ []) rest (length held - length rest) used
      | inr e ↦
          let none : length rest ≡ 0 = ap length e.1 in
          let all : length held ≤ length held - length rest = omega (arith, none) in
          drop_all (length held - length rest) held all ∙ sym e.1
    ]
