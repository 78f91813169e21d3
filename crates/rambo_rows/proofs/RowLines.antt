-- Reading a row line by line
use Rattle.std.proofs.Common.{◌≡◌, ◌≢◌, ℕ, List, [], ◌∷◌, length, ◌<◌, ap, inl, inr, refl, subst, sym, arith}
use Rattle.rambo_text.specs.Words.{IsFirstLine}
use Rattle.rambo_rows.specs.RowTexts.{RowText, IsBlock, IsRow, tells, tells_all}

-- the lines that are left of a text go on with a row, which is so far this one
abbrev pub GoesOn : List ℕ → RowText → List ℕ → Type 0
GoesOn text row rest = (lines : List (List ℕ)) (left : List ℕ) → IsBlock rest lines left → IsRow text (tells_all row lines) left

pub no_bytes : (xs : List ℕ) → length xs ≡ 0 → xs ≡ []
no_bytes [] none = refl
no_bytes (x ∷ xs) none = absurd (omega (arith, none))

pub some_bytes : (xs : List ℕ) → 0 < length xs → xs ≢ []
some_bytes [] some none = absurd (omega (arith, some))
some_bytes (x ∷ xs) some none = absurd (omega (arith, ap length none))

-- no line is left
pub ends : (text rest : List ℕ) (row : RowText) → GoesOn text row rest → rest ≡ [] → IsRow text row rest
ends text rest row on none = on [] rest (inl (none, none))

-- an empty line is
pub ends_at_empty_line : (text rest line behind : List ℕ) (row : RowText) → GoesOn text row rest → rest ≢ [] → IsFirstLine rest line behind → line ≡ [] → IsRow text row behind
ends_at_empty_line text rest line behind row on some first none =
    on [] behind (inr (some, subst (λ l. IsFirstLine rest l behind) none first))

-- a line that tells more
pub goes_on : (text rest line behind : List ℕ) (row new : RowText) → GoesOn text row rest → IsFirstLine rest line behind → line ≢ [] → new ≡ tells row line → GoesOn text new behind
goes_on text rest line behind row new on first full is =
    λ lines left block. subst (λ r. IsRow text (tells_all r lines) left) (sym is) (on (line ∷ lines) left (full, behind, first, block))
