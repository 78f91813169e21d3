-- What is reported of the rows of a text
use Rattle.std.specs.Prelude.{◌≡◌, ◌≢◌, ◌++◌, ◌∷◌, [], ℕ, List, Bool, IsTrue, cond, not, ◌&&◌, nat_eq, nat_lt, codes, decimal, length, map, filter, flat_map, All}
use Rattle.std.specs.List.{starts_with}
use Rattle.rambo_rows.specs.RowTexts.{RowText, IsRow}
use Rattle.rambo_rows.specs.Rows.{Shows}

-- the rows of a text, one after another
abbrev pub AreRows : List ℕ → List RowText → Type 0
AreRows text [] = text ≡ []
AreRows text (row ∷ rows) = (text ≢ []) × (rest : List ℕ) × IsRow text row rest × AreRows rest rows

-- a row whose name begins with # is a note
abbrev pub is_note : List ℕ → Bool
is_note name = starts_with nat_eq name (codes "#")

-- a row, and whether it came out right
abbrev pub Judged : Type 0
Judged = RowText × Bool

-- these are the rows of a text that are no notes
abbrev pub AreJudged : List ℕ → List Judged → Type 0
AreJudged text judged = (rows : List RowText) × AreRows text rows × (filter (λ row. not (is_note row.name)) rows ≡ map (λ j. j.0) judged)

-- what is right shows what it says
abbrev pub IsJudged : Judged → Type 0
IsJudged j = IsTrue j.1 → Shows j.0.word j.0.ending j.0.input j.0.output

-- how many are wrong
abbrev pub wrong_count : List Judged → ℕ
wrong_count judged = length (filter (λ j. not j.1) judged)

-- what is reported of a row: its name, where it is wrong
abbrev pub told_of : Judged → List ℕ
told_of j = cond j.1 [] (codes "wrong: " ++ j.0.name ++ 10 ∷ [])

-- and last how many there are
abbrev pub total : ℕ → ℕ → List ℕ
total rows wrong = decimal rows ++ codes " rows, " ++ decimal wrong ++ codes " wrong\n"

-- the rows of a text were judged, this is reported of them, and it is green where none is wrong and there is a row at
-- all
pub record IsReport (text report : List ℕ) (green : Bool) : Type 0 where
  pub judged : List Judged
  pub are_judged : AreJudged text judged
  pub shown : All IsJudged judged
  pub told : report ≡ flat_map told_of judged ++ total (length judged) (wrong_count judged)
  pub green_is : green ≡ (nat_eq (wrong_count judged) 0 && nat_lt 0 (length judged))
