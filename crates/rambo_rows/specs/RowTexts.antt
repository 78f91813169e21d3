-- How rows are written
use Rattle.std.specs.Prelude.{◌≡◌, ◌≢◌, ◌⊎◌, ◌++◌, ◌∷◌, [], ℕ, List, cond, nat_eq, codes}
use Rattle.std.specs.List.{starts_with}
use Rattle.rambo_text.specs.Words.{IsFirstLine}

-- what a row says
pub record RowText : Type 0 where
  pub name : List ℕ
  pub word : List ℕ
  pub input : List ℕ
  pub output : List ℕ
  pub ending : List ℕ

-- a row of which only the name was read
abbrev pub named : List ℕ → RowText
named name = record { name = name; word = []; input = []; output = []; ending = [] }

-- CR LF in a row that has a client served, else a line feed
abbrev pub line_end : List ℕ → List ℕ
line_end word = cond (starts_with nat_eq word (codes "local ")) (13 ∷ 10 ∷ []) (10 ∷ [])

-- a row with what a line adds. After > it is a line of the input, and after ~ the last one. After < it is a line of the
-- output, and after = how it ends. After another mark it is its word
abbrev pub tells : RowText → List ℕ → RowText
tells row [] = row
tells row (mark ∷ said) =
    cond (nat_eq mark 62) (record row { input = row.input ++ said ++ line_end row.word })
    (cond (nat_eq mark 126) (record row { input = row.input ++ said })
    (cond (nat_eq mark 60) (record row { output = row.output ++ said ++ line_end row.word })
    (cond (nat_eq mark 61) (record row { ending = said })
    (record row { word = said }))))

-- and with what lines add in turn
abbrev pub tells_all : RowText → List (List ℕ) → RowText
tells_all row [] = row
tells_all row (line ∷ lines) = tells_all (tells row line) lines

-- these lines, none of them empty, come before the text's end or an empty line, and this follows
abbrev pub IsBlock : List ℕ → List (List ℕ) → List ℕ → Type 0
IsBlock text [] rest = ((text ≡ []) × (rest ≡ [])) ⊎ ((text ≢ []) × IsFirstLine text [] rest)
IsBlock text (line ∷ lines) rest = (line ≢ []) × (behind : List ℕ) × IsFirstLine text line behind × IsBlock behind lines rest

-- a text begins with this row: the line of its name, and those of its parts
pub record IsRow (text : List ℕ) (row : RowText) (rest : List ℕ) : Type 0 where
  pub name : List ℕ
  pub behind : List ℕ
  pub lines : List (List ℕ)
  pub is_name : IsFirstLine text name behind
  pub is_block : IsBlock behind lines rest
  pub told : row ≡ tells_all (named name) lines
