-- Judging rows one by one
use Rattle.std.proofs.Common.{◌≡◌, ◌≢◌, ℕ, List, [], ◌∷◌, ◌++◌, ◌+◌, ◌≤◌, ◌<◌, ◌&&◌, Bool, true, false, cond, not, nat_eq, nat_lt, filter, flat_map, length, refl, sym, ap, ◌∙◌, subst, arith, append_assoc, append-nil}
use Rattle.std.specs.Prelude.{All}
use Rattle.std.proofs.lemmas.Grind.{flat_map-append}
use Rattle.std.proofs.lemmas.List.Elements.{filter-append, All-nil, All-push}
use Rattle.std.proofs.lemmas.List.{length-append}
use Rattle.rambo_rows.specs.RowTexts.{RowText, IsRow}
use Rattle.rambo_rows.specs.Reports.{AreJudged, IsJudged, IsReport, Judged, is_note, told_of, total, wrong_count}

-- the rows before a rest were judged, and this is told of them
pub record SoFar (text rest report : List ℕ) (rows wrong : ℕ) : Type 0 where
  pub judged : List Judged
  pub on : (more : List Judged) → AreJudged rest more → AreJudged text (judged ++ more)
  pub shown : All IsJudged judged
  pub told : report ≡ flat_map told_of judged
  pub rows_are : rows ≡ length judged
  pub wrong_are : wrong ≡ wrong_count judged
  pub few : rows + length rest ≤ length text
  pub fewer : wrong ≤ rows

-- none was
pub none_so_far : (text report : List ℕ) (rows wrong : ℕ) → report ≡ [] → rows ≡ 0 → wrong ≡ 0 → SoFar text text report rows wrong
none_so_far text report rows wrong none no_row no_wrong =
    record { judged = []; on = λ more all. all; shown = All-nil IsJudged; told = none; rows_are = no_row; wrong_are = no_wrong; few = omega (arith, no_row); fewer = omega (arith, no_wrong) }

-- a note is passed over
pub note_passed : (text rest behind report : List ℕ) (rows wrong : ℕ) (row : RowText) → SoFar text rest report rows wrong → rest ≢ [] → IsRow rest row behind → length behind < length rest
    → is_note row.name ≡ true → SoFar text behind report rows wrong
note_passed text rest behind report rows wrong row now some is shorter note =
    record {
      judged = now.judged;
      on = λ more all. now.on more (row ∷ all.0, (some, behind, is, all.1), ap (λ b. cond (not b) (row ∷ filter (λ r. not (is_note r.name)) all.0) (filter (λ r. not (is_note r.name)) all.0)) note ∙ all.2);
      shown = now.shown;
      told = now.told;
      rows_are = now.rows_are;
      wrong_are = now.wrong_are;
      few = omega (arith, now.few, shorter);
      fewer = now.fewer;
    }

counted : (judged : List Judged) (row : RowText) (right : Bool) → wrong_count (judged ++ (row, right) ∷ []) ≡ wrong_count judged + cond right 0 1
counted judged row true =
    ap length (filter-append (λ j. not j.1) judged ((row, true) ∷ []) ∙ append-nil (filter (λ j. not j.1) judged)) ∙ omega arith
counted judged row false =
    ap length (filter-append (λ j. not j.1) judged ((row, false) ∷ [])) ∙ length-append (filter (λ j. not j.1) judged) ((row, false) ∷ [])

-- a row more was judged
pub row_judged : (text rest behind report new : List ℕ) (rows wrong more_rows more_wrong : ℕ) (row : RowText) (right : Bool) → SoFar text rest report rows wrong → rest ≢ [] → IsRow rest row behind
    → length behind < length rest → is_note row.name ≡ false → IsJudged (row, right) → more_rows ≡ rows + 1 → more_wrong ≡ wrong + cond right 0 1 → new ≡ report ++ told_of (row, right)
    → SoFar text behind new more_rows more_wrong
row_judged text rest behind report new rows wrong more_rows more_wrong row right now some is shorter no_note shows counts_row counts_wrong tells =
    record {
      judged = now.judged ++ (row, right) ∷ [];
      on = λ more all. subst (AreJudged text) (sym (append_assoc now.judged ((row, right) ∷ []) more))
          (now.on ((row, right) ∷ more) (
            row ∷ all.0,
            (some, behind, is, all.1),
            ap (λ b. cond (not b) (row ∷ filter (λ r. not (is_note r.name)) all.0) (filter (λ r. not (is_note r.name)) all.0)) no_note ∙ ap (λ rs. row ∷ rs) all.2,
          ));
      shown = All-push IsJudged now.judged (row, right) now.shown shows;
      told = tells ∙ ap (λ t. t ++ told_of (row, right)) now.told ∙ ap (λ t. flat_map told_of now.judged ++ t) (sym (append-nil (told_of (row, right)))) ∙ sym (flat_map-append told_of now.judged ((row, right) ∷ []));
      rows_are = counts_row ∙ ap (λ n. n + 1) now.rows_are ∙ sym (length-append now.judged ((row, right) ∷ []));
      wrong_are = counts_wrong ∙ ap (λ n. n + cond right 0 1) now.wrong_are ∙ sym (counted now.judged row right);
      few = omega (arith, now.few, shorter, counts_row);
      fewer = at_most right counts_wrong;
    }
  where
    at_most : (b : Bool) → more_wrong ≡ wrong + cond b 0 1 → more_wrong ≤ more_rows
    at_most true is = omega (arith, is, counts_row, now.fewer)
    at_most false is = omega (arith, is, counts_row, now.fewer)

-- all were
pub all_judged : (text rest report new : List ℕ) (rows wrong : ℕ) (green : Bool) → SoFar text rest report rows wrong → rest ≡ [] → new ≡ report ++ total rows wrong
    → green ≡ (nat_eq wrong 0 && nat_lt 0 rows) → IsReport text new green
all_judged text rest report new rows wrong green now none tells is =
    record {
      judged = now.judged;
      are_judged = subst (AreJudged text) (append-nil now.judged) (now.on [] ([], none, refl));
      shown = now.shown;
      told = tells ∙ ap (λ t. t ++ total rows wrong) now.told ∙ ap (λ n. flat_map told_of now.judged ++ total n wrong) now.rows_are
          ∙ ap (λ n. flat_map told_of now.judged ++ total (length now.judged) n) now.wrong_are;
      green_is = is ∙ ap (λ n. nat_eq n 0 && nat_lt 0 rows) now.wrong_are ∙ ap (λ n. nat_eq (wrong_count now.judged) 0 && nat_lt 0 n) now.rows_are;
    }
