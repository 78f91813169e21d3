use Rattle.std.proofs.Common.{arith, ◌∙◌, sym, ap, ◌&&◌, nat_eq, nat_lt}
use Rattle.std.proofs.lemmas.Bool.Decides.{nat_tests}
use Rattle.rambo_rows.proofs.RowLines.{no_bytes, some_bytes}
use Rattle.rambo_rows.proofs.SoFar.{note_passed, row_judged, all_judged}
use Rattle.rambo_rows.proofs.rows.judged.Goals as goal

pub loop-rest-preserved-in-Continue-branch-3 : goal.loop-rest-preserved-in-Continue-branch-3
loop-rest-preserved-in-Continue-branch-3 c =
    row_judged _ _ _ _ _ _ _ _ _ (record { name = c.in_ok-row.row.name.now; word = c.in_ok-row.row.word.now; input = c.in_ok-row.row.input.items; output = c.in_ok-row.row.output.items; ending = c.in_ok-row.row.ending.now })
    c.in_ok-right.right c.loop-rest.invariant (some_bytes _ (grind (arith, nat_tests))) c.in_ok-row.ensures.row c.in_ok-row.ensures.shorter (sym c.if-not-is_note.ensures) c.in_ok-right.ensures
    c.in_ok-add.ensures.rows c.in_ok-add.ensures.wrong c.in_ok-add.ensures.report

pub loop-rest-preserved : goal.loop-rest-preserved
loop-rest-preserved c =
    note_passed _ _ _ _ _ _ (record { name = c.in_ok-row.row.name.now; word = c.in_ok-row.row.word.now; input = c.in_ok-row.row.input.items; output = c.in_ok-row.row.output.items; ending = c.in_ok-row.row.ending.now })
    c.loop-rest.invariant (some_bytes _ (grind (arith, nat_tests))) c.in_ok-row.ensures.row c.in_ok-row.ensures.shorter (sym c.if-not-is_note.ensures)

pub returns : goal.returns
returns c =
    all_judged _ _ _ _ _ _ _ c.loop-rest.invariant (no_bytes _ (grind (arith, nat_tests))) c.in_ok-tell_total.ensures.report
    (c.is_green-green.ensures ∙ ap (λ n. nat_eq n 0 && nat_lt 0 c.tell_total.new.self.rows) c.in_ok-tell_total.ensures.counts.1
    ∙ ap (λ n. nat_eq c.loop-rest.tally.wrong 0 && nat_lt 0 n) c.in_ok-tell_total.ensures.counts.0)
