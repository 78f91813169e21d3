use Rattle.std.proofs.Common.{◌<◌, length}
use Rattle.rambo_rows.proofs.RowLines.{GoesOn}
use Rattle.rambo_rows.proofs.row.read_row.Given as goal

abbrev pub invariant-loop-rest : goal.invariant-loop-rest
invariant-loop-rest l =
    (length l.rest < length l.text)
    × GoesOn l.text (record { name = l.row.name.now; word = l.row.word.now; input = l.row.input.items; output = l.row.output.items; ending = l.row.ending.now }) l.rest

abbrev pub decreases-loop-rest : goal.decreases-loop-rest
decreases-loop-rest l = length l.rest
