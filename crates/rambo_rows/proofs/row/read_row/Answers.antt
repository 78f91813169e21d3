use Rattle.std.proofs.Common.{arith}
use Rattle.std.proofs.lemmas.Bool.Decides.{nat_tests}
use Rattle.rambo_rows.proofs.Shorter.{shorter}
use Rattle.rambo_rows.proofs.RowLines.{no_bytes, ends, ends_at_empty_line, goes_on}
use Rattle.rambo_rows.proofs.row.read_row.Goals as goal

pub returns-then-is_empty-clause-row : goal.returns-then-is_empty-clause-row
returns-then-is_empty-clause-row c =
    ends_at_empty_line _ _ _ _ _ c.loop-rest.invariant.1 (grind (arith, nat_tests)) c.next_line-in-loop-rest.ensures (no_bytes _ (grind (arith, nat_tests)))

pub loop-rest-preserved : goal.loop-rest-preserved
loop-rest-preserved c = (
  omega (arith, shorter _ _ _ (grind (arith, nat_tests)) c.next_line-in-loop-rest.ensures, c.loop-rest.invariant.0),
  goes_on _ _ _ _ _ _ c.loop-rest.invariant.1 c.next_line-in-loop-rest.ensures (grind (arith, nat_tests)) c.in_ok-take_line.ensures,
)

pub returns-clause-row : goal.returns-clause-row
returns-clause-row c = ends _ _ _ c.loop-rest.invariant.1 (no_bytes _ (grind (arith, nat_tests)))
