use Rattle.rambo_retrace.proofs.WholeLines.{same_whole}
use Rattle.rambo_retrace.proofs.lines.whole_line.Goals as goal

pub returns-clause-found : goal.returns-clause-found
returns-clause-found c =
    let found = c.in_ok-used.ensures.found in
    let own = same_whole _ _ _ _ _ _ c.next_line.ensures found.1 found.2 in
    (c.next_line.result.1.now, own.0, own.1)
