use Rattle.std.proofs.Common.{subst}
use Rattle.rambo_text.proofs.WordsThere.{different}
use Rattle.rambo_retrace.specs.Retraces.{TellsNoHead}
use Rattle.rambo_retrace.proofs.WholeLines.{other_no_head}
use Rattle.rambo_retrace.proofs.founders.forget_head.Goals as goal

pub returns-then-ne-clause-fault : goal.returns-then-ne-clause-fault
returns-then-ne-clause-fault c =
    let found = c.in-Some.ensures.found in
    (c.no_founders-then-ne.ensures, subst TellsNoHead c.as_slice-held.ensures.held (other_no_head _ _ _ found.1 (different _ _ _ c.as_slice.ensures c.if-ne.ensures)))
