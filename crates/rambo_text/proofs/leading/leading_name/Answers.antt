use Rattle.std.proofs.Common.{subst, arith}
use Rattle.rambo_names.specs.Names.{IsName}
use Rattle.rambo_text.proofs.Fronts.{same_num}
use Rattle.rambo_text.proofs.leading.leading_name.Goals as goal

pub returns-in-Err-clause-none : goal.returns-in-Err-clause-none
returns-in-Err-clause-none c n rest name begins =
    let found = c.in_ok-number.ensures.found in
    let same = (same_num c.args.line.now n c.in_ok-number.number rest c.in_ok-number.rest.now (omega arith) found.0 begins found.1).0 in
    c.in-Err.ensures.refused.1 (subst IsName same name)
