use Rattle.std.proofs.Common.{arith}
use Rattle.rambo_bids.proofs.judging.may_wish.Goals as goal
use Rattle.rambo_bids.proofs.judging.may_wish.Goals.{then-round-eq18446744073709551615-via-then-round-eq18446744073709551615, then-round-eq18446744073709551615-via-else-round-eq18446744073709551615+then-top-eq18446744073709551615}

pub returns-then-round-eq18446744073709551615-clause-refused : goal.returns-then-round-eq18446744073709551615-clause-refused
returns-then-round-eq18446744073709551615-clause-refused g c = elim c.then-round-eq18446744073709551615.branch [
  | then-round-eq18446744073709551615-via-then-round-eq18446744073709551615 w ↦ search arith
  | then-round-eq18446744073709551615-via-else-round-eq18446744073709551615+then-top-eq18446744073709551615 w ↦ search arith
]
