use Rattle.std.proofs.Common.{◌≡◌, take}
use Rattle.std.specs.List.{list_any}
use Rattle.rambo_history.specs.declared.event.CallId.{CallId}
use Rattle.rambo_history.specs.Calls.{same_call}
use Rattle.rambo_atomic.specs.Tests.{stands_in}
use Rattle.rambo_witness.proofs.missing.standing.Given as goal

abbrev pub invariant-loop-id : goal.invariant-loop-id
invariant-loop-id l = (c : CallId) → list_any (same_call c) l.standing.keys ≡ stands_in (take l.id-index l.order) c
