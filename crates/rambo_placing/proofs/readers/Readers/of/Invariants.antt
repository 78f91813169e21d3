use Rattle.std.proofs.Common.{◌≡◌, ℕ, List, Option, filter, take}
use Rattle.rambo_history.specs.Histories.{answer_in}
use Rattle.rambo_atomic.specs.Tests.{tells}
use Rattle.rambo_placing.specs.Tables.{told_at}
use Rattle.rambo_placing.proofs.readers.Readers.of.Given as goal

abbrev pub invariant-loop-id : goal.invariant-loop-id
invariant-loop-id l = (held : Option (List ℕ)) → told_at l.readers held ≡ filter (λ c. tells held (answer_in l.history.events c)) (take l.id-index l.gets)
