use Rattle.std.proofs.Common.{take}
use Rattle.rambo_history.specs.Proper.{AnswersLatest}
use Rattle.rambo_witness.specs.LatestSets.{HasLatest}
use Rattle.rambo_witness.proofs.wrong_answer.first_wrong_answer.Given as goal

abbrev pub invariant-loop-id : goal.invariant-loop-id
invariant-loop-id l =
    HasLatest l.history.events (take l.id-index l.order) l.latest.entries × AnswersLatest l.history.events (take l.id-index l.order)
