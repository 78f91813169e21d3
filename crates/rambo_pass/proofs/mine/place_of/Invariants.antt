use Rattle.std.proofs.Common.{take}
use Rattle.rambo_pass.specs.Passes.{IsNone}
use Rattle.rambo_pass.proofs.mine.place_of.Given as goal

abbrev pub invariant-loop-at : goal.invariant-loop-at
invariant-loop-at l = IsNone (take l.at l.entries) l.id
