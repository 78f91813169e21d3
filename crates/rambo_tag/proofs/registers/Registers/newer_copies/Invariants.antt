use Rattle.rambo_tag.proofs.MergeSteps.{IsNewerOf}
use Rattle.rambo_tag.proofs.registers.Registers.newer_copies.Given as goal

abbrev pub invariant-loop-copy : goal.invariant-loop-copy
invariant-loop-copy g l = IsNewerOf l.self.copies l.copy-items l.copy-index l.copies.items
