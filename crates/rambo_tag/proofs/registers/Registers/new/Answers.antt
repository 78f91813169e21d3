use Rattle.rambo_tag.proofs.Slots.{copies_of-nil, stamps_of-nil}
use Rattle.rambo_tag.proofs.registers.Registers.new.Goals as goal

pub returns-clause-copies : goal.returns-clause-copies
returns-clause-copies g c = copies_of-nil _ c.with_hasher.ensures.empty

pub returns-clause-stamps : goal.returns-clause-stamps
returns-clause-stamps g c = stamps_of-nil _ c.with_hasher.ensures.empty
