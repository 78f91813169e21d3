use Rattle.std.proofs.Common.{◌∷◌, [], refl, sym}
use Rattle.rambo_text.specs.Forms.{Call}
use Rattle.rambo_check.proofs.Counts.{too_many}
use Rattle.rambo_check.proofs.operands.read_call_alone.Goals as goal

pub returns-then-is_some-clause-fault : goal.returns-then-is_some-clause-fault
returns-then-is_some-clause-fault c = too_many (Call ∷ []) c.args.id.now c.args.more refl (sym c.if-is_some.ensures)
