use Rattle.rambo_bids.proofs.Merged.{level_if}
use Rattle.rambo_bids.proofs.hearing.is_level.Goals as goal

pub returns-clause-level : goal.returns-clause-level
returns-clause-level g c = level_if c.args.map.now c.args.told.now c.top_of.result c.top_of-2.result c.top_of.ensures.next c.top_of-2.ensures.next c.top_of.ensures.active c.top_of-2.ensures.active
