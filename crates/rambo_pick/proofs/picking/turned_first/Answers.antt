use Rattle.rambo_pick.proofs.picking.turned_first.Goals as goal

pub refused-requires : goal.refused-requires
refused-requires g c = c.requires-raw.1.1

pub refused-requires-2 : goal.refused-requires-2
refused-requires-2 g c = c.requires-raw.1.1

pub name-requires : goal.name-requires
name-requires g c = c.requires-raw.1.1

pub name-requires-then-is_none-2 : goal.name-requires-then-is_none-2
name-requires-then-is_none-2 g c = c.requires-raw.1.1
