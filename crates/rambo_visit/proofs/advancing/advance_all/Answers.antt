use Rattle.rambo_visit.proofs.advancing.advance_all.Goals as goal

pub number_at-requires : goal.number_at-requires
number_at-requires g c = c.requires-raw.1.1.1.1

pub advance-requires : goal.advance-requires
advance-requires g c = c.requires-raw.1.1.1.1
