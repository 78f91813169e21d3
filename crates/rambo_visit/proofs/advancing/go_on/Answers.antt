use Rattle.rambo_visit.proofs.advancing.go_on.Goals as goal

pub advance_all-requires : goal.advance_all-requires
advance_all-requires g c = c.requires-raw.1.1.1.1

pub advance_configurations-requires : goal.advance_configurations-requires
advance_configurations-requires g c = c.requires-raw.1.1.1.1
