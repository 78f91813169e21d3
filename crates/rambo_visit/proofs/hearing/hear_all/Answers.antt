use Rattle.rambo_visit.proofs.hearing.hear_all.Goals as goal

pub tray-requires : goal.tray-requires
tray-requires g c = c.requires-raw.1.1.1.1

pub hear_one-requires : goal.hear_one-requires
hear_one-requires g c = c.requires-raw.1.1.1.1
