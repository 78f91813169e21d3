use Rattle.rambo_visit.proofs.writing.write_all.Goals as goal

pub write-requires : goal.write-requires
write-requires g c = c.requires-raw.1.1.1.1
