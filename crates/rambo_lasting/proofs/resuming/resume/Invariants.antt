use Rattle.rambo_lasting.proofs.resuming.resume.Given as goal

abbrev pub ghosts-resume_held : goal.ghosts-resume_held
ghosts-resume_held g a = record { held = g.F.Sink.taken a.file }
