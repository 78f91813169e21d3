use Rattle.rambo_pass.proofs.answer.has_stopped.Goals as goal

pub agree-requires : goal.agree-requires
agree-requires g c = c.requires-raw.1.1.1

pub has_stopped-requires : goal.has_stopped-requires
has_stopped-requires g c = c.requires-raw.1.1.1
