use Rattle.rambo_visit.proofs.Visits.{out_of_memory}
use Rattle.rambo_visit.proofs.visit.take_steps.Goals as goal

pub returns-then-has_stopped : goal.returns-then-has_stopped
returns-then-has_stopped g c = record { cause = out_of_memory g.Q.Quorums.system g.J.Terms.founders g.J.Terms.capacity c.give_all.result c.give_all.ensures.refused }

pub opened-requires : goal.opened-requires
opened-requires g c = c.requires-raw.1.1.1.1

pub bid_again-requires : goal.bid_again-requires
bid_again-requires g c = c.requires-raw.1.1.1.1

pub opened-requires-2 : goal.opened-requires-2
opened-requires-2 g c = c.requires-raw.1.1.1.1

pub write_all-requires : goal.write_all-requires
write_all-requires g c = c.requires-raw.1.1.1.1

pub unload-requires : goal.unload-requires
unload-requires g c = c.requires-raw.1.1.1.1
