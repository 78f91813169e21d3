use Rattle.std.proofs.Common.{sym, ap, ◌∙◌}
use Rattle.rambo_node.specs.Acts.{Meant}
use Rattle.rambo_run.proofs.Lists.{some_inj}
use Rattle.rambo_visit.proofs.Happenings.{no_room}
use Rattle.rambo_visit.proofs.writing.write.Goals as goal

pub ready-half-requires : goal.ready-half-requires
ready-half-requires g c = (c.requires-raw.1.1.1.1, (λ f e m is. sym (ap (λ (m : Meant _). m.name) (some_inj _ m is)) ∙ c.name-from.ensures, λ number e. absurd cc))

pub returns-in-Err-OutOfMemory : goal.returns-in-Err-OutOfMemory
returns-in-Err-OutOfMemory g c =
    let told = c.no_room.ensures in
    record { cause = no_room g.Q.Quorums.system g.J.Terms.founders g.J.Terms.capacity c.deref-in-Err-OutOfMemory.result.now told.founders told.capacity told.legal c.no_room.result told.told }
