use Rattle.rambo_gc.specs.CollectionLaws.{second_stage, collection_over}
use Rattle.rambo_gc.proofs.laws.collecting_laws.Goals as goal

pub returns : goal.returns
returns g c = record { second = second_stage g.Q.Quorums.system; done = collection_over g.Q.Quorums.system }
