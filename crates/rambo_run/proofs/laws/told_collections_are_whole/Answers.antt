use Rattle.rambo_run.proofs.ToldCollections.{told_collections_are_whole}
use Rattle.rambo_run.proofs.laws.told_collections_are_whole.Goals as goal

pub returns : goal.returns
returns g c = record { whole = told_collections_are_whole g.Q.Quorums.system }
