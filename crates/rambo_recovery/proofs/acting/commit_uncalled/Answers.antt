use Rattle.rambo_book.specs.Kept.{state}
use Rattle.rambo_recovery.proofs.Owning.{served}
use Rattle.rambo_recovery.proofs.acting.commit_uncalled.Goals as goal

pub commit-requires : goal.commit-requires
commit-requires g c = (c.requires-raw.1.1.1.0, λ there. served (state g.Q.Quorums.system c.args.book.now) c.args.step c.args.keeper.now.name c.requires.own)
