use Rattle.rambo_run.proofs.MarkClaims.{marks_differ, gives_no_other}
use Rattle.rambo_run.proofs.laws.marks_differ.Goals as goal

pub returns : goal.returns
returns g c = record {
  differ = marks_differ g.Q.Quorums.system g.met.Q.Quorums.sound;
  alone = λ founders steps. gives_no_other g.Q.Quorums.system g.met.Q.Quorums.sound founders steps c.one_sequence.ensures c.one_store_order.ensures;
}
