use Rattle.rambo_run.proofs.Growing.{copies_are_kept}
use Rattle.rambo_run.proofs.Legal.{runs_go_on, others_stay, beginnings_hold}
use Rattle.rambo_run.proofs.laws.runs_go_on.Goals as goal

pub returns : goal.returns
returns g c = record {
  more = runs_go_on g.Q.Quorums.system;
  others = others_stay _;
  beginnings = beginnings_hold g.Q.Quorums.system;
  kept = copies_are_kept g.Q.Quorums.system;
}
