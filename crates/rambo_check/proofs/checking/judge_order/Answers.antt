use Rattle.rambo_check.proofs.Judged.{on_history, on_all_keys}
use Rattle.rambo_check.proofs.checking.judge_order.Goals as goal

pub returns-in_ok-judge_all-in-Two : goal.returns-in_ok-judge_all-in-Two
returns-in_ok-judge_all-in-Two c = record {
  judged = on_all_keys c.args.version c.args.evidence.now c.in_ok-judge_all-in-Two.field-0 c.in-Two.is (on_history _ _ _ _ _ c.requires c.store_order.ensures c.in_ok-judge_all-in-Two.ensures.verdict);
}
