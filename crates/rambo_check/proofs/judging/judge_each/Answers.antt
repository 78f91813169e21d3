use Rattle.std.proofs.Common.{◌||◌, map, is_some, ap, ◌∙◌, subst, sym, IfSome}
use Rattle.std.specs.List.{list_any}
use Rattle.std.specs.Map.{lookup}
use Rattle.std.specs.Str.{bytes_eq}
use Rattle.rambo_atomic.specs.Verdicts.{IsVerdict}
use Rattle.rambo_check.specs.Judgings.{is_judged, is_call_of}
use Rattle.rambo_check.specs.Verdicts.{order_of}
use Rattle.rambo_check.proofs.Judged.{keys_on, events_on, all_taken, verdict_on}
use Rattle.rambo_check.proofs.judging.judge_each.Goals as goal

pub loop-key-preserved : goal.loop-key-preserved
loop-key-preserved c = record {
  right = c.in_ok-judge_key.ensures.right;
  judged = λ q.
      keys_on (λ k. bytes_eq k q) c.keys-key-items.result.now (map (λ o. o.0) c.args.evidence.now.orders) c.loop-key.key-index c.key-item.result (is_judged c.loop-key.verdicts.entries q)
      (is_judged c.judge_key.new.verdicts.entries q) c.keys-key-items.ensures c.loop-key-test.true c.key-item.is (c.in_ok-judge_key.ensures.judged q) (c.loop-key.invariant.judged q);
}

pub loop-event-init : goal.loop-event-init
loop-event-init c = record {
  right = c.loop-key.invariant.right;
  judged = λ q.
      c.loop-key.invariant.judged q
      ∙ all_taken (λ k. bytes_eq k q) c.keys-key-items.result.now (map (λ o. o.0) c.args.evidence.now.orders) c.loop-key.key-index c.keys-key-items.ensures c.loop-key-test.false;
}

pub loop-event-preserved : goal.loop-event-preserved
loop-event-preserved c = record {
  right = c.in_ok-judge_called.ensures.right;
  judged = λ q.
      events_on (is_call_of q) (list_any (λ k. bytes_eq k q) (map (λ o. o.0) c.args.evidence.now.orders)) c.events-event-items.result.now c.args.evidence.now.events c.loop-event.event-index
      c.event-item.result (is_judged c.loop-event.verdicts.entries q) (is_judged c.judge_called.new.verdicts.entries q) (c.events-event-items.ensures.events ∙ c.history.ensures) c.loop-event-test.true c.event-item.is
      (c.in_ok-judge_called.ensures.judged q) (c.loop-event.invariant.judged q);
}

pub returns-clause-verdicts : goal.returns-clause-verdicts
returns-clause-verdicts c =
    let s = c.args.evidence.now in
    record {
      in_order = c.in_ok-sort_keys.ensures.sorted;
      each_once = c.in_ok-sort_keys.ensures.unique;
      verdict = λ q.
          verdict_on s q (lookup (bytes_eq q) c.sort_keys.new.self.entries)
          (subst (λ o. IfSome o (IsVerdict s.events q (order_of s q))) (sym (c.in_ok-sort_keys.ensures.reordered.2 q)) (c.loop-event.invariant.right q))
          (ap is_some (c.in_ok-sort_keys.ensures.reordered.2 q) ∙ c.loop-event.invariant.judged q
          ∙ ap (λ b. b || list_any (λ k. bytes_eq k q) (map (λ o. o.0) s.orders)) (all_taken (is_call_of q) c.events-event-items.result.now s.events c.loop-event.event-index (c.events-event-items.ensures.events ∙ c.history.ensures) c.loop-event-test.false));
    }
