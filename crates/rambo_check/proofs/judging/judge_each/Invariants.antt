use Rattle.std.proofs.Common.{◌≡◌, ◌||◌, ℕ, List, map, take}
use Rattle.std.specs.List.{list_any}
use Rattle.std.specs.Str.{bytes_eq}
use Rattle.rambo_check.specs.Judgings.{AreRight, is_judged, is_call_of}
use Rattle.rambo_check.proofs.judging.judge_each.Given as goal

abbrev pub invariant-loop-key : goal.invariant-loop-key
invariant-loop-key l = record {
  right : AreRight l.evidence l.verdicts.entries;
  judged : (q : List ℕ) → is_judged l.verdicts.entries q ≡ list_any (λ k. bytes_eq k q) (take l.key-index (map (λ o. o.0) l.evidence.orders));
}

abbrev pub invariant-loop-event : goal.invariant-loop-event
invariant-loop-event l = record {
  right : AreRight l.evidence l.verdicts.entries;
  judged : (q : List ℕ) → is_judged l.verdicts.entries q
      ≡ (list_any (is_call_of q) (take l.event-index l.evidence.events) || list_any (λ k. bytes_eq k q) (map (λ o. o.0) l.evidence.orders));
}
