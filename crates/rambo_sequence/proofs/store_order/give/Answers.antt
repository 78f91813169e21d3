use Rattle.std.proofs.Common.{◌≡◌, ◌-◌, [], length, drop, get_or, slice_set, ◌∙◌, ap}
use Rattle.rambo_sequence.specs.CallPlaces.{lists}
use Rattle.rambo_sequence.proofs.NotedCalls.{lists-set, lists-get}
use Rattle.rambo_sequence.proofs.store_order.give.Goals as goal

pub returns-clause-left : goal.returns-clause-left
returns-clause-left c =
    let ls = c.args.left.now.items in
    let n = c.args.place.sequence in
    let calls : c.index-calls.result.now.now ≡ get_or (lists ls) n [] = lists-get ls n c.index-calls.result.now c.requires c.index-calls.ensures in
    let count : c.saturating_sub.result ≡ length (get_or (lists ls) n []) - c.args.place.behind = c.saturating_sub.ensures ∙ ap (λ l. length l - c.args.place.behind) calls in
    lists-set ls n c.split_at.result.1 ∙ ap (slice_set (lists ls) n) (c.split_at.ensures.back ∙ (λ i. drop (count i) (calls i)))
