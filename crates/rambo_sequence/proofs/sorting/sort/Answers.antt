use Rattle.std.proofs.Common.{subst, rules}
use Rattle.std.proofs.lemmas.Result.{on_ok_weaker}
use Rattle.std.proofs.lemmas.List.Sorted.{answers_always}
use Rattle.std.specs.List.Sorted.{IsStableBy}
use Rattle.rambo_sequence.specs.declared.ranking.RankedCall.{RankedCall}
use Rattle.rambo_sequence.specs.RankedCalls.{is_before}
use Rattle.rambo_sequence.proofs.RankedLists.{sorted_calls-from_sort}
use Rattle.rambo_sequence.proofs.sorting.sort.Goals as goal

pub returns : goal.returns
returns c =
    let stable = c.sort_by_key.ensures.stable (λ (x : RankedCall). x.sort_key) (answers_always _ _ _ (λ f a r f' q. search rules)) in
    let along = subst (λ l. IsStableBy is_before l c.sort_by_key.new.self.items) c.reverse.ensures.items stable in
    on_ok_weaker c.sort_by_key.result (λ sorted.
    sorted_calls-from_sort c.args.calls.now.items c.sort_by_key.new.self.items (sorted (λ (x : RankedCall). x.sort_key) (answers_always _ _ _ (λ f a r f' q. search rules))) along)
    c.sort_by_key.ensures.sorted
