use Rattle.std.proofs.Common.{◌≡◌, ◌∙◌, ◌++◌, ◌∷◌, [], replicate, ap, arith}
use Rattle.std.proofs.lemmas.List.{map-append, replicate_more}
use Rattle.rambo_logs.specs.NodeLogs.{settled}
use Rattle.rambo_logs.specs.Stored.{entries_of}
use Rattle.rambo_logs.proofs.Storing.{stored_first, seen_first}
use Rattle.rambo_logs.proofs.logs.Logs.new.Goals.{After-new-5}
use Rattle.rambo_logs.proofs.logs.Logs.new.Goals as goal

pub loop-node-preserved : goal.loop-node-preserved
loop-node-preserved c =
    ap entries_of c.in_ok-push.ensures.items
    ∙ map-append (λ v. v.items) c.loop-node.logs.items (c.new.result ∷ [])
    ∙ (λ i. c.loop-node.invariant i ++ c.new.ensures.items i ∷ [])
    ∙ replicate_more c.loop-node._node []

all_empty : (c : After-new-5) → entries_of c.loop-node.logs.items ≡ replicate 64 []
all_empty c =
    let all : c.loop-node._node ≡ 64 = omega (arith, c.loop-node-test.false, c.loop-node.auto._node-end) in
    c.loop-node.invariant ∙ ap (λ n. replicate n []) all

pub invariant_of-result : goal.invariant_of-result
invariant_of-result c = record {
  stored = stored_first c.new-2.result.items c.new-3.result c.new-4.result.items (entries_of c.loop-node.logs.items) c.new-2.ensures.items c.new-3.ensures c.new-4.ensures.items (all_empty c);
  ready = tt;
}

pub returns-clause-empty : goal.returns-clause-empty
returns-clause-empty c = ap settled (seen_first c.new-2.result.items (entries_of c.loop-node.logs.items) (all_empty c))
