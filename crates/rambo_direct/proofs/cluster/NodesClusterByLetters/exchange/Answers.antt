use Rattle.std.proofs.Common.{[], ◌∙◌, append-nil, subst}
use Rattle.rambo_client.specs.Courses.{Ends, exchanged, history_of, lettered}
use Rattle.rambo_client.proofs.Beginnings.{begins-lettered, ends_early}
use Rattle.rambo_direct.specs.Taken.{took_by}
use Rattle.rambo_direct.proofs.cluster.NodesClusterByLetters.exchange.Goals as goal

pub returns-in_err-pass : goal.returns-in_err-pass
returns-in_err-pass c = λ k took.
    let half = lettered k c.args.name c.args.peer in
    ends_early c.from_residual.result _ (took_by c.pass.new.direct) half (lettered half c.args.peer c.args.name) (history_of k) (λ done. []) c.from_residual.ensures.1
    (c.in_err-pass.ensures k took) (begins-lettered half c.args.peer c.args.name)

pub returns : goal.returns
returns c = λ k took.
    let half = c.in_ok-pass.ensures k took in
    subst (λ h. Ends c.pass-2.result (took_by c.pass-2.new.direct) (exchanged c.args.name k c.args.peer) h (λ done. [])) (half.1 ∙ append-nil (history_of k))
    (c.pass-2.ensures (lettered k c.args.name c.args.peer) half.0)
