use Rattle.std.proofs.Common.{[], ◌∙◌, append-nil, subst}
use Rattle.rambo_client.specs.Courses.{Ends, exchanged, history_of, lettered}
use Rattle.rambo_client.proofs.Beginnings.{begins-lettered, ends_early}
use Rattle.rambo_local.specs.Clusters.{took_by}
use Rattle.rambo_local.proofs.cluster.HostClusterByLetters.exchange.Goals as goal

pub returns-in_err-send : goal.returns-in_err-send
returns-in_err-send c = λ k took.
    let half = lettered k c.args.name c.args.peer in
    ends_early c.from_residual.result _ (took_by c.send.new.world) half (lettered half c.args.peer c.args.name) (history_of k) (λ done. []) c.from_residual.ensures.1
    (c.in_err-send.ensures k took) (begins-lettered half c.args.peer c.args.name)

pub returns : goal.returns
returns c = λ k took.
    let half = c.in_ok-send.ensures k took in
    subst (λ h. Ends c.send-2.result (took_by c.send-2.new.world) (exchanged c.args.name k c.args.peer) h (λ done. [])) (half.1 ∙ append-nil (history_of k))
    (c.send-2.ensures (lettered k c.args.name c.args.peer) half.0)
