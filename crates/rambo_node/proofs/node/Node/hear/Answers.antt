use Rattle.std.proofs.Common.{◌≡◌, Some}
use Rattle.rambo_names.proofs.Errors.{err_kept}
use Rattle.rambo_node.specs.Acts as act
use Rattle.rambo_node.specs.Changes.{refusal_of}
use Rattle.rambo_node.proofs.node.Node.hear.Goals as goal

pub returns-in_err-hearing-clause-join : goal.returns-in_err-hearing-clause-join
returns-in_err-hearing-clause-join g c = λ is.
    err_kept c.from_residual.result (λ r. refusal_of g.Q.Quorums.system c.args.self.now.state (act.Hear c.args.letter.now) ≡ Some r) _ c.from_residual.ensures.1 (c.in_err-hearing.ensures.join is)
