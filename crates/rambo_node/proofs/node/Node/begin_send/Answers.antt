use Rattle.std.proofs.Common.{◌≡◌, subst}
use Rattle.rambo_names.specs.Names.{IsName}
use Rattle.rambo_names.specs.Refusals.{IsRefusal}
use Rattle.rambo_names.proofs.Errors.{err_kept, err_if_ok, err_ok}
use Rattle.rambo_gossip.proofs.Fitting.{standing_fits}
use Rattle.rambo_node.specs.Acts as act
use Rattle.rambo_node.specs.Changes.{refusal_of}
use Rattle.rambo_node.proofs.FirstHalves.{lacks, send_ready}
use Rattle.rambo_node.proofs.node.Node.begin_send.Goals as goal

pub may_send-requires : goal.may_send-requires
may_send-requires g c = assumption

pub pack_for-requires : goal.pack_for-requires
pack_for-requires g c = assumption

pub outline_for-outline-requires : goal.outline_for-outline-requires
outline_for-outline-requires g c = assumption

pub new-requires : goal.new-requires
new-requires g c = standing_fits 0 g.row.Q g.Q.Quorums g.Q.PartialEq g.met.Q.Quorums.small

pub returns-clause-judged : goal.returns-clause-judged
returns-clause-judged g c = c.in_ok-may_send.ensures.ok

pub returns-clause-ready : goal.returns-clause-ready
returns-clause-ready g c =
    send_ready g.Q.Quorums.system c.args.self.now c.args.to c.in_ok-letter.letter _ c.in_ok-copies.copies (subst IsName c.number-number.ensures.value c.number-number.ensures.range) c.in_ok-may_send.ensures.ok c.in_ok-letter.ensures.same c.outline_for-outline.ensures c.in_ok-copies.ensures.since

pub returns-in_err-copies-clause-judged : goal.returns-in_err-copies-clause-judged
returns-in_err-copies-clause-judged g c = err_ok c.from_residual-in_err-copies.result _ _ c.from_residual-in_err-copies.ensures.1

pub returns-in_err-copies-clause-ready : goal.returns-in_err-copies-clause-ready
returns-in_err-copies-clause-ready g c = err_if_ok c.from_residual-in_err-copies.result _ _ c.from_residual-in_err-copies.ensures.1

pub returns-in_err-copies-clause-refused : goal.returns-in_err-copies-clause-refused
returns-in_err-copies-clause-refused g c =
    err_kept c.from_residual-in_err-copies.result (IsRefusal (refusal_of g.Q.Quorums.system c.args.self.now.state (act.Send c.args.to))) _ c.from_residual-in_err-copies.ensures.1
    (lacks c.in_ok-may_send.ensures.ok c.in_err-copies.ensures.refused)

pub returns-in_err-letter-clause-judged : goal.returns-in_err-letter-clause-judged
returns-in_err-letter-clause-judged g c = err_ok c.from_residual-in_err-letter.result _ _ c.from_residual-in_err-letter.ensures.1

pub returns-in_err-letter-clause-ready : goal.returns-in_err-letter-clause-ready
returns-in_err-letter-clause-ready g c = err_if_ok c.from_residual-in_err-letter.result _ _ c.from_residual-in_err-letter.ensures.1

pub returns-in_err-letter-clause-refused : goal.returns-in_err-letter-clause-refused
returns-in_err-letter-clause-refused g c =
    err_kept c.from_residual-in_err-letter.result (IsRefusal (refusal_of g.Q.Quorums.system c.args.self.now.state (act.Send c.args.to))) _ c.from_residual-in_err-letter.ensures.1
    (lacks c.in_ok-may_send.ensures.ok c.in_err-letter.ensures.refused)
