use Rattle.std.proofs.Common.{is_none, sym, ap, ◌∙◌}
use Rattle.std.proofs.lemmas.Bool.{true≢false}
use Rattle.rambo_node.proofs.Judged.{bid_next}
use Rattle.rambo_node.proofs.node.Node.do_advance_recon.Goals as goal

pub turn_attempt-requires : goal.turn_attempt-requires
turn_attempt-requires g c = (c.requires-raw.1.1.0, (sym (ap (λ v. v.state.attempt) c.self.view_is) ∙ c.in-Some.is, c.requires))

pub unreachable-requires : goal.unreachable-requires
unreachable-requires g c =
    absurd (true≢false (sym (ap is_none (sym (ap (λ v. v.state.attempt) c.self.view_is) ∙ c.in-None.is)) ∙ (bid_next c.args.self.now.state g.Q.Quorums.system c.requires).1))
