use Rattle.std.proofs.Common.{is_none, sym, ap, ◌∙◌}
use Rattle.std.proofs.lemmas.Bool.{true≢false}
use Rattle.rambo_node.proofs.Judged.{turn_open}
use Rattle.rambo_node.proofs.node.Node.do_advance_collect.Goals as goal

pub turn_collection-requires : goal.turn_collection-requires
turn_collection-requires g c = (c.requires-raw.1.1.0, (sym (ap (λ v. v.state.collection) c.self.view_is) ∙ c.in-Some.is, c.requires))

pub unreachable-requires : goal.unreachable-requires
unreachable-requires g c =
    absurd (true≢false (sym (ap is_none (sym (ap (λ v. v.state.collection) c.self.view_is) ∙ c.in-None.is)) ∙ turn_open c.args.self.now.state g.Q.Quorums.system c.requires))
