use Rattle.std.proofs.Common.{◌≡◌, ◌+◌, ℕ, fold, drop, slice_get, Some, None, List, [], ◌∷◌, sym, ap, ◌∙◌, arith}
use Rattle.std.specs.FinSet as set
use Rattle.rambo_outbox.specs.Asking.{with_quorum}
use Rattle.rambo_outbox.proofs.Lists.{drop_at, drop_past}
use Rattle.rambo_outbox.proofs.asking.Choice.first_asked.Goals as goal

pub loop-config-preserved : goal.loop-config-preserved
loop-config-preserved g c =
    let is : slice_get c.args.map.now.configs c.loop-config.place ≡ Some c.in-Some.config = cc in
    let all = drop_at c.args.map.now.configs c.loop-config.place c.in-Some.config is in
    ap (λ who. fold (with_quorum g.Q.Quorums.system c.args.self.now) who (drop (c.loop-config.place + 1) c.args.map.now.configs)) c.with_quorum-who.ensures
    ∙ sym (ap (fold (with_quorum g.Q.Quorums.system c.args.self.now) c.loop-config.who) all)
    ∙ c.loop-config.invariant

pub returns : goal.returns
returns g c =
    let is : slice_get c.args.map.now.configs c.loop-config.place ≡ None = cc in
    let none = drop_past c.args.map.now.configs c.loop-config.place is in
    c.without.ensures
    ∙ ap (λ who. set.remove who c.args.self.now.me) (sym (ap (fold (with_quorum g.Q.Quorums.system c.args.self.now) c.loop-config.who) none) ∙ c.loop-config.invariant)
