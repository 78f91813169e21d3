use Rattle.std.proofs.Common.{◌≡◌, ℕ, ◌-◌, take, sym, ap, ◌∙◌, arith}
use Rattle.std.specs.FinSet as set
use Rattle.rambo_outbox.specs.Asking.{with_next, enough, those}
use Rattle.rambo_outbox.specs.Bids.{agree}
use Rattle.rambo_outbox.proofs.Lists.{fold_first}
use Rattle.rambo_outbox.proofs.asking.enough_before.Goals as goal

pub loop-left-preserved : goal.loop-left-preserved
loop-left-preserved g c =
    let step = with_next g.Q.Quorums.system c.args.config.now in
    let test = λ (n : ℕ). agree (set.contains c.args.silent n) c.args.is_silent in
    ap (λ who. enough g.Q.Quorums.system c.args.config.now who (those c.args.silent c.args.is_silent (take (c.loop-left.left - 1) c.next.new.self))) c.with_one-who.ensures
    ∙ sym (fold_first step test c.loop-left.who c.loop-left.left c.loop-left.before c.in-Some.name c.next.new.self (omega arith) c.in-Some.ensures.steps)
    ∙ c.loop-left.invariant
