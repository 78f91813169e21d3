use Rattle.std.proofs.Common.{◌≡◌, ℕ, take, drop, sym, ap, ◌∙◌}
use Rattle.std.specs.FinSet as set
use Rattle.rambo_names.specs.Names.{names}
use Rattle.rambo_outbox.specs.Asking.{with_next, enough, those}
use Rattle.rambo_outbox.specs.Bids.{agree}
use Rattle.rambo_outbox.proofs.Lists.{fold_both}
use Rattle.rambo_outbox.proofs.asking.enough.Goals as goal

pub returns : goal.returns
returns g c =
    let step = with_next g.Q.Quorums.system c.args.config.now in
    let test = λ (n : ℕ). agree (set.contains c.args.silent n) c.args.is_silent in
    c.enough_before.ensures
    ∙ ap (λ who. enough g.Q.Quorums.system c.args.config.now who (those c.args.silent c.args.is_silent (take c.args.place (names c.args.others)))) c.enough_behind-who.ensures
    ∙ sym (fold_both step test c.args.who (drop c.args.place (names c.args.others)) (take c.args.place (names c.args.others)))
