use Rattle.std.proofs.Common.{◌≡◌, ◌≤◌, length, sym, ap, ◌∙◌, arith}
use Rattle.rambo_roll.proofs.Beginnings.{prefix_shorter}
use Rattle.rambo_post.proofs.post.Post.has_shown.Goals as goal

pub returns-clause-all : goal.returns-clause-all
returns-clause-all g c = λ is.
    let le : length c.args.pass.now.seen ≤ length c.args.shown.now = omega (arith, ap length c.shown.view_is, c.shown.invariant, c.count.ensures, c.if-shown-count.false) in
    let both = c.begin_both.ensures.begins in
    prefix_shorter c.args.pass.now.seen c.args.shown.now c.deref_mut.result.now.steps both.1 both.0 le
