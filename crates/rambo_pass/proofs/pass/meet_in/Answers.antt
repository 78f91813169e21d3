use Rattle.std.proofs.Common.{◌≡◌, ◌≤◌, length, ap, ◌∙◌, subst, inl, inr, arith}
use mathlib.Core.List.{IsPrefix}
use Rattle.rambo_roll.proofs.Beginnings.{prefix_shorter}
use Rattle.rambo_book.specs.Kept.{BookView}
use Rattle.rambo_pass.specs.Passes.{PassView}
use Rattle.rambo_pass.proofs.pass.meet_in.Goals as goal

pub returns-then-one-other-clause-longer : goal.returns-then-one-other-clause-longer
returns-then-one-other-clause-longer g c =
    let p = c.begins.ensures.begins in
    let q : IsPrefix c.args.other.now.seen c.args.book.now.steps = subst (λ (b : BookView _). IsPrefix c.args.other.now.seen b.steps) c.begins.ensures.book c.begins-2.ensures.begins in
    let one : c.one.inside.seen ≡ c.args.one.now.seen = ap (λ (v : PassView _). v.seen) (c.one.view_is ∙ c.begins.ensures.pass) in
    let other : c.other.inside.seen ≡ c.args.other.now.seen = ap (λ (v : PassView _). v.seen) (c.other.view_is ∙ c.begins-2.ensures.pass) in
    let le : length c.args.one.now.seen ≤ length c.args.other.now.seen = omega (arith, ap length one, ap length other, c.one.invariant, c.other.invariant, c.if-one-other.true) in
    inr (ap (λ (v : PassView _). v.seen) (c.copy.ensures.to ∙ ap (λ (v : PassView _). record { seen = v.seen; mine = c.begins.new.self.mine }) c.begins-2.ensures.pass), prefix_shorter c.args.one.now.seen c.args.other.now.seen c.args.book.now.steps p q le)

pub returns-else-one-other-clause-longer : goal.returns-else-one-other-clause-longer
returns-else-one-other-clause-longer g c =
    let p = c.begins.ensures.begins in
    let q : IsPrefix c.args.other.now.seen c.args.book.now.steps = subst (λ (b : BookView _). IsPrefix c.args.other.now.seen b.steps) c.begins.ensures.book c.begins-2.ensures.begins in
    let one : c.one.inside.seen ≡ c.args.one.now.seen = ap (λ (v : PassView _). v.seen) (c.one.view_is ∙ c.begins.ensures.pass) in
    let other : c.other.inside.seen ≡ c.args.other.now.seen = ap (λ (v : PassView _). v.seen) (c.other.view_is ∙ c.begins-2.ensures.pass) in
    let le : length c.args.other.now.seen ≤ length c.args.one.now.seen = omega (arith, ap length one, ap length other, c.one.invariant, c.other.invariant, c.if-one-other.false) in
    inl (ap (λ (v : PassView _). v.seen) (c.copy-else-one-other.ensures.from ∙ c.begins.ensures.pass), prefix_shorter c.args.other.now.seen c.args.one.now.seen c.args.book.now.steps q p le)
