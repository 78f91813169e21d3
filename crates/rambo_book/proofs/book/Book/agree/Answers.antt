use Rattle.std.proofs.lemmas.Grind.{common_steps}
use Rattle.std.proofs.Common.{◌≡◌, Some, subst, arith}
use Rattle.rambo_roll.specs.Rolls.{Idle}
use Rattle.rambo_run.specs.Actors.{actor}
use Rattle.rambo_run.specs.Worlds.{node_at}
use Rattle.rambo_book.specs.Kept.{BookView, KeeperView, state}
use Rattle.rambo_book.proofs.Judging.{still}
use Rattle.rambo_book.proofs.Steps.{viewed}
use Rattle.rambo_book.proofs.Books.{whole_book, still_book}
use Rattle.rambo_book.proofs.book.Book.agree.Goals as goal

pub returns-clause-idle : goal.returns-clause-idle
returns-clause-idle g c =
    let k = c.keeper.inside in
    subst (λ (b : BookView _). Idle actor c.args.keeper.now.name c.args.keeper.now.seen b.steps) c.self.view_is
    (subst (λ (v : KeeperView _). Idle actor v.name v.seen c.self.inside.steps.all) c.keeper.view_is
    (subst (λ n. Idle actor n k.holder.1 c.self.inside.steps.all) c.keeper.invariant.named c.agree.ensures.idle))

pub returns-clause-node : goal.returns-clause-node
returns-clause-node g c =
    let s = g.Q.Quorums.system in
    let here = still _ _ _ _ _ _ _ _ _ _ _ _ _ _ _ (whole_book c.self.invariant.0) c.keeper.invariant c.agree.ensures.idle in
    subst (λ b. node_at (state s b) c.args.keeper.now.name ≡ Some c.args.keeper.now.node) c.self.view_is
    (subst (λ (k : KeeperView _). node_at (state s (viewed c.self.inside.founders c.self.inside.steps c.self.inside.capacity c.self.inside.ahead c.self.inside.mails)) k.name ≡ Some k.node) c.keeper.view_is here)

pub invariant_of-self : goal.invariant_of-self
invariant_of-self g c = (still_book c.agree.new.self c.self.invariant.0 c.agree.ensures.stock, c.self.invariant.1, c.self.invariant.2)

pub returns-clause-same : goal.returns-clause-same
returns-clause-same g c = grind (arith, common_steps)

pub invariant_of-keeper : goal.invariant_of-keeper
invariant_of-keeper g c = grind (arith, common_steps)
