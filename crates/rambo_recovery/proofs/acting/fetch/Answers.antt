use Rattle.std.proofs.Common.{length, ap, sym, ◌∙◌, subst}
use Rattle.std.proofs.lemmas.List.{length-set}
use Rattle.rambo_book.specs.Kept.{BookView, KeeperView, state}
use Rattle.rambo_book.specs.Mailing.{AreTaken, all_for}
use Rattle.rambo_book.specs.Readying.{IsIn}
use Rattle.rambo_book.specs.Windows.{gone_of}
use Rattle.rambo_recovery.proofs.Trays.{before_in, comes_in}
use Rattle.rambo_recovery.proofs.acting.fetch.Goals as goal

pub returns-in-Ok-clause-lists : goal.returns-in-Ok-clause-lists
returns-in-Ok-clause-lists g c = ap length c.in-Ok.ensures.all.others ∙ length-set _ _ _ ∙ ap (λ (b : BookView _). length b.waiting) c.agree.ensures.same.0

pub returns-in-Ok-clause-kept : goal.returns-in-Ok-clause-kept
returns-in-Ok-clause-kept g c = λ number h. before_in _ _ _ number c.in-Ok.ensures.all.taken (subst (λ (k : KeeperView _). IsIn k.tray number) (sym c.agree.ensures.same.1) h)

pub returns-in-Ok-clause-come : goal.returns-in-Ok-clause-come
returns-in-Ok-clause-come g c = λ yes place number e comes.
    let s = g.Q.Quorums.system in
    let b = c.args.book.now in
    let k = c.args.keeper.now in
    let gone = λ (b : BookView _). gone_of g.J.Terms.endless g.J.Terms.capacity (state s b) in
    let left = c.begin_in.new.book.waiting in
    let after = c.begin_in.new.keeper.tray in
    comes_in (state s b) (gone b) k after b.waiting left c.agree.ensures.node
    (subst (λ b. AreTaken (state s b) (gone b) k.name (all_for k b.waiting) b.waiting left k.tray after) c.agree.ensures.same.0
    (subst (λ (k : KeeperView _). AreTaken (state s c.agree.new.self) (gone c.agree.new.self) k.name (all_for k c.agree.new.self.waiting) c.agree.new.self.waiting left k.tray after) c.agree.ensures.same.1 c.in-Ok.ensures.all))
    place number e comes

pub returns-in-Err-clause-lists : goal.returns-in-Err-clause-lists
returns-in-Err-clause-lists g c = ap length c.in-Err.ensures.some.2.others ∙ length-set _ _ _ ∙ ap (λ (b : BookView _). length b.waiting) c.agree.ensures.same.0

pub returns-in-Err-clause-kept : goal.returns-in-Err-clause-kept
returns-in-Err-clause-kept g c = λ number h. before_in _ _ _ number c.in-Err.ensures.some.2.taken (subst (λ (k : KeeperView _). IsIn k.tray number) (sym c.agree.ensures.same.1) h)
