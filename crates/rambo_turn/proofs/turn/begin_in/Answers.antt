use Rattle.std.proofs.Common.{ℕ, ◌<◌, OnErr, sym, ap, ◌∙◌, subst}
use Rattle.rambo_book.specs.Kept.{BookView, KeeperView, state}
use Rattle.rambo_book.specs.Mailing.{AreTaken, all_for}
use Rattle.rambo_book.specs.Windows.{gone_of}
use Rattle.rambo_turn.proofs.turn.begin_in.Goals as goal

pub take_mail-requires : goal.take_mail-requires
take_mail-requires g c = (c.requires-raw.1.1.1, ap (λ (k : KeeperView _). k.seen) c.see_all.ensures.keeper ∙ ap (λ (b : BookView _). b.steps) (sym c.see_all.ensures.book))

pub returns-clause-some : goal.returns-clause-some
returns-clause-some g c =
    let s = g.Q.Quorums.system in
    let k = c.args.keeper.now in
    let left = c.take_mail.new.book.waiting in
    let tray = c.take_mail.new.keeper.tray in
    subst (λ b. OnErr c.take_mail.result ((count : ℕ) × (count < all_for k b.waiting) × AreTaken (state s b) (gone_of g.J.Terms.endless g.J.Terms.capacity (state s b)) k.name count b.waiting left k.tray tray)) c.see_all.ensures.book
    (subst (λ (l : KeeperView _). OnErr c.take_mail.result ((count : ℕ) × (count < all_for l c.see_all.new.book.waiting) × AreTaken (state s c.see_all.new.book) (gone_of g.J.Terms.endless g.J.Terms.capacity (state s c.see_all.new.book)) l.name count c.see_all.new.book.waiting left l.tray tray)) c.see_all.ensures.keeper c.take_mail.ensures.some)
