use Rattle.std.proofs.Common.{true≢false, length, ◌∷◌, [], ◌++◌, sym, ap, ◌∙◌}
use Rattle.rambo_book.specs.Kept.{BookView, KeeperView, state}
use Rattle.rambo_book.specs.Mailing.{waiting_after}
use Rattle.rambo_book.specs.Windows.{gone_of}
use Rattle.rambo_turn.specs.Turns.{cleared}
use Rattle.rambo_turn.proofs.turn.commit_next.Goals as goal

pub unreachable-requires : goal.unreachable-requires
unreachable-requires g c = true≢false (sym (c.in_default.ensures.other c.requires.quiet.no_call))

pub returns-clause-book : goal.returns-clause-book
returns-clause-book g c =
    let b = c.args.book.now in
    let done = c.in_ok-commit_ready.ensures in
    done.book ∙ (λ i. record b { steps = b.steps ++ c.args.ready.step ∷ []; waiting = (done.waiting ∙ ap (λ l. waiting_after b l (gone_of g.J.Terms.endless g.J.Terms.capacity (state g.Q.Quorums.system c.commit_ready.new.book)) (length (state g.Q.Quorums.system c.commit_ready.new.book).letters)) c.requires.quiet.unsent) i })

pub returns-clause-keeper : goal.returns-clause-keeper
returns-clause-keeper g c =
    let done = c.in_ok-commit_ready.ensures in
    let later = c.clear_up.ensures in
    later ∙ (λ i. record {
      name = (done.keeper i).name;
      node = sym (ap (λ (k : KeeperView _). k.node) later) i;
      room = sym (ap (λ (k : KeeperView _). k.room) later) i;
      beside = sym (ap (λ (k : KeeperView _). k.beside) later) i;
      tray = cleared (done.keeper i).tray (c.in-Ok.ensures.same i);
      seen = (ap (λ (k : KeeperView _). k.seen) done.keeper ∙ sym (ap (λ (b : BookView _). b.steps) done.book)) i;
    })
