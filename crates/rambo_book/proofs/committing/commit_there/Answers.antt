use Rattle.std.proofs.Common.{◌≡◌, ◌++◌, ◌∷◌, [], None, Some, OnOk, IfOk, IfErr, length, sym, subst}
use Rattle.rambo_run.specs.Actors.{sent_by}
use Rattle.rambo_run.specs.Steps.{refusal, turn}
use Rattle.rambo_run.specs.Worlds.{node_at}
use Rattle.rambo_book.specs.Kept.{BookView, KeeperView, Told, state}
use Rattle.rambo_book.specs.Mailing.{waiting_after}
use Rattle.rambo_book.specs.Windows.{gone_of}
use Rattle.rambo_book.specs.Readying.{IsReadyIn}
use Rattle.rambo_book.proofs.Commits.{same_before}
use Rattle.rambo_book.proofs.Refused.{always, told_half}
use Rattle.rambo_book.proofs.committing.commit_there.Goals as goal

pub ready_by_book-requires : goal.ready_by_book-requires
ready_by_book-requires g c = (c.requires-raw.1.1.1.0, (c.requires.there, c.requires.served))

pub enter-requires : goal.enter-requires
enter-requires g c =
    let s = g.Q.Quorums.system in
    (c.requires-raw.1.1.1.0, subst (λ b. IsReadyIn s (state s b) c.ready_by_book.new.keeper c.in-Ok.ready) (sym c.ready_by_book.ensures.same.0) c.in-Ok.ensures.ready)

pub returns-in-Err-clause-same : goal.returns-in-Err-clause-same
returns-in-Err-clause-same g c = (c.ready_by_book.ensures.same.0, c.ready_by_book.ensures.same.1)

pub returns-in-Err-clause-told : goal.returns-in-Err-clause-told
returns-in-Err-clause-told g c =
    let s = g.Q.Quorums.system in
    let b = c.args.book.now in
    let cause = c.in-Err.cause in
    told_half (refusal s (state s b) c.args.step) cause c.unready.result (length b.steps) b.capacity c.in-Err.ensures.refused c.in-Err.ensures.memory c.unready.ensures.rule
    (λ short. subst (λ (b : BookView _). Told None (length b.steps) b.capacity c.unready.result) c.ready_by_book.ensures.same.0 (c.unready.ensures.memory short))

pub returns-clause-legal : goal.returns-clause-legal
returns-clause-legal g c = always c.enter.result c.in-Ok.ensures.legal

pub returns-clause-effect : goal.returns-clause-effect
returns-clause-effect g c =
    let s = g.Q.Quorums.system in
    let eb = c.ready_by_book.ensures.same.0 in
    subst (λ st. IfOk c.enter.result (λ e. e ≡ (turn (state s c.args.book.now) st).effect)) c.in-Ok.ensures.step
    (subst (λ b. IfOk c.enter.result (λ e. e ≡ (turn (state s b) c.in-Ok.ready.step).effect)) eb c.enter.ensures.effect)

pub returns-clause-book : goal.returns-clause-book
returns-clause-book g c =
    let eb = c.ready_by_book.ensures.same.0 in
    subst (λ st. OnOk c.enter.result (c.enter.new.book ≡ record c.args.book.now { steps = c.args.book.now.steps ++ st ∷ []; waiting = c.enter.new.book.waiting })) c.in-Ok.ensures.step
    (subst (λ (b : BookView _). OnOk c.enter.result (c.enter.new.book ≡ record b { steps = b.steps ++ c.in-Ok.ready.step ∷ []; waiting = c.enter.new.book.waiting })) eb c.enter.ensures.book)

pub returns-clause-waiting : goal.returns-clause-waiting
returns-clause-waiting g c =
    let s = g.Q.Quorums.system in
    let eb = c.ready_by_book.ensures.same.0 in
    subst (λ st. OnOk c.enter.result (c.enter.new.book.waiting ≡ waiting_after c.args.book.now (sent_by st) (gone_of g.J.Terms.endless g.J.Terms.capacity (state s c.enter.new.book)) (length (state s c.enter.new.book).letters))) c.in-Ok.ensures.step
    (subst (λ b. OnOk c.enter.result (c.enter.new.book.waiting ≡ waiting_after b (sent_by c.in-Ok.ready.step) (gone_of g.J.Terms.endless g.J.Terms.capacity (state s c.enter.new.book)) (length (state s c.enter.new.book).letters))) eb c.enter.ensures.waiting)

pub returns-clause-keeper : goal.returns-clause-keeper
returns-clause-keeper g c =
    let eb = c.ready_by_book.ensures.same.0 in
    let ek = c.ready_by_book.ensures.same.1 in
    let new = c.enter.new.keeper in
    subst (λ st. OnOk c.enter.result (new ≡ record c.args.keeper.now { node = new.node; room = new.room; beside = new.beside; seen = c.args.book.now.steps ++ st ∷ [] })) c.in-Ok.ensures.step
    (subst (λ (b : BookView _). OnOk c.enter.result (new ≡ record c.args.keeper.now { node = new.node; room = new.room; beside = new.beside; seen = b.steps ++ c.in-Ok.ready.step ∷ [] })) eb
    (subst (λ (k : KeeperView _). OnOk c.enter.result (new ≡ record k { node = new.node; room = new.room; beside = new.beside; seen = c.ready_by_book.new.book.steps ++ c.in-Ok.ready.step ∷ [] })) ek c.enter.ensures.keeper))

pub returns-clause-node : goal.returns-clause-node
returns-clause-node g c =
    let ek = c.ready_by_book.ensures.same.1 in
    subst (λ (k : KeeperView _). OnOk c.enter.result (node_at (state g.Q.Quorums.system c.enter.new.book) k.name ≡ Some c.enter.new.keeper.node)) ek c.enter.ensures.node

pub returns-clause-same : goal.returns-clause-same
returns-clause-same g c =
    let eb = c.ready_by_book.ensures.same.0 in
    let ek = c.ready_by_book.ensures.same.1 in
    same_before c.enter.result c.enter.new.book c.ready_by_book.new.book c.args.book.now c.enter.new.keeper c.ready_by_book.new.keeper c.args.keeper.now eb ek c.enter.ensures.same

pub returns-clause-told : goal.returns-clause-told
returns-clause-told g c =
    let b = c.args.book.now in
    let eb = c.ready_by_book.ensures.same.0 in
    subst (λ o. IfErr c.enter.result (Told o (length b.steps) b.capacity)) (sym c.in-Ok.ensures.legal)
    (subst (λ (b : BookView _). IfErr c.enter.result (Told None (length b.steps) b.capacity)) eb c.enter.ensures.told)
