use Rattle.std.proofs.Common.{◌≡◌, ◌++◌, ◌∷◌, [], None, Some, OnOk, OnErr, IfOk, IfErr, ◌<◌, length, subst}
use Rattle.rambo_run.specs.Actors.{sent_by}
use Rattle.rambo_run.specs.Steps.{turn}
use Rattle.rambo_run.specs.Worlds.{node_at}
use Rattle.rambo_book.specs.Kept.{BookView, KeeperView, Told, state}
use Rattle.rambo_book.specs.Mailing.{waiting_after}
use Rattle.rambo_book.specs.Windows.{gone_of}
use Rattle.rambo_book.proofs.Commits.{ready_inside}
use Rattle.rambo_book.proofs.Readying.{ready_longer}
use Rattle.rambo_book.proofs.committing.commit_ready.Goals as goal

pub agree-requires : goal.agree-requires
agree-requires g c = c.requires-raw.1.1.1.0

pub enter-requires : goal.enter-requires
enter-requires g c =
    let s = g.Q.Quorums.system in
    let b = c.args.book.now in
    let ready = ready_longer s b.founders b.steps c.args.keeper.now c.args.ready c.facts.ensures.legal c.agree.ensures.idle (c.requires b.founders c.facts.ensures.founders) in
    (c.requires-raw.1.1.1.0, ready_inside s _ _ _ _ c.args.ready c.agree.ensures.same.0 c.agree.ensures.same.1 ready)

pub returns-clause-legal : goal.returns-clause-legal
returns-clause-legal g c =
    let b = c.args.book.now in
    (ready_longer g.Q.Quorums.system b.founders b.steps c.args.keeper.now c.args.ready c.facts.ensures.legal c.agree.ensures.idle (c.requires b.founders c.facts.ensures.founders)).accepted

pub returns-clause-between : goal.returns-clause-between
returns-clause-between g c = (c.agree.ensures.idle.0, c.agree.ensures.idle.1)

pub returns-clause-room : goal.returns-clause-room
returns-clause-room g c = subst (λ (b : BookView _). OnOk c.enter.result (length b.steps < b.capacity)) c.agree.ensures.same.0 c.enter.ensures.room

pub returns-clause-effect : goal.returns-clause-effect
returns-clause-effect g c =
    let s = g.Q.Quorums.system in
    let eb = c.agree.ensures.same.0 in
    subst (λ b. IfOk c.enter.result (λ e. e ≡ (turn (state s b) c.args.ready.step).effect)) eb c.enter.ensures.effect

pub returns-clause-book : goal.returns-clause-book
returns-clause-book g c =
    let eb = c.agree.ensures.same.0 in
    subst (λ (b : BookView _). OnOk c.enter.result (c.enter.new.book ≡ record b { steps = b.steps ++ c.args.ready.step ∷ []; waiting = c.enter.new.book.waiting })) eb c.enter.ensures.book

pub returns-clause-waiting : goal.returns-clause-waiting
returns-clause-waiting g c =
    let s = g.Q.Quorums.system in
    let eb = c.agree.ensures.same.0 in
    subst (λ b. OnOk c.enter.result (c.enter.new.book.waiting ≡ waiting_after b (sent_by c.args.ready.step) (gone_of g.J.Terms.endless g.J.Terms.capacity (state s c.enter.new.book)) (length (state s c.enter.new.book).letters))) eb c.enter.ensures.waiting

pub returns-clause-keeper : goal.returns-clause-keeper
returns-clause-keeper g c =
    let eb = c.agree.ensures.same.0 in
    let ek = c.agree.ensures.same.1 in
    let new = c.enter.new.keeper in
    subst (λ (b : BookView _). OnOk c.enter.result (new ≡ record c.args.keeper.now { node = new.node; room = new.room; beside = new.beside; seen = b.steps ++ c.args.ready.step ∷ [] })) eb
    (subst (λ (k : KeeperView _). OnOk c.enter.result (new ≡ record k { node = new.node; room = new.room; beside = new.beside; seen = c.agree.new.self.steps ++ c.args.ready.step ∷ [] })) ek c.enter.ensures.keeper)

pub returns-clause-node : goal.returns-clause-node
returns-clause-node g c =
    let ek = c.agree.ensures.same.1 in
    subst (λ (k : KeeperView _). OnOk c.enter.result (node_at (state g.Q.Quorums.system c.enter.new.book) k.name ≡ Some c.enter.new.keeper.node)) ek c.enter.ensures.node

pub returns-clause-same : goal.returns-clause-same
returns-clause-same g c =
    subst (λ k. OnErr c.enter.result ((c.enter.new.book ≡ c.args.book.now) × (c.enter.new.keeper ≡ k))) c.agree.ensures.same.1
    (subst (λ b. OnErr c.enter.result ((c.enter.new.book ≡ b) × (c.enter.new.keeper ≡ c.agree.new.keeper))) c.agree.ensures.same.0 c.enter.ensures.same)

pub returns-clause-told : goal.returns-clause-told
returns-clause-told g c = subst (λ (b : BookView _). IfErr c.enter.result (Told None (length b.steps) b.capacity)) c.agree.ensures.same.0 c.enter.ensures.told
