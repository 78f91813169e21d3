use Rattle.std.proofs.lemmas.Grind.{common_steps}
use Rattle.std.proofs.Common.{◌∙◌, ◌+◌, ◌<◌, ◌≤◌, ◌++◌, ◌∷◌, [], None, length, refl, sym, ap, subst, inl, inr, arith}
use Rattle.rambo_node.specs.Changes.{made_by}
use Rattle.rambo_node.specs.FullNodes.{beside_after}
use Rattle.rambo_run.specs.Worlds.{node_at}
use Rattle.rambo_run.specs.Steps.{turn}
use Rattle.rambo_names.proofs.Sizes.{up_fits, back_fits}
use Rattle.rambo_run.specs.Actors.{actor, sent_by}
use Rattle.rambo_names.specs.declared.refusal.Refusal.TheVariants.{HistoryFull, OutOfMemory}
use Rattle.rambo_node.specs.Halves.{letter_of}
use Rattle.rambo_book.specs.Kept.{BookView, Told, state}
use Rattle.rambo_run.specs.Runs.{run}
use Rattle.rambo_mail.specs.Waiting.{MailState, numbers_of}
use Rattle.rambo_roll.specs.Stocks.{StockView}
use Rattle.rambo_book.specs.Mailing.{waiting_after}
use Rattle.rambo_book.proofs.Posting.{same_to, posted_lose, posted_twice, posted_waiting, kept_with}
use Rattle.rambo_book.proofs.Steps.{viewed, grown, still_all}
use Rattle.rambo_book.proofs.Commits.{ready_inside, half_here, finished_here, keeper_after}
use Rattle.std.specs.Option.{option_copied}
use Rattle.rambo_book.specs.Windows.{gone_of}
use Rattle.rambo_book.proofs.Books.{passed, one_past, few_past, sent_room, few_room, sent_then, whole_book, after_step, gone_after, count_after, same_book, still_book}
use Rattle.rambo_book.proofs.Recording.{fits_all, told_all}
use Rattle.rambo_book.proofs.committing.enter.Goals as goal

pub returns-then-len-capacity-clause-same : goal.returns-then-len-capacity-clause-same
returns-then-len-capacity-clause-same g c =
    (ap (λ v. viewed c.book.inside.founders v c.book.inside.capacity c.book.inside.ahead c.book.inside.mails) c.agree.ensures.stock ∙ c.book.view_is, (λ i. record { name = c.keeper.inside.name; node = c.keeper.inside.node.state; room = c.keeper.inside.node.room; beside = c.keeper.inside.node.beside; tray = c.keeper.inside.tray.items; seen = (c.agree.ensures.keeper i).1 }) ∙ c.keeper.view_is)

pub returns-then-len-capacity-clause-told : goal.returns-then-len-capacity-clause-told
returns-then-len-capacity-clause-told g c =
    let full : c.book.inside.capacity ≤ length c.book.inside.steps.all = omega (arith, c.if-len-capacity.true, c.len.ensures, ap (λ (v : StockView _). length v.all) c.agree.ensures.stock) in
    subst (λ (b : BookView _). Told None (length b.steps) b.capacity HistoryFull) c.book.view_is (inl (refl, omega (arith, full, c.book.invariant.0.fits)))

pub returns-then-at_hand-ahead-clause-same : goal.returns-then-at_hand-ahead-clause-same
returns-then-at_hand-ahead-clause-same g c =
    (ap (λ v. viewed c.book.inside.founders v c.book.inside.capacity c.book.inside.ahead c.book.inside.mails) c.agree.ensures.stock ∙ c.book.view_is, (λ i. record { name = c.keeper.inside.name; node = c.keeper.inside.node.state; room = c.keeper.inside.node.room; beside = c.keeper.inside.node.beside; tray = c.keeper.inside.tray.items; seen = (c.agree.ensures.keeper i).1 }) ∙ c.keeper.view_is)

pub returns-then-at_hand-ahead-clause-told : goal.returns-then-at_hand-ahead-clause-told
returns-then-at_hand-ahead-clause-told g c =
    let less : length c.book.inside.steps.all < c.book.inside.capacity = omega (arith, c.if-len-capacity.false, c.len.ensures, ap (λ (v : StockView _). length v.all) c.agree.ensures.stock) in
    subst (λ (b : BookView _). Told None (length b.steps) b.capacity OutOfMemory) c.book.view_is (inr (refl, less))

pub add-requires-clause-acts : goal.add-requires-clause-acts
add-requires-clause-acts g c =
    let s = g.Q.Quorums.system in
    let ready = ready_inside s _ _ _ _ c.args.ready c.book.view_is c.keeper.view_is c.requires in
    let step = half_here (whole_book c.book.invariant.0) c.keeper.invariant c.agree.ensures.idle c.args.ready.step c.keeper.inside.node.room c.keeper.inside.tray.items c.keeper.inside.holder.1 c.args.ready.half ready (option_copied c.as_ref.result) c.as_ref.ensures.value in
    let done = finished_here (whole_book c.book.invariant.0) c.keeper.invariant c.agree.ensures.idle c.args.ready.step c.keeper.inside.node.room c.keeper.inside.tray.items c.keeper.inside.holder.1 c.args.ready.half ready (option_copied c.as_ref.result) c.as_ref.ensures.value c.finish-effect.new.node c.finish-effect.result (c.finish-effect.ensures.node ready.act step) (c.finish-effect.ensures.beside ready.act step) (c.finish-effect.ensures.effect ready.act _ step (sent_room c.book.invariant.0 c.make_room.ensures.same.1)) in
    ap (λ l. actor l c.args.ready.step) (still_all _ _ _ c.agree.ensures.stock c.make_room.ensures.same.0) ∙ done.acts ∙ sym c.keeper.invariant.named ∙ sym (ap (λ h. h.0) c.agree.ensures.keeper)

pub add-requires-clause-room : goal.add-requires-clause-room
add-requires-clause-room g c = c.in-Ok.ensures.room.0

pub add-requires-clause-few : goal.add-requires-clause-few
add-requires-clause-few g c =
    let same = ap length (still_all _ _ _ c.agree.ensures.stock c.make_room.ensures.same.0) in
    let old = ap (λ (v : StockView _). length v.all) c.agree.ensures.stock in
    omega (arith, c.if-len-capacity.false, c.len.ensures, same, old)

pub finish-effect-requires : goal.finish-effect-requires
finish-effect-requires g c =
    let s = g.Q.Quorums.system in
    let ready = ready_inside s _ _ _ _ c.args.ready c.book.view_is c.keeper.view_is c.requires in
    let step = half_here (whole_book c.book.invariant.0) c.keeper.invariant c.agree.ensures.idle c.args.ready.step c.keeper.inside.node.room c.keeper.inside.tray.items c.keeper.inside.holder.1 c.args.ready.half ready (option_copied c.as_ref.result) c.as_ref.ensures.value in
    let done = finished_here (whole_book c.book.invariant.0) c.keeper.invariant c.agree.ensures.idle c.args.ready.step c.keeper.inside.node.room c.keeper.inside.tray.items c.keeper.inside.holder.1 c.args.ready.half ready (option_copied c.as_ref.result) c.as_ref.ensures.value (record { state = (made_by c.keeper.inside.node.state ready.act).node; room = c.keeper.inside.node.room; beside = beside_after c.keeper.inside.node.state c.keeper.inside.node.beside ready.act }) _ refl refl refl in
    let room = c.in-Ok.ensures.room in
    let less : length c.book.inside.steps.all < c.book.inside.capacity = omega (arith, c.if-len-capacity.false, c.len.ensures, ap (λ (v : StockView _). length v.all) c.agree.ensures.stock) in
    let few = few_room c.book.invariant.0 c.make_room.ensures.same.1 in (
      back_fits _ _ _ (up_fits _ _ _ c.requires-raw.1.1.1.0),
      (
        (ready.act, step),
        (
          omega (arith, few, less, c.if-len-capacity.false, c.len.ensures),
          (
            (room.1, room.2),
            (
              λ l e there is. fits_all c.book.inside.kept.all c.make_room.new.kept.all _ _ c.make_room.ensures.same.2.0 c.book.invariant.0.recorded l e there (done.fits e is),
              λ l m there is. told_all c.book.inside.kept.all c.make_room.new.kept.all _ _ c.make_room.ensures.same.2.0 c.book.invariant.0.recorded l _ m there (done.shows m is),
            ),
          ),
        ),
      ),
    )

pub invariant_of-book-2 : goal.invariant_of-book-2
invariant_of-book-2 g c =
    let s = g.Q.Quorums.system in
    let room = c.make_room.ensures.same in
    let grew = grown _ _ _ _ c.args.ready.step c.agree.ensures.stock c.make_room.ensures.same.0 c.add.ensures.stock in
    let half = c.args.ready.half in
    let ready = ready_inside s _ _ _ _ c.args.ready c.book.view_is c.keeper.view_is c.requires in
    let step = half_here (whole_book c.book.invariant.0) c.keeper.invariant c.agree.ensures.idle c.args.ready.step c.keeper.inside.node.room c.keeper.inside.tray.items c.keeper.inside.holder.1 c.args.ready.half ready (option_copied c.as_ref.result) c.as_ref.ensures.value in
    let done = finished_here (whole_book c.book.invariant.0) c.keeper.invariant c.agree.ensures.idle c.args.ready.step c.keeper.inside.node.room c.keeper.inside.tray.items c.keeper.inside.holder.1 c.args.ready.half ready (option_copied c.as_ref.result) c.as_ref.ensures.value c.finish-effect.new.node c.finish-effect.result (c.finish-effect.ensures.node ready.act step) (c.finish-effect.ensures.beside ready.act step) (c.finish-effect.ensures.effect ready.act _ step (sent_room c.book.invariant.0 c.make_room.ensures.same.1)) in
    let less : length c.book.inside.steps.all < c.book.inside.capacity = omega (arith, c.if-len-capacity.false, c.len.ensures, ap (λ (v : StockView _). length v.all) c.agree.ensures.stock) in
    let old = ap (λ (v : StockView _). v.drawn) c.agree.ensures.stock in
    let all = ap (λ (v : StockView _). length v.all) c.agree.ensures.stock in
    let near : length c.book.inside.steps.all < c.add.new.self.drawn + c.book.inside.ahead = omega (arith, c.if-at_hand-ahead.false, c.at_hand.ensures, all, old, grew.drawn) in
    let m = c.make_room.new.mails in
    let p = c.new-posting.result in
    let n = c.sent.result in
    let posted = c.post.ensures (same_to p.to m.ready (sent_by c.args.ready.step) c.new-posting.ensures.to c.in-Ok.ensures.ready) in
    let lose = ap (λ (m : MailState). m.lose) posted ∙ posted_lose m p n c.gone.result ∙ ap (λ (m : MailState). m.lose) room.3 in
    let twice = ap (λ (m : MailState). m.twice) posted ∙ posted_twice m p n c.gone.result ∙ ap (λ (m : MailState). m.twice) room.3 in
    let mid = passed c.book.inside.letters c.make_room.new.letters c.finish-effect.new.letters c.leave_out_copies.new.self (letter_of c.args.ready.half) c.delivered-came.result room.1 c.finish-effect.ensures.letters c.finish-effect.ensures.window.0 c.finish-effect.ensures.window.1 c.leave_out_copies.ensures in
    let book = after_step c.book.invariant.0 c.keeper.invariant c.agree.ensures.idle c.args.ready.step done c.leave_out_copies.new.self c.delivered-came.result c.delivered-came.ensures mid.gone mid.window mid.kept
    c.add.new.self.all c.trim.new.self c.make_room.new.kept c.finish-effect.new.kept c.add.new.self.drawn less near
    (λ is. grew.drawn ∙ c.book.invariant.0.undrawn is)
    grew.all c.trim.ensures.gone c.trim.ensures.kept c.trim.ensures.window
    room.2
    c.finish-effect.ensures.kept in
    (book, lose ∙ c.book.invariant.1, twice ∙ c.book.invariant.2)

pub invariant_of-keeper-2 : goal.invariant_of-keeper-2
invariant_of-keeper-2 g c =
    let s = g.Q.Quorums.system in
    let ready = ready_inside s _ _ _ _ c.args.ready c.book.view_is c.keeper.view_is c.requires in
    let step = half_here (whole_book c.book.invariant.0) c.keeper.invariant c.agree.ensures.idle c.args.ready.step c.keeper.inside.node.room c.keeper.inside.tray.items c.keeper.inside.holder.1 c.args.ready.half ready (option_copied c.as_ref.result) c.as_ref.ensures.value in
    let done = finished_here (whole_book c.book.invariant.0) c.keeper.invariant c.agree.ensures.idle c.args.ready.step c.keeper.inside.node.room c.keeper.inside.tray.items c.keeper.inside.holder.1 c.args.ready.half ready (option_copied c.as_ref.result) c.as_ref.ensures.value c.finish-effect.new.node c.finish-effect.result (c.finish-effect.ensures.node ready.act step) (c.finish-effect.ensures.beside ready.act step) (c.finish-effect.ensures.effect ready.act _ step (sent_room c.book.invariant.0 c.make_room.ensures.same.1)) in
    let less : length c.book.inside.steps.all < c.book.inside.capacity = omega (arith, c.if-len-capacity.false, c.len.ensures, ap (λ (v : StockView _). length v.all) c.agree.ensures.stock) in
    keeper_after (whole_book c.book.invariant.0) c.keeper.invariant c.agree.ensures.idle c.args.ready.step done c.add.new.keeper.0 c.add.new.keeper.1 less
    (ap (λ h. h.0) c.add.ensures.keeper ∙ ap (λ h. h.0) c.agree.ensures.keeper)
    (ap (λ h. h.1) c.add.ensures.keeper ∙ ap (λ l. l ++ c.args.ready.step ∷ []) (still_all _ _ _ c.agree.ensures.stock c.make_room.ensures.same.0))

pub returns-clause-effect : goal.returns-clause-effect
returns-clause-effect g c =
    let s = g.Q.Quorums.system in
    let ready = ready_inside s _ _ _ _ c.args.ready c.book.view_is c.keeper.view_is c.requires in
    let step = half_here (whole_book c.book.invariant.0) c.keeper.invariant c.agree.ensures.idle c.args.ready.step c.keeper.inside.node.room c.keeper.inside.tray.items c.keeper.inside.holder.1 c.args.ready.half ready (option_copied c.as_ref.result) c.as_ref.ensures.value in
    let done = finished_here (whole_book c.book.invariant.0) c.keeper.invariant c.agree.ensures.idle c.args.ready.step c.keeper.inside.node.room c.keeper.inside.tray.items c.keeper.inside.holder.1 c.args.ready.half ready (option_copied c.as_ref.result) c.as_ref.ensures.value c.finish-effect.new.node c.finish-effect.result (c.finish-effect.ensures.node ready.act step) (c.finish-effect.ensures.beside ready.act step) (c.finish-effect.ensures.effect ready.act _ step (sent_room c.book.invariant.0 c.make_room.ensures.same.1)) in
    done.effect ∙ ap (λ b. (turn (state s b) c.args.ready.step).effect) c.book.view_is

pub returns-clause-book : goal.returns-clause-book
returns-clause-book g c =
    let m = c.make_room.new.mails in
    let p = c.new-posting.result in
    let n = c.sent.result in
    let posted = c.post.ensures (same_to p.to m.ready (sent_by c.args.ready.step) c.new-posting.ensures.to c.in-Ok.ensures.ready) in
    let grew = grown _ _ _ _ c.args.ready.step c.agree.ensures.stock c.make_room.ensures.same.0 c.add.ensures.stock in
    let lose = ap (λ (m : MailState). m.lose) posted ∙ posted_lose m p n c.gone.result ∙ ap (λ (m : MailState). m.lose) c.make_room.ensures.same.3 in
    let twice = ap (λ (m : MailState). m.twice) posted ∙ posted_twice m p n c.gone.result ∙ ap (λ (m : MailState). m.twice) c.make_room.ensures.same.3 in
    (λ i. record {
      founders = c.book.inside.founders;
      steps = grew.all i;
      drawn = grew.drawn i;
      capacity = c.book.inside.capacity;
      ahead = c.book.inside.ahead;
      waiting = numbers_of c.post.new.self.waiting;
      lose = lose i;
      twice = twice i;
    })
    ∙ ap (λ (b : BookView _). record b { steps = b.steps ++ c.args.ready.step ∷ []; waiting = numbers_of c.post.new.self.waiting }) c.book.view_is

pub returns-clause-waiting : goal.returns-clause-waiting
returns-clause-waiting g c =
    let s = g.Q.Quorums.system in
    let m = c.make_room.new.mails in
    let p = c.new-posting.result in
    let n = c.sent.result in
    let posted = c.post.ensures (same_to p.to m.ready (sent_by c.args.ready.step) c.new-posting.ensures.to c.in-Ok.ensures.ready) in
    let ready = ready_inside s _ _ _ _ c.args.ready c.book.view_is c.keeper.view_is c.requires in
    let step = half_here (whole_book c.book.invariant.0) c.keeper.invariant c.agree.ensures.idle c.args.ready.step c.keeper.inside.node.room c.keeper.inside.tray.items c.keeper.inside.holder.1 c.args.ready.half ready (option_copied c.as_ref.result) c.as_ref.ensures.value in
    let done = finished_here (whole_book c.book.invariant.0) c.keeper.invariant c.agree.ensures.idle c.args.ready.step c.keeper.inside.node.room c.keeper.inside.tray.items c.keeper.inside.holder.1 c.args.ready.half ready (option_copied c.as_ref.result) c.as_ref.ensures.value c.finish-effect.new.node c.finish-effect.result (c.finish-effect.ensures.node ready.act step) (c.finish-effect.ensures.beside ready.act step) (c.finish-effect.ensures.effect ready.act _ step (sent_room c.book.invariant.0 c.make_room.ensures.same.1)) in
    let mid = passed c.book.inside.letters c.make_room.new.letters c.finish-effect.new.letters c.leave_out_copies.new.self (letter_of c.args.ready.half) c.delivered-came.result c.make_room.ensures.same.1 c.finish-effect.ensures.letters c.finish-effect.ensures.window.0 c.finish-effect.ensures.window.1 c.leave_out_copies.ensures in
    let steps = (grown _ _ _ _ c.args.ready.step c.agree.ensures.stock c.make_room.ensures.same.0 c.add.ensures.stock).all in
    let sent = (λ i. c.trim.ensures.gone i + length (c.trim.ensures.kept i)) ∙ count_after c.book.invariant.0 c.keeper.invariant c.agree.ensures.idle c.args.ready.step done c.leave_out_copies.new.self c.delivered-came.result c.delivered-came.ensures mid.gone mid.window mid.kept in
    let count = c.sent.ensures ∙ sent ∙ ap (λ l. length (run s c.book.inside.founders l).letters) (sym steps) in
    let gone = c.gone.ensures ∙ c.trim.ensures.gone ∙ gone_after c.book.invariant.0 c.keeper.invariant c.agree.ensures.idle c.args.ready.step done c.leave_out_copies.new.self c.delivered-came.result c.delivered-came.ensures mid.gone mid.window mid.kept ∙ ap (λ l. gone_of g.J.Terms.endless g.J.Terms.capacity (run s c.book.inside.founders l)) (sym steps) in
    ap (λ (m : MailState). numbers_of m.waiting) posted
    ∙ posted_waiting c.book.inside.founders c.book.inside.steps.all c.book.inside.steps.drawn c.book.inside.capacity c.book.inside.ahead m p n c.gone.result
    ∙ (λ i. waiting_after (kept_with c.book.inside.founders c.book.inside.steps.all c.book.inside.steps.drawn c.book.inside.capacity c.book.inside.ahead (c.make_room.ensures.same.3 i)) (c.new-posting.ensures.to i) (gone i) (count i))
    ∙ ap (λ b. waiting_after b (sent_by c.args.ready.step) (gone_of g.J.Terms.endless g.J.Terms.capacity (run s c.book.inside.founders c.add.new.self.all)) (length (run s c.book.inside.founders c.add.new.self.all).letters)) c.book.view_is

pub returns-clause-keeper : goal.returns-clause-keeper
returns-clause-keeper g c =
    let seen = ap (λ h. h.1) c.add.ensures.keeper ∙ ap (λ l. l ++ c.args.ready.step ∷ []) (still_all _ _ _ c.agree.ensures.stock c.make_room.ensures.same.0) ∙ ap (λ (b : BookView _). b.steps ++ c.args.ready.step ∷ []) c.book.view_is in
    λ i. record { name = (c.keeper.view_is i).name; node = c.finish-effect.new.node.state; room = c.finish-effect.new.node.room; beside = c.finish-effect.new.node.beside; tray = (c.keeper.view_is i).tray; seen = seen i }

pub returns-clause-node : goal.returns-clause-node
returns-clause-node g c =
    let s = g.Q.Quorums.system in
    let grew = grown _ _ _ _ c.args.ready.step c.agree.ensures.stock c.make_room.ensures.same.0 c.add.ensures.stock in
    let ready = ready_inside s _ _ _ _ c.args.ready c.book.view_is c.keeper.view_is c.requires in
    let step = half_here (whole_book c.book.invariant.0) c.keeper.invariant c.agree.ensures.idle c.args.ready.step c.keeper.inside.node.room c.keeper.inside.tray.items c.keeper.inside.holder.1 c.args.ready.half ready (option_copied c.as_ref.result) c.as_ref.ensures.value in
    let done = finished_here (whole_book c.book.invariant.0) c.keeper.invariant c.agree.ensures.idle c.args.ready.step c.keeper.inside.node.room c.keeper.inside.tray.items c.keeper.inside.holder.1 c.args.ready.half ready (option_copied c.as_ref.result) c.as_ref.ensures.value c.finish-effect.new.node c.finish-effect.result (c.finish-effect.ensures.node ready.act step) (c.finish-effect.ensures.beside ready.act step) (c.finish-effect.ensures.effect ready.act _ step (sent_room c.book.invariant.0 c.make_room.ensures.same.1)) in
    (λ i. node_at (state s (record { founders = c.book.inside.founders; steps = grew.all i; drawn = c.add.new.self.drawn; capacity = c.book.inside.capacity; ahead = c.book.inside.ahead; waiting = numbers_of c.post.new.self.waiting; lose = c.post.new.self.lose; twice = c.post.new.self.twice })) (sym c.keeper.view_is i).name) ∙ done.node

pub returns-clause-room : goal.returns-clause-room
returns-clause-room g c =
    let less : length c.book.inside.steps.all < c.book.inside.capacity = omega (arith, c.if-len-capacity.false, c.len.ensures, ap (λ (v : StockView _). length v.all) c.agree.ensures.stock) in
    subst (λ (b : BookView _). length b.steps < b.capacity) c.book.view_is less

pub invariant_of-book : goal.invariant_of-book
invariant_of-book g c = (still_book c.agree.new.self c.book.invariant.0 c.agree.ensures.stock, c.book.invariant.1, c.book.invariant.2)

pub returns-in_default-clause-told : goal.returns-in_default-clause-told
returns-in_default-clause-told g c = grind (arith, common_steps)

pub invariant_of-keeper : goal.invariant_of-keeper
invariant_of-keeper g c = grind (arith, common_steps)

pub invariant_of-keeper-in_default : goal.invariant_of-keeper-in_default
invariant_of-keeper-in_default g c = grind (arith, common_steps)

pub invariant_of-book-in_default : goal.invariant_of-book-in_default
invariant_of-book-in_default g c =
    let drawn = ap (λ (v : StockView _). v.drawn) c.make_room.ensures.same.0 ∙ ap (λ (v : StockView _). v.drawn) c.agree.ensures.stock in
    let room = c.make_room.ensures.same in (
      same_book c.make_room.new.steps.all c.make_room.new.letters c.make_room.new.kept c.make_room.new.steps.drawn c.book.invariant.0 (still_all _ _ _ c.agree.ensures.stock room.0) room.1 room.2 (omega (arith, drawn, c.book.invariant.0.few)) (λ is. drawn ∙ c.book.invariant.0.undrawn is),
      ap (λ (m : MailState). m.lose) room.3 ∙ c.book.invariant.1,
      ap (λ (m : MailState). m.twice) room.3 ∙ c.book.invariant.2,
    )

pub returns-in_default-clause-same : goal.returns-in_default-clause-same
returns-in_default-clause-same g c = grind (arith, common_steps)

pub invariant_of-book-then-at_hand-ahead : goal.invariant_of-book-then-at_hand-ahead
invariant_of-book-then-at_hand-ahead g c = (still_book c.agree.new.self c.book.invariant.0 c.agree.ensures.stock, c.book.invariant.1, c.book.invariant.2)

pub trim-requires-clause-one : goal.trim-requires-clause-one
trim-requires-clause-one g c =
    let mid = passed c.book.inside.letters c.make_room.new.letters c.finish-effect.new.letters c.leave_out_copies.new.self (letter_of c.args.ready.half) c.delivered-came.result c.make_room.ensures.same.1 c.finish-effect.ensures.letters c.finish-effect.ensures.window.0 c.finish-effect.ensures.window.1 c.leave_out_copies.ensures in
    one_past c.book.invariant.0 c.leave_out_copies.new.self (letter_of c.args.ready.half) _ mid.kept mid.window

pub trim-requires-clause-few : goal.trim-requires-clause-few
trim-requires-clause-few g c =
    let mid = passed c.book.inside.letters c.make_room.new.letters c.finish-effect.new.letters c.leave_out_copies.new.self (letter_of c.args.ready.half) c.delivered-came.result c.make_room.ensures.same.1 c.finish-effect.ensures.letters c.finish-effect.ensures.window.0 c.finish-effect.ensures.window.1 c.leave_out_copies.ensures in
    let less : length c.book.inside.steps.all < c.book.inside.capacity = omega (arith, c.if-len-capacity.false, c.len.ensures, ap (λ (v : StockView _). length v.all) c.agree.ensures.stock) in
    let few = few_past c.book.invariant.0 c.leave_out_copies.new.self (letter_of c.args.ready.half) _ mid.gone mid.kept in
    omega (arith, few, less, c.if-len-capacity.false, c.len.ensures)

pub sent-requires : goal.sent-requires
sent-requires g c =
    let mid = passed c.book.inside.letters c.make_room.new.letters c.finish-effect.new.letters c.leave_out_copies.new.self (letter_of c.args.ready.half) c.delivered-came.result c.make_room.ensures.same.1 c.finish-effect.ensures.letters c.finish-effect.ensures.window.0 c.finish-effect.ensures.window.1 c.leave_out_copies.ensures in
    let less : length c.book.inside.steps.all < c.book.inside.capacity = omega (arith, c.if-len-capacity.false, c.len.ensures, ap (λ (v : StockView _). length v.all) c.agree.ensures.stock) in
    let few = sent_then c.leave_out_copies.new.self c.trim.new.self c.trim.ensures.gone c.trim.ensures.kept (few_past c.book.invariant.0 c.leave_out_copies.new.self (letter_of c.args.ready.half) _ mid.gone mid.kept) in
    omega (arith, few, less, c.if-len-capacity.false, c.len.ensures)
