use Rattle.std.proofs.lemmas.Grind.{common_steps}
use Rattle.std.proofs.Common.{◌<◌, ◌∷◌, [], if◌then◌else◌, length, drop, suc, slice_get, refl, sym, ap, ◌∙◌, subst, arith}
use Rattle.rambo_book.specs.Kept.{BookView, KeeperView, state}
use Rattle.rambo_mail.specs.Waiting.{waiting_for, with_waiting}
use Rattle.rambo_book.specs.Windows.{gone_of}
use Rattle.rambo_book.specs.Mailing.{sent_to, IsBehind, AreTaken}
use Rattle.rambo_names.proofs.Errors.{on_err}
use Rattle.rambo_book.proofs.Taking.{none_taken, next_below, one_more, all_taken, fewer}
use Rattle.rambo_book.proofs.mail.take_mail.Goals as goal

pub take_letter-requires : goal.take_letter-requires
take_letter-requires g c = (c.requires-raw.1.1.1.0, ap (λ (k : KeeperView _). k.seen) c.loop-entry.invariant.1 ∙ c.requires ∙ ap (λ (b : BookView _). b.steps) (sym c.loop-entry.invariant.0))

pub returns-then-has_stopped-clause-all : goal.returns-then-has_stopped-clause-all
returns-then-has_stopped-clause-all g c =
    let b = c.args.book.now in
    let k = c.args.keeper.now in
    let w = state g.Q.Quorums.system b in
    let gone = gone_of g.J.Terms.endless g.J.Terms.capacity w in
    subst (λ count. AreTaken w gone k.name count b.waiting b.waiting k.tray k.tray) (ap (λ t. if t then 0 else length (waiting_for b.waiting k.name)) c.if-has_stopped.ensures) (none_taken w gone k.name b.waiting k.tray)

pub loop-entry-init : goal.loop-entry-init
loop-entry-init g c =
    let b = c.args.book.now in
    let k = c.args.keeper.now in
    (refl, refl, 0, omega arith, none_taken (state g.Q.Quorums.system b) (gone_of g.J.Terms.endless g.J.Terms.capacity (state g.Q.Quorums.system b)) k.name b.waiting k.tray)

pub loop-entry-smaller : goal.loop-entry-smaller
loop-entry-smaller g c =
    let b = c.loop-entry.book in
    let named = c.name-name.ensures in
    let first = c.in-Some.ensures ∙ ap (λ n. slice_get (waiting_for b.waiting n) 0) named in
    let rest = ap (λ (b : BookView _). b.waiting) c.drop_mail.ensures ∙ ap (λ n. with_waiting b.waiting n (drop 1 (waiting_for b.waiting n))) named in
    fewer b.waiting c.drop_mail.new.self.waiting c.args.keeper.now.name c.in-Some.entry.number first rest

pub loop-entry-preserved : goal.loop-entry-preserved
loop-entry-preserved g c =
    let s = g.Q.Quorums.system in
    let b = c.args.book.now in
    let k = c.args.keeper.now in
    let w = state s b in
    let gone = gone_of g.J.Terms.endless g.J.Terms.capacity w in
    let book = c.loop-entry.book in
    let keeper = c.loop-entry.keeper in
    let inv = c.loop-entry.invariant in
    let number = c.in-Some.entry.number in
    let tray = c.take_letter.new.keeper.tray in
    let named = c.name-name.ensures in
    let first = c.in-Some.ensures ∙ ap (λ n. slice_get (waiting_for book.waiting n) 0) named in
    let rest = ap (λ (b : BookView _). b.waiting) c.drop_mail.ensures ∙ ap (λ n. with_waiting book.waiting n (drop 1 (waiting_for book.waiting n))) named in
    let behind : IsBehind keeper.tray (sent_to w gone k.name (number ∷ [])) tray =
    subst (λ n. IsBehind keeper.tray (sent_to w gone n (number ∷ [])) tray) (ap (λ (k : KeeperView _). k.name) inv.1)
    (subst (λ (b : BookView _). IsBehind keeper.tray (sent_to (state s b) (gone_of g.J.Terms.endless g.J.Terms.capacity (state s b)) keeper.name (number ∷ [])) tray) inv.0 c.in_ok-take_letter.ensures.tray) in
    let below = next_below w gone k.name b.waiting k.tray inv.2 number book.waiting keeper.tray inv.4 first in (
      c.drop_mail.ensures ∙ ap (λ (x : BookView _). record x { waiting = with_waiting book.waiting c.name-name.result (drop 1 (waiting_for book.waiting c.name-name.result)) }) inv.0
          ∙ (λ i. record b { waiting = sym (ap (λ (b : BookView _). b.waiting) c.drop_mail.ensures) i }),
      c.in_ok-take_letter.ensures.keeper ∙ ap (λ (x : KeeperView _). record x { tray = tray }) inv.1,
      suc inv.2,
      omega (arith, below),
      subst (λ lists. AreTaken w gone k.name (suc inv.2) b.waiting lists k.tray tray) (sym rest) (one_more w gone k.name b.waiting k.tray inv.2 number book.waiting keeper.tray tray inv.4 first behind),
    )

pub returns-in_err-take_letter-clause-some : goal.returns-in_err-take_letter-clause-some
returns-in_err-take_letter-clause-some g c =
    let b = c.args.book.now in
    let k = c.args.keeper.now in
    let w = state g.Q.Quorums.system b in
    let gone = gone_of g.J.Terms.endless g.J.Terms.capacity w in
    let book = c.loop-entry.book in
    let keeper = c.loop-entry.keeper in
    let inv = c.loop-entry.invariant in
    let first = c.in-Some.ensures ∙ ap (λ n. slice_get (waiting_for book.waiting n) 0) c.name-name.ensures in
    let below = next_below w gone k.name b.waiting k.tray inv.2 c.in-Some.entry.number book.waiting keeper.tray inv.4 first in
    on_err c.from_residual.result (
      inv.2,
      subst (λ most. inv.2 < most) (ap (λ t. if t then 0 else length (waiting_for b.waiting k.name)) c.if-has_stopped.ensures) below,
      subst (λ tray. AreTaken w gone k.name inv.2 b.waiting book.waiting k.tray tray) (sym (ap (λ (k : KeeperView _). k.tray) c.in_err-take_letter.ensures.err)) inv.4,
    )

pub returns-clause-all : goal.returns-clause-all
returns-clause-all g c =
    let b = c.args.book.now in
    let k = c.args.keeper.now in
    let w = state g.Q.Quorums.system b in
    let gone = gone_of g.J.Terms.endless g.J.Terms.capacity w in
    let book = c.loop-entry.book in
    let keeper = c.loop-entry.keeper in
    let inv = c.loop-entry.invariant in
    let ended = c.in_default.ensures ∙ ap (λ n. slice_get (waiting_for book.waiting n) 0) c.name-name.ensures in
    subst (λ count. AreTaken w gone k.name count b.waiting book.waiting k.tray keeper.tray)
    (all_taken w gone k.name b.waiting k.tray inv.2 book.waiting keeper.tray inv.4 inv.3 ended ∙ ap (λ t. if t then 0 else length (waiting_for b.waiting k.name)) c.if-has_stopped.ensures) inv.4

pub name-name-requires : goal.name-name-requires
name-name-requires g c = assumption

pub has_stopped-requires : goal.has_stopped-requires
has_stopped-requires g c = assumption

pub returns-in_err-take_letter-clause-keeper : goal.returns-in_err-take_letter-clause-keeper
returns-in_err-take_letter-clause-keeper g c = grind (arith, common_steps)
