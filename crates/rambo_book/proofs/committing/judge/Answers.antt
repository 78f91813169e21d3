use Rattle.std.proofs.lemmas.Grind.{common_steps}
use Rattle.std.proofs.Common.{◌∙◌, ◌<◌, ◌≤◌, false, length, refl, sym, ap, subst, arith}
use Rattle.rambo_node.specs.Acts.{meant_by}
use Rattle.rambo_run.specs.Steps.{refusal}
use Rattle.rambo_names.proofs.Sizes.{up_fits, back_fits}
use Rattle.std.specs.Option.{option_copied}
use Rattle.rambo_roll.specs.Stocks.{StockView}
use Rattle.rambo_book.specs.Kept.{BookView, state}
use Rattle.rambo_book.proofs.Refused.{refused_never_memory}
use Rattle.rambo_book.proofs.Commits.{served_inside, told_outside, verdict, told_refused, told_full}
use Rattle.rambo_book.proofs.Steps.{viewed}
use Rattle.rambo_book.proofs.Books.{meant_kept, there_inside, whole_book, still_book}
use Rattle.rambo_book.proofs.committing.judge.Goals as goal

pub returns-in-Err-clause-same : goal.returns-in-Err-clause-same
returns-in-Err-clause-same g c =
    (ap (λ v. viewed c.book.inside.founders v c.book.inside.capacity c.book.inside.ahead c.book.inside.mails) c.agree.ensures.stock ∙ c.book.view_is, (λ i. record { name = c.keeper.inside.name; node = c.keeper.inside.node.state; room = c.keeper.inside.node.room; beside = c.keeper.inside.node.beside; tray = c.keeper.inside.tray.items; seen = (c.agree.ensures.keeper i).1 }) ∙ c.keeper.view_is)

pub returns-in-Err-clause-told : goal.returns-in-Err-clause-told
returns-in-Err-clause-told g c =
    let s = g.Q.Quorums.system in
    let there = there_inside s g.J.Terms.endless g.J.Terms.capacity _ _ _ c.args.step.now false c.book.invariant.0.gone c.book.view_is c.requires.there in
    let means = ap (λ o. meant_by o c.args.step.now) c.named-letter.ensures ∙ meant_kept c.book.invariant.0 c.args.step.now there in
    let served = served_inside s _ _ _ _ c.args.step.now c.book.view_is c.keeper.view_is c.requires.served in
    told_outside s _ _ c.args.step.now c.in-Err.refusal c.book.view_is
    (told_refused (whole_book c.book.invariant.0) c.keeper.invariant c.agree.ensures.idle c.args.step.now served (option_copied c.named-letter.result) _ c.in-Err.refusal refl means c.in-Err.ensures.refused)

pub returns-then-len-book-clause-same : goal.returns-then-len-book-clause-same
returns-then-len-book-clause-same g c =
    (ap (λ v. viewed c.book.inside.founders v c.book.inside.capacity c.book.inside.ahead c.book.inside.mails) c.agree.ensures.stock ∙ c.book.view_is, (λ i. record { name = c.keeper.inside.name; node = c.keeper.inside.node.state; room = c.keeper.inside.node.room; beside = c.keeper.inside.node.beside; tray = c.keeper.inside.tray.items; seen = (c.agree.ensures.keeper i).1 }) ∙ c.keeper.view_is)

pub returns-then-len-book-clause-told : goal.returns-then-len-book-clause-told
returns-then-len-book-clause-told g c =
    let s = g.Q.Quorums.system in
    let there = there_inside s g.J.Terms.endless g.J.Terms.capacity _ _ _ c.args.step.now false c.book.invariant.0.gone c.book.view_is c.requires.there in
    let means = ap (λ o. meant_by o c.args.step.now) c.named-letter.ensures ∙ meant_kept c.book.invariant.0 c.args.step.now there in
    let served = served_inside s _ _ _ _ c.args.step.now c.book.view_is c.keeper.view_is c.requires.served in
    let full : c.book.inside.capacity ≤ length c.book.inside.steps.all = omega (arith, c.if-len-book.true, c.len.ensures, ap (λ (v : StockView _). length v.all) c.agree.ensures.stock) in
    told_outside s _ _ c.args.step.now _ c.book.view_is
    (told_full (whole_book c.book.invariant.0) c.keeper.invariant c.agree.ensures.idle c.args.step.now served (option_copied c.named-letter.result) _ refl means c.in_default.ensures.ok full)

pub judge-requires : goal.judge-requires
judge-requires g c = back_fits _ _ _ (up_fits _ _ _ c.requires-raw.1.1.1.0)

pub returns-clause-same : goal.returns-clause-same
returns-clause-same g c =
    (ap (λ v. viewed c.book.inside.founders v c.book.inside.capacity c.book.inside.ahead c.book.inside.mails) c.agree.ensures.stock ∙ c.book.view_is, (λ i. record { name = c.keeper.inside.name; node = c.keeper.inside.node.state; room = c.keeper.inside.node.room; beside = c.keeper.inside.node.beside; tray = c.keeper.inside.tray.items; seen = (c.agree.ensures.keeper i).1 }) ∙ c.keeper.view_is)

pub returns-clause-legal : goal.returns-clause-legal
returns-clause-legal g c =
    let s = g.Q.Quorums.system in
    let there = there_inside s g.J.Terms.endless g.J.Terms.capacity _ _ _ c.args.step.now false c.book.invariant.0.gone c.book.view_is c.requires.there in
    let means = ap (λ o. meant_by o c.args.step.now) c.named-letter.ensures ∙ meant_kept c.book.invariant.0 c.args.step.now there in
    let served = served_inside s _ _ _ _ c.args.step.now c.book.view_is c.keeper.view_is c.requires.served in
    ap (λ b. refusal s (state s b) c.args.step.now) (sym c.book.view_is) ∙ verdict (whole_book c.book.invariant.0) c.keeper.invariant c.agree.ensures.idle c.args.step.now served (option_copied c.named-letter.result) _ refl means ∙ c.in_default.ensures.ok

pub returns-clause-room : goal.returns-clause-room
returns-clause-room g c =
    let less : length c.book.inside.steps.all < c.book.inside.capacity = omega (arith, c.if-len-book.false, c.len.ensures, ap (λ (v : StockView _). length v.all) c.agree.ensures.stock) in
    subst (λ (b : BookView _). length b.steps < b.capacity) c.book.view_is less

pub returns-in-Err-clause-memory : goal.returns-in-Err-clause-memory
returns-in-Err-clause-memory g c = refused_never_memory g.Q.Quorums.system c.keeper.inside.node.state (meant_by (option_copied c.named-letter.result) c.args.step.now) c.in-Err.refusal c.in-Err.ensures.refused

pub invariant_of-book : goal.invariant_of-book
invariant_of-book g c = (still_book c.agree.new.self c.book.invariant.0 c.agree.ensures.stock, c.book.invariant.1, c.book.invariant.2)

pub invariant_of-book-2 : goal.invariant_of-book-2
invariant_of-book-2 g c = (still_book c.agree.new.self c.book.invariant.0 c.agree.ensures.stock, c.book.invariant.1, c.book.invariant.2)

pub invariant_of-keeper-2 : goal.invariant_of-keeper-2
invariant_of-keeper-2 g c = grind (arith, common_steps)

pub invariant_of-keeper : goal.invariant_of-keeper
invariant_of-keeper g c = grind (arith, common_steps)

pub invariant_of-keeper-then-len-book : goal.invariant_of-keeper-then-len-book
invariant_of-keeper-then-len-book g c = grind (arith, common_steps)

pub returns-then-len-book-clause-memory : goal.returns-then-len-book-clause-memory
returns-then-len-book-clause-memory g c = grind (arith, common_steps)

pub invariant_of-book-then-len-book : goal.invariant_of-book-then-len-book
invariant_of-book-then-len-book g c = (still_book c.agree.new.self c.book.invariant.0 c.agree.ensures.stock, c.book.invariant.1, c.book.invariant.2)
