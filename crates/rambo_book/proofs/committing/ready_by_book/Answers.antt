use Rattle.std.proofs.Common.{◌≡◌, None, false, refl, sym, ap, ◌∙◌, subst}
use Rattle.std.specs.Option.{option_copied}
use Rattle.rambo_names.specs.declared.refusal.Refusal.TheVariants.{OutOfMemory}
use Rattle.rambo_names.specs.Refusals.{IsRefusal}
use Rattle.rambo_names.proofs.Errors.{err_kept}
use Rattle.rambo_names.proofs.Sizes.{up_fits, back_fits}
use Rattle.rambo_node.proofs.Means.{refused_alike}
use Rattle.rambo_node.specs.Acts.{meant_by}
use Rattle.rambo_run.specs.Steps.{refusal}
use Rattle.rambo_book.specs.Kept.{KeeperView, state}
use Rattle.rambo_book.specs.Readying.{IsReadyIn}
use Rattle.rambo_book.proofs.Commits.{served_inside, verdict, ready_here}
use Rattle.rambo_book.proofs.Readying.{keeper_roomy}
use Rattle.rambo_book.proofs.Refused.{none_for_memory}
use Rattle.rambo_book.proofs.Steps.{viewed}
use Rattle.rambo_run.specs.Runs.{run}
use Rattle.rambo_book.proofs.Books.{letter_kept, meant_kept, there_inside, whole_book, still_book}
use Rattle.rambo_book.proofs.committing.ready_by_book.Goals as goal

pub begin-requires : goal.begin-requires
begin-requires g c = back_fits _ _ _ (up_fits _ _ _ c.requires-raw.1.1.1.0)

pub invariant_of-keeper : goal.invariant_of-keeper
invariant_of-keeper g c = keeper_roomy c.keeper.invariant (ap (λ h. h.0) c.agree.ensures.keeper) (ap (λ h. h.1) c.agree.ensures.keeper) (λ i. record { state = c.begin.ensures.same i; stamps = (c.begin.ensures.beside i).stamps; bases = (c.begin.ensures.beside i).bases })

pub returns-clause-same : goal.returns-clause-same
returns-clause-same g c = (
  ap (λ v. viewed c.book.inside.founders v c.book.inside.capacity c.book.inside.ahead c.book.inside.mails) c.agree.ensures.stock ∙ c.book.view_is,
  (λ i. record { name = c.keeper.inside.name; node = c.begin.ensures.same i; room = c.begin.new.self.room; beside = c.begin.ensures.beside i; tray = c.keeper.inside.tray.items; seen = (c.agree.ensures.keeper i).1 })
      ∙ ap (λ (k : KeeperView _). record k { room = c.begin.new.self.room }) c.keeper.view_is,
)

pub returns-clause-legal : goal.returns-clause-legal
returns-clause-legal g c =
    let s = g.Q.Quorums.system in
    let there = there_inside s g.J.Terms.endless g.J.Terms.capacity _ _ _ c.args.step false c.book.invariant.0.gone c.book.view_is c.requires.there in
    let means = ap (λ o. meant_by o c.args.step) c.named-letter.ensures ∙ meant_kept c.book.invariant.0 c.args.step there in
    let served = served_inside s _ _ _ _ c.args.step c.book.view_is c.keeper.view_is c.requires.served in
    ap (λ b. refusal s (state s b) c.args.step) (sym c.book.view_is)
    ∙ verdict (whole_book c.book.invariant.0) c.keeper.invariant c.agree.ensures.idle c.args.step served (option_copied c.named-letter.result) _ refl means
    ∙ c.in_ok-half.ensures.judged

pub returns-clause-ready : goal.returns-clause-ready
returns-clause-ready g c =
    let s = g.Q.Quorums.system in
    let there = there_inside s g.J.Terms.endless g.J.Terms.capacity _ _ _ c.args.step false c.book.invariant.0.gone c.book.view_is c.requires.there in
    let means = ap (λ o. meant_by o c.args.step) c.named-letter.ensures ∙ meant_kept c.book.invariant.0 c.args.step there in
    let served = served_inside s _ _ _ _ c.args.step c.book.view_is c.keeper.view_is c.requires.served in
    let legal = verdict (whole_book c.book.invariant.0) c.keeper.invariant c.agree.ensures.idle c.args.step served (option_copied c.named-letter.result) _ refl means ∙ c.in_ok-half.ensures.judged in
    let letter = c.named-letter.ensures ∙ letter_kept c.book.invariant.0 c.args.step there in
    subst (λ b. IsReadyIn s (state s b) (record { name = c.keeper.inside.name; node = c.begin.new.self.state; room = c.begin.new.self.room; beside = c.begin.new.self.beside; tray = c.keeper.inside.tray.items; seen = c.agree.new.keeper.1 }) (record { step = c.args.step; half = c.in_ok-half.half; letter = c.in_ok-letter.letter; asks = false })) c.book.view_is
    (subst (λ l. IsReadyIn s (run s c.book.inside.founders c.book.inside.steps.all) (record { name = c.keeper.inside.name; node = c.begin.new.self.state; room = c.begin.new.self.room; beside = c.begin.new.self.beside; tray = c.keeper.inside.tray.items; seen = c.agree.new.keeper.1 }) (record { step = c.args.step; half = c.in_ok-half.half; letter = l; asks = false })) (sym c.in_ok-letter.ensures.same)
    (ready_here (whole_book c.book.invariant.0) c.keeper.invariant c.agree.ensures.idle c.args.step served (option_copied c.named-letter.result) c.in_ok-half.half c.begin.new.self c.keeper.inside.tray.items c.agree.new.keeper.1 c.begin.ensures.same letter means legal c.in_ok-half.ensures.ready))

pub returns-in_err-half-clause-refused : goal.returns-in_err-half-clause-refused
returns-in_err-half-clause-refused g c =
    let s = g.Q.Quorums.system in
    let there = there_inside s g.J.Terms.endless g.J.Terms.capacity _ _ _ c.args.step false c.book.invariant.0.gone c.book.view_is c.requires.there in
    let means = ap (λ o. meant_by o c.args.step) c.named-letter.ensures ∙ meant_kept c.book.invariant.0 c.args.step there in
    let served = served_inside s _ _ _ _ c.args.step c.book.view_is c.keeper.view_is c.requires.served in
    let same = ap (λ b. refusal s (state s b) c.args.step) (sym c.book.view_is)
    ∙ verdict (whole_book c.book.invariant.0) c.keeper.invariant c.agree.ensures.idle c.args.step served (option_copied c.named-letter.result) _ refl means in
    err_kept c.from_residual.result (IsRefusal (refusal s (state s c.args.book.now) c.args.step)) _ c.from_residual.ensures.1 (refused_alike _ _ _ same c.in_err-half.ensures.refused)

pub returns-in_err-half-clause-memory : goal.returns-in_err-half-clause-memory
returns-in_err-half-clause-memory g c =
    let s = g.Q.Quorums.system in
    let there = there_inside s g.J.Terms.endless g.J.Terms.capacity _ _ _ c.args.step false c.book.invariant.0.gone c.book.view_is c.requires.there in
    let means = ap (λ o. meant_by o c.args.step) c.named-letter.ensures ∙ meant_kept c.book.invariant.0 c.args.step there in
    let served = served_inside s _ _ _ _ c.args.step c.book.view_is c.keeper.view_is c.requires.served in
    let same = ap (λ b. refusal s (state s b) c.args.step) (sym c.book.view_is)
    ∙ verdict (whole_book c.book.invariant.0) c.keeper.invariant c.agree.ensures.idle c.args.step served (option_copied c.named-letter.result) _ refl means in
    err_kept c.from_residual.result (λ r. r ≡ OutOfMemory → refusal s (state s c.args.book.now) c.args.step ≡ None) _ c.from_residual.ensures.1
    (λ short. same ∙ none_for_memory s c.keeper.inside.node.state (meant_by (option_copied c.named-letter.result) c.args.step) _ short c.in_err-half.ensures.refused)

pub invariant_of-book : goal.invariant_of-book
invariant_of-book g c = (still_book c.agree.new.self c.book.invariant.0 c.agree.ensures.stock, c.book.invariant.1, c.book.invariant.2)

pub invariant_of-book-in_err-half : goal.invariant_of-book-in_err-half
invariant_of-book-in_err-half g c = (still_book c.agree.new.self c.book.invariant.0 c.agree.ensures.stock, c.book.invariant.1, c.book.invariant.2)

pub invariant_of-book-2 : goal.invariant_of-book-2
invariant_of-book-2 g c = (still_book c.agree.new.self c.book.invariant.0 c.agree.ensures.stock, c.book.invariant.1, c.book.invariant.2)

pub returns-in_err-letter-clause-refused : goal.returns-in_err-letter-clause-refused
returns-in_err-letter-clause-refused g c =
    let s = g.Q.Quorums.system in
    let there = there_inside s g.J.Terms.endless g.J.Terms.capacity _ _ _ c.args.step false c.book.invariant.0.gone c.book.view_is c.requires.there in
    let means = ap (λ o. meant_by o c.args.step) c.named-letter.ensures ∙ meant_kept c.book.invariant.0 c.args.step there in
    let served = served_inside s _ _ _ _ c.args.step c.book.view_is c.keeper.view_is c.requires.served in
    let same = ap (λ b. refusal s (state s b) c.args.step) (sym c.book.view_is)
    ∙ verdict (whole_book c.book.invariant.0) c.keeper.invariant c.agree.ensures.idle c.args.step served (option_copied c.named-letter.result) _ refl means
    ∙ c.in_ok-half.ensures.judged in
    err_kept c.from_residual-in_err-letter.result (IsRefusal (refusal s (state s c.args.book.now) c.args.step)) _ c.from_residual-in_err-letter.ensures.1 (refused_alike _ None _ same c.in_err-letter.ensures.refused)

pub returns-in_err-letter-clause-memory : goal.returns-in_err-letter-clause-memory
returns-in_err-letter-clause-memory g c =
    let s = g.Q.Quorums.system in
    let there = there_inside s g.J.Terms.endless g.J.Terms.capacity _ _ _ c.args.step false c.book.invariant.0.gone c.book.view_is c.requires.there in
    let means = ap (λ o. meant_by o c.args.step) c.named-letter.ensures ∙ meant_kept c.book.invariant.0 c.args.step there in
    let served = served_inside s _ _ _ _ c.args.step c.book.view_is c.keeper.view_is c.requires.served in
    let same = ap (λ b. refusal s (state s b) c.args.step) (sym c.book.view_is)
    ∙ verdict (whole_book c.book.invariant.0) c.keeper.invariant c.agree.ensures.idle c.args.step served (option_copied c.named-letter.result) _ refl means
    ∙ c.in_ok-half.ensures.judged in
    err_kept c.from_residual-in_err-letter.result (λ r. r ≡ OutOfMemory → refusal s (state s c.args.book.now) c.args.step ≡ None) _ c.from_residual-in_err-letter.ensures.1 (λ short. same)

pub invariant_of-book-in_err-letter : goal.invariant_of-book-in_err-letter
invariant_of-book-in_err-letter g c = (still_book c.agree.new.self c.book.invariant.0 c.agree.ensures.stock, c.book.invariant.1, c.book.invariant.2)
