use Rattle.std.proofs.Common.{None, false, refl, sym, ap, ◌∙◌, subst}
use Rattle.std.specs.Option.{option_copied}
use Rattle.rambo_names.specs.Refusals.{IsRefusal}
use Rattle.rambo_names.proofs.Errors.{err_kept}
use Rattle.rambo_names.proofs.Sizes.{up_fits, back_fits}
use Rattle.rambo_run.specs.Runs.{run}
use Rattle.rambo_run.specs.Steps.{refusal}
use Rattle.rambo_node.proofs.Means.{refused_alike}
use Rattle.rambo_book.specs.Kept.{KeeperView}
use Rattle.rambo_book.specs.Readying.{IsIn, IsReadyFor, came_in}
use Rattle.rambo_book.proofs.Readying.{keeper_roomy, tray_judged, tray_ready}
use Rattle.rambo_book.proofs.first_half.ready.Goals as goal

pub begin-requires : goal.begin-requires
begin-requires g c = back_fits _ _ _ (up_fits _ _ _ c.requires-raw.1.1.1.0)

pub invariant_of-keeper : goal.invariant_of-keeper
invariant_of-keeper g c = keeper_roomy c.keeper.invariant refl refl (λ i. record { state = c.begin.ensures.same i; stamps = (c.begin.ensures.beside i).stamps; bases = (c.begin.ensures.beside i).bases })

pub returns-clause-same : goal.returns-clause-same
returns-clause-same g c =
    (λ i. record { name = c.keeper.inside.name; node = c.begin.ensures.same i; room = c.begin.new.self.room; beside = c.begin.ensures.beside i; tray = c.keeper.inside.tray.items; seen = c.keeper.inside.holder.1 })
    ∙ ap (λ (k : KeeperView _). record k { room = c.begin.new.self.room }) c.keeper.view_is

pub returns-clause-ready : goal.returns-clause-ready
returns-clause-ready g c =
    let named = ap (λ (k : KeeperView _). k.name) c.keeper.view_is in
    let trays = ap (λ (k : KeeperView _). k.tray) c.keeper.view_is in
    subst (λ l. IsReadyFor g.Q.Quorums.system g.J.Terms.founders (record { name = c.keeper.inside.name; node = c.begin.new.self.state; room = c.begin.new.self.room; beside = c.begin.new.self.beside; tray = c.keeper.inside.tray.items; seen = c.keeper.inside.holder.1 }) (record { step = c.args.step; half = c.in_ok-half.half; letter = l; asks = false })) (sym c.in_ok-letter.ensures.same)
    (tray_ready c.keeper.invariant c.args.step
    (λ f e m is. c.requires.own f e m is ∙ sym named)
    (λ n is. subst (λ tray. IsIn tray n) (sym trays) (c.requires.in_tray n is))
    (option_copied c.letter_in-letter.result) (c.letter_in-letter.ensures ∙ ap (λ tray. came_in tray c.args.step) c.as_slice.ensures.value)
    c.in_ok-half.half c.begin.new.self c.begin.ensures.same c.in_ok-half.ensures.judged c.in_ok-half.ensures.ready)

pub returns-in_err-half-clause-refused : goal.returns-in_err-half-clause-refused
returns-in_err-half-clause-refused g c = λ f e.
    let s = g.Q.Quorums.system in
    let st = c.args.step in
    let named = ap (λ (k : KeeperView _). k.name) c.keeper.view_is in
    let trays = ap (λ (k : KeeperView _). k.tray) c.keeper.view_is in
    let saw = ap (λ (k : KeeperView _). k.seen) c.keeper.view_is in
    let judged = ap (λ seen. refusal s (run s f seen) st) (sym saw)
    ∙ tray_judged c.keeper.invariant st (λ f e m is. c.requires.own f e m is ∙ sym named) (λ n is. subst (λ tray. IsIn tray n) (sym trays) (c.requires.in_tray n is))
    (option_copied c.letter_in-letter.result) (c.letter_in-letter.ensures ∙ ap (λ tray. came_in tray st) c.as_slice.ensures.value) f e in
    err_kept c.from_residual.result (IsRefusal (refusal s (run s f c.args.keeper.now.seen) st)) _ c.from_residual.ensures.1 (refused_alike _ _ _ judged c.in_err-half.ensures.refused)

pub returns-in_err-letter-clause-refused : goal.returns-in_err-letter-clause-refused
returns-in_err-letter-clause-refused g c = λ f e.
    let s = g.Q.Quorums.system in
    let st = c.args.step in
    let named = ap (λ (k : KeeperView _). k.name) c.keeper.view_is in
    let trays = ap (λ (k : KeeperView _). k.tray) c.keeper.view_is in
    let saw = ap (λ (k : KeeperView _). k.seen) c.keeper.view_is in
    let judged = ap (λ seen. refusal s (run s f seen) st) (sym saw)
    ∙ tray_judged c.keeper.invariant st (λ f e m is. c.requires.own f e m is ∙ sym named) (λ n is. subst (λ tray. IsIn tray n) (sym trays) (c.requires.in_tray n is))
    (option_copied c.letter_in-letter.result) (c.letter_in-letter.ensures ∙ ap (λ tray. came_in tray st) c.as_slice.ensures.value) f e in
    err_kept c.from_residual-in_err-letter.result (IsRefusal (refusal s (run s f c.args.keeper.now.seen) st)) _ c.from_residual-in_err-letter.ensures.1 (refused_alike _ None _ (judged ∙ c.in_ok-half.ensures.judged) c.in_err-letter.ensures.refused)
