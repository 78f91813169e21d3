use Rattle.std.proofs.lemmas.Grind.{common_steps}
use Rattle.std.proofs.Common.{◌≡◌, length, None, ◌++◌, ◌∷◌, [], IfOk, IfErr, refl, sym, ap, ◌∙◌, subst, arith}
use Rattle.std.proofs.lemmas.Result.{on_ok_weaker, on_err_weaker}
use Rattle.rambo_names.specs.Refusals.{IsRefusal}
use Rattle.rambo_names.specs.declared.refusal.Refusal.TheVariants.{OutOfMemory}
use Rattle.rambo_run.specs.Runs.{run}
use Rattle.rambo_run.specs.Steps.{refusal, turn}
use Rattle.rambo_book.specs.declared.readied.Ready.{Ready}
use Rattle.rambo_book.specs.Readying.{IsReadyFor}
use Rattle.rambo_book.specs.Kept.{BookView, Told, state}
use Rattle.rambo_pass.specs.Passes.{IsRefusedHalf}
use Rattle.rambo_pass.proofs.Halves.{accepted_in, always, either_way}
use Rattle.rambo_pass.proofs.pass.finish_in.Goals as goal

pub returns-in-Err-clause-told : goal.returns-in-Err-clause-told
returns-in-Err-clause-told g c = λ st half. c.unready.ensures.told st half.own (subst (λ r. IfErr r (IsRefusedHalf g.Q.Quorums.system g.J.Terms.founders c.args.keeper.now st)) c.in-Err.is half.refused)

pub returns-in_default-clause-told : goal.returns-in_default-clause-told
returns-in_default-clause-told g c = λ st half.
    let s = g.Q.Quorums.system in
    let k = c.args.keeper.now in
    let own : c.in-Ok.ready.step ≡ st = subst (λ r. IfOk r (λ (r : Ready _). r.step ≡ st)) c.in-Ok.is half.made in
    let ready : IsReadyFor s g.J.Terms.founders k c.in-Ok.ready = subst (λ r. IfOk r (IsReadyFor s g.J.Terms.founders k)) c.in-Ok.is c.requires in
    c.unready-in_default.ensures.told st half.own (λ f is. subst (λ o. IsRefusal o OutOfMemory) (sym (accepted_in s g.J.Terms.founders k c.in-Ok.ready f is ready) ∙ ap (refusal s (run s f k.seen)) own) refl)

pub returns-clause-book : goal.returns-clause-book
returns-clause-book g c = λ st half.
    let own : c.in-Ok.ready.step ≡ st = subst (λ r. IfOk r (λ (r : Ready _). r.step ≡ st)) c.in-Ok.is half.made in
    on_ok_weaker c.commit_ready.result (λ e. ap (λ (b : BookView _). b.steps) e ∙ ap (λ st. c.args.book.now.steps ++ st ∷ []) own) c.commit_ready.ensures.book

pub returns-clause-accepted : goal.returns-clause-accepted
returns-clause-accepted g c = λ st half.
    let s = g.Q.Quorums.system in
    let own : c.in-Ok.ready.step ≡ st = subst (λ r. IfOk r (λ (r : Ready _). r.step ≡ st)) c.in-Ok.is half.made in
    always c.commit_ready.result (subst (λ st. refusal s (state s c.args.book.now) st ≡ None) own c.commit_ready.ensures.legal)

pub returns-clause-effect : goal.returns-clause-effect
returns-clause-effect g c = λ st half.
    let w = state g.Q.Quorums.system c.args.book.now in
    let own : c.in-Ok.ready.step ≡ st = subst (λ r. IfOk r (λ (r : Ready _). r.step ≡ st)) c.in-Ok.is half.made in
    subst (λ st. IfOk c.commit_ready.result (λ e. e ≡ (turn w st).effect)) own c.commit_ready.ensures.effect

pub returns-clause-told : goal.returns-clause-told
returns-clause-told g c = λ st half.
    let s = g.Q.Quorums.system in
    let b = c.args.book.now in
    let own : c.in-Ok.ready.step ≡ st = subst (λ r. IfOk r (λ (r : Ready _). r.step ≡ st)) c.in-Ok.is half.made in
    subst (λ o. IfErr c.commit_ready.result (λ r. Told o (length b.steps) b.capacity r)) (sym c.commit_ready.ensures.legal ∙ ap (refusal s (state s b)) own) c.commit_ready.ensures.told

pub returns-clause-room : goal.returns-clause-room
returns-clause-room g c = always c.commit_ready.result c.in-Ok-reserve.ensures.ok

pub returns-clause-same : goal.returns-clause-same
returns-clause-same g c = on_err_weaker c.commit_ready.result (λ e. e.0) c.commit_ready.ensures.same

pub returns-clause-founders : goal.returns-clause-founders
returns-clause-founders g c =
    either_way c.commit_ready.result (on_ok_weaker c.commit_ready.result (λ e. ap (λ (b : BookView _). b.founders) e) c.commit_ready.ensures.book) (on_err_weaker c.commit_ready.result (λ e. ap (λ (b : BookView _). b.founders) e.0) c.commit_ready.ensures.same)

pub unready-requires : goal.unready-requires
unready-requires g c = assumption

pub unready-requires-in_default : goal.unready-requires-in_default
unready-requires-in_default g c = assumption

pub returns-in-Err-clause-founders : goal.returns-in-Err-clause-founders
returns-in-Err-clause-founders g c = grind (arith, common_steps)

pub commit_ready-requires : goal.commit_ready-requires
commit_ready-requires g c = grind (arith, common_steps)

pub returns-in_default-clause-founders : goal.returns-in_default-clause-founders
returns-in_default-clause-founders g c = grind (arith, common_steps)
