use Rattle.std.proofs.Common.{◌≡◌, IfOk, refl, sym, ap, ◌∙◌, subst}
use Rattle.rambo_node.specs.declared.step.StepOf.TheVariants as step
use Rattle.rambo_node.specs.Acts.{Meant}
use Rattle.rambo_run.specs.Steps.{refusal, turn}
use Rattle.rambo_run.proofs.Lists.{some_inj}
use Rattle.rambo_book.specs.Kept.{state}
use Rattle.rambo_book.specs.Readying.{IsReadyFor}
use Rattle.rambo_book.specs.declared.readied.Ready.{Ready}
use Rattle.rambo_turn.proofs.Told.{send_sent}
use Rattle.rambo_turn.proofs.sending.send_in.Goals as goal

pub why_not-requires : goal.why_not-requires
why_not-requires g c = (c.requires-raw.1.1.1.0, (refl, λ m e. ap (λ (m : Meant _). m.name) (some_inj m _ (sym e)) ∙ sym c.requires.name))

pub commit_ready-requires : goal.commit_ready-requires
commit_ready-requires g c =
    let agreed = g.J.Terms.founders in
    let k = c.args.keeper.now in
    (c.requires-raw.1.1.1.0, c.asking_if.ensures.ready agreed k (subst (λ r. IfOk r (IsReadyFor g.Q.Quorums.system agreed k)) c.in-Ok.is c.requires.ready))

pub unreachable-requires : goal.unreachable-requires
unreachable-requires g c =
    let s = g.Q.Quorums.system in
    let w = state s c.args.book.now in
    let own = c.asking_if.ensures.step ∙ subst (λ r. IfOk r (λ (r : Ready _). r.step ≡ step.Send c.args.from c.args.to)) c.in-Ok.is c.requires.step in
    let e = c.in_ok-number.ensures in
    let r = send_sent s w c.args.from c.args.to (ap (refusal s w) (sym own) ∙ e.legal) in
    c.in_default-2.not-Sent r.0 (e.effect ∙ ap (λ st. (turn w st).effect) own ∙ r.1)
