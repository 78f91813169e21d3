use Rattle.std.proofs.Common.{◌+◌, take, drop, refl, sym, ◌∙◌, subst, true≢false}
use Rattle.std.proofs.lemmas.List.{take_all}
use Rattle.std.specs.Option.{option_copied}
use Rattle.rambo_history.specs.Proper.{EverySplit}
use Rattle.rambo_history.proofs.Splits.{splits-nil}
use Rattle.rambo_witness.specs.Witnesses.{IsOwn}
use Rattle.rambo_witness.proofs.Fronts.{split-at, splits-push, take-item}
use Rattle.rambo_witness.proofs.Strangers.{own-from, own-keeps, own-to}
use Rattle.rambo_witness.proofs.stranger.first_stranger.Goals as goal

pub loop-id-init : goal.loop-id-init
loop-id-init c = splits-nil (λ front d back. IsOwn c.args.history.now.events (option_copied c.args.key) d)

pub returns-then-not-is_own : goal.returns-then-not-is_own
returns-then-not-is_own c =
    let h = c.args.history.now.events in
    let key = option_copied c.args.key in
    let order = c.args.order.now in
    let i = c.loop-id.id-index in
    let id = c.id-item.result in
    record {
      front = take i order;
      back = drop (i + 1) order;
      whole = split-at order i id (take-item order i id c.loop-id-test.true c.id-item.is);
      breaks = (λ own. true≢false (sym (own-from h key id own) ∙ sym c.is_own.ensures ∙ c.if-not-is_own.true), refl);
      first = own-keeps h key (take i order) c.loop-id.invariant;
    }

pub loop-id-preserved : goal.loop-id-preserved
loop-id-preserved c =
    let h = c.args.history.now.events in
    let key = option_copied c.args.key in
    let order = c.args.order.now in
    let i = c.loop-id.id-index in
    let id = c.id-item.result in
    subst (EverySplit (λ front d back. IsOwn h key d)) (sym (take-item order i id c.loop-id-test.true c.id-item.is))
    (splits-push (λ front d. IsOwn h key d) (take i order) id c.loop-id.invariant (own-to h key id (sym c.is_own.ensures ∙ c.if-not-is_own.false)))

pub returns : goal.returns
returns c =
    let h = c.args.history.now.events in
    let key = option_copied c.args.key in
    own-keeps h key c.args.order.now (subst (EverySplit (λ front d back. IsOwn h key d)) (take_all c.loop-id.id-index c.args.order.now c.loop-id-test.false) c.loop-id.invariant)
