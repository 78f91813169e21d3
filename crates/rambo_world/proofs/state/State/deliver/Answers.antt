use Rattle.std.proofs.Common.{◌≡◌, ◌∙◌, ◌-◌, ◌≤◌, max, None, Some, OnOk, OnErr, refl, sym, ap, subst}
use Rattle.rambo_names.specs.declared.refusal.Refusal.TheVariants.{NoSuchLetter}
use Rattle.rambo_names.specs.Refusals.{least}
use Rattle.rambo_node.specs.declared.effect.Effect.TheVariants as effect
use Rattle.rambo_node.specs.declared.step.StepOf.TheVariants as step
use Rattle.rambo_run.specs.Steps.{refusal, turn}
use Rattle.rambo_run.proofs.GoingOn.{after-refused}
use Rattle.rambo_gossip.specs.Outlines.{outlined}
use Rattle.rambo_letters.specs.Kept.{SentState, sent_at}
use Rattle.rambo_world.specs.Direct.{told_refusal}
use Rattle.rambo_world.specs.Hearing.{hear_refusal, IsHeard}
use Rattle.rambo_world.specs.Kept.{IsKept, IsSent, SameBarRoom}
use Rattle.rambo_world.specs.Deliveries.{world_of}
use Rattle.rambo_names.proofs.Errors.{on_err}
use Rattle.rambo_names.proofs.Sizes.{up_fits, back_fits, next}
use Rattle.rambo_world.proofs.Changing.{same_world}
use Rattle.rambo_world.proofs.Coming.{judged_sent, joins_with_none, kept_after, came}
use Rattle.rambo_world.proofs.Deliveries.{no_causes, sent_before}
use Rattle.rambo_world.proofs.Single.{refused_told, taken_told, taken_after}
use Rattle.rambo_world.proofs.Stepping.{kept_stays}
use Rattle.rambo_world.proofs.Turns.{deliver_refusal}
use Rattle.rambo_world.proofs.state.State.deliver.Goals as goal

pub get-requires : goal.get-requires
get-requires g c = back_fits _ _ _ (next _ _ _ _ (next _ _ _ _ (up_fits _ _ _ c.requires-raw.1.1)))

-- there is no such letter
no_letter : (g : _) (c : goal.In-None g) → refusal g.Q.Quorums.system c.args.self.now (step.Deliver c.args.number) ≡ Some NoSuchLetter
no_letter g c =
    let s = g.Q.Quorums.system in
    let ks = c.self.inside.nodes in
    let h = c.self.inside.chronicle.events in
    let ms = c.self.inside.chronicle.marks in
    subst (λ w. refusal s w (step.Deliver c.args.number) ≡ Some NoSuchLetter) c.self.view_is
    (deliver_refusal s (world_of ks c.self.inside.letters h ms) c.args.number ∙ ap least (no_causes ks c.self.inside.letters h ms c.args.number s (sym c.get.ensures ∙ c.in-None.is)))

pub returns-in-None-clause-told : goal.returns-in-None-clause-told
returns-in-None-clause-told g c = refused_told g.Q.Quorums.system c.args.self.now (step.Deliver c.args.number) NoSuchLetter (no_letter g c)

pub returns-in-None-clause-after : goal.returns-in-None-clause-after
returns-in-None-clause-after g c = sym (after-refused g.Q.Quorums.system c.args.self.now (step.Deliver c.args.number) NoSuchLetter (no_letter g c))

pub hear-requires : goal.hear-requires
hear-requires g c =
    let m : SentState _ = record { letter = c.sent.inside.letter; told = c.sent.inside.told } in
    let found : sent_at c.self.inside.letters c.args.number ≡ Some m = sym c.get.ensures ∙ c.in-Some.is ∙ ap Some (sym c.sent.view_is) in
    let sent = c.self.invariant.sent (c.args.number - 1) m (sent_before c.self.inside.letters c.args.number m found) in (
      back_fits _ _ _ (next _ _ _ _ (next _ _ _ _ (next _ _ _ _ (up_fits _ _ _ c.requires-raw.1.1)))),
      λ joins. subst (λ n. n ≤ c.of-before.result) (sym c.max.ensures) (joins_with_none c.self.inside.nodes m sent c.of-before.result joins),
    )

pub invariant_of-self : goal.invariant_of-self
invariant_of-self g c = kept_stays c.self.inside.nodes c.hear.new.self c.hear.ensures.grow c.self.inside.letters c.self.inside.merged c.self.invariant

pub returns-in_err-hear-clause-accepted : goal.returns-in_err-hear-clause-accepted
returns-in_err-hear-clause-accepted g c =
    let s = g.Q.Quorums.system in
    let m : SentState _ = record { letter = c.sent.inside.letter; told = c.sent.inside.told } in
    let found : sent_at c.self.inside.letters c.args.number ≡ Some m = sym c.get.ensures ∙ c.in-Some.is ∙ ap Some (sym c.sent.view_is) in
    on_err c.from_residual.result
    (subst (λ w. refusal s w (step.Deliver c.args.number) ≡ None) c.self.view_is
    (sym (judged_sent s c.self.inside.nodes c.self.inside.letters c.self.inside.chronicle.events c.self.inside.chronicle.marks c.args.number m found) ∙ c.in_err-hear.ensures.accepted))

pub returns-in_err-hear-clause-err : goal.returns-in_err-hear-clause-err
returns-in_err-hear-clause-err g c =
    on_err c.from_residual.result
    (same_world c.self.inside.nodes c.hear.new.self c.self.inside.letters c.self.inside.chronicle.events _ c.self.inside.chronicle.marks _ c.in_err-hear.ensures.err c.self.invariant.sent refl refl
    ∙ c.self.view_is)

-- the addressee refuses it, and stays
refused : (g : _) (c : goal.In-Err g) → refusal g.Q.Quorums.system c.args.self.now (step.Deliver c.args.number) ≡ Some c.in-Err.refusal
refused g c =
    let s = g.Q.Quorums.system in
    let m : SentState _ = record { letter = c.sent.inside.letter; told = c.sent.inside.told } in
    let found : sent_at c.self.inside.letters c.args.number ≡ Some m = sym c.get.ensures ∙ c.in-Some.is ∙ ap Some (sym c.sent.view_is) in
    subst (λ w. refusal s w (step.Deliver c.args.number) ≡ Some c.in-Err.refusal) c.self.view_is
    (sym (judged_sent s c.self.inside.nodes c.self.inside.letters c.self.inside.chronicle.events c.self.inside.chronicle.marks c.args.number m found) ∙ sym c.in_ok-hear.ensures.told ∙ ap told_refusal c.in-Err.is)

pub invariant_of-self-in-Err : goal.invariant_of-self-in-Err
invariant_of-self-in-Err g c = kept_stays c.self.inside.nodes c.hear.new.self c.hear.ensures.grow c.self.inside.letters c.self.inside.merged c.self.invariant

pub returns-in-Err-clause-told : goal.returns-in-Err-clause-told
returns-in-Err-clause-told g c = refused_told g.Q.Quorums.system c.args.self.now (step.Deliver c.args.number) c.in-Err.refusal (refused g c)

pub returns-in-Err-clause-after : goal.returns-in-Err-clause-after
returns-in-Err-clause-after g c =
    let stays = subst (λ r. OnErr r (SameBarRoom c.self.inside.nodes c.hear.new.self)) c.in-Err.is c.in_ok-hear.ensures.stays in
    same_world c.self.inside.nodes c.hear.new.self c.self.inside.letters c.self.inside.chronicle.events _ c.self.inside.chronicle.marks _ stays c.self.invariant.sent refl refl
    ∙ c.self.view_is ∙ sym (after-refused g.Q.Quorums.system c.args.self.now (step.Deliver c.args.number) c.in-Err.refusal (refused g c))

-- the letter that it hears
abbrev letter : (g : _) → goal.After-raise g → SentState g.row.Q.Denot
letter g c = let li = c.letter.inside in record { letter = record { sender = li.sender; addressee = li.addressee; kind = outlined li.gossip }; told = c.sent.inside.told }

found : (g : _) (c : goal.After-raise g) → sent_at c.self.inside.letters c.args.number ≡ Some (letter g c)
found g c = sym c.get.ensures ∙ c.in-Some.is ∙ ap Some (sym c.sent.view_is ∙ λ i. record { letter = sym c.letter.view_is i; told = c.sent.inside.told })

sent : (g : _) (c : goal.After-raise g) → IsSent c.self.inside.nodes (letter g c)
sent g c = c.self.invariant.sent (c.args.number - 1) (letter g c) (sent_before c.self.inside.letters c.args.number (letter g c) (found g c))

accepted : (g : _) (c : goal.After-raise g) → hear_refusal g.Q.Quorums.system c.self.inside.nodes (letter g c).letter ≡ None
accepted g c = ap (hear_refusal g.Q.Quorums.system c.self.inside.nodes) c.letter.view_is ∙ sym c.in_ok-hear.ensures.told ∙ ap told_refusal c.in-Ok.is

heard : (g : _) (c : goal.After-raise g) → IsHeard c.self.inside.nodes c.hear.new.self (letter g c).letter c.of-before.result (max c.of-before.result c.sent.inside.told)
heard g c =
    let ks = c.self.inside.nodes in
    let all = subst (λ r. OnOk r (IsHeard ks c.hear.new.self c.sent.inside.letter c.of-before.result c.max.result)) c.in-Ok.is c.in_ok-hear.ensures.heard in
    subst (λ n. IsHeard ks c.hear.new.self (letter g c).letter c.of-before.result n) c.max.ensures (subst (λ l. IsHeard ks c.hear.new.self l c.of-before.result c.max.result) (sym c.letter.view_is) all)

pub invariant_of-self-in-Ok : goal.invariant_of-self-in-Ok
invariant_of-self-in-Ok g c =
    subst (IsKept c.hear.new.self c.self.inside.letters) (sym c.raise.ensures)
    (kept_after g.Q.Quorums.system c.self.inside.nodes c.hear.new.self c.self.inside.letters c.self.inside.merged c.self.invariant c.hear.ensures.grow (letter g c) (sent g c)
    c.of-before.result c.of-before.ensures.to c.of-before.ensures.from c.of-before.ensures.count (accepted g c) (heard g c))

unrefused : (g : _) (c : goal.After-raise g) → refusal g.Q.Quorums.system c.args.self.now (step.Deliver c.args.number) ≡ None
unrefused g c =
    let s = g.Q.Quorums.system in
    subst (λ w. refusal s w (step.Deliver c.args.number) ≡ None) c.self.view_is
    (sym (judged_sent s c.self.inside.nodes c.self.inside.letters c.self.inside.chronicle.events c.self.inside.chronicle.marks c.args.number (letter g c) (found g c)) ∙ accepted g c)

turned : (g : _) (c : goal.After-raise g) → turn c.args.self.now (step.Deliver c.args.number)
    ≡ record { world = world_of c.hear.new.self c.self.inside.letters c.self.inside.chronicle.events c.self.inside.chronicle.marks; effect = effect.Done }
turned g c =
    ap (λ w. turn w (step.Deliver c.args.number)) (sym c.self.view_is)
    ∙ came g.Q.Quorums.system c.self.inside.nodes c.hear.new.self c.self.inside.letters c.self.inside.merged c.self.invariant c.hear.ensures.grow (letter g c) (sent g c)
    c.of-before.result c.of-before.ensures.to c.of-before.ensures.from c.of-before.ensures.count (accepted g c) (heard g c)
    c.self.inside.chronicle.events c.self.inside.chronicle.marks c.args.number (found g c)

pub returns-in-Ok-clause-told : goal.returns-in-Ok-clause-told
returns-in-Ok-clause-told g c =
    taken_told g.Q.Quorums.system c.args.self.now (step.Deliver c.args.number) (world_of c.hear.new.self c.self.inside.letters c.self.inside.chronicle.events c.self.inside.chronicle.marks) effect.Done (unrefused g c) (turned g c)

pub returns-in-Ok-clause-after : goal.returns-in-Ok-clause-after
returns-in-Ok-clause-after g c =
    taken_after g.Q.Quorums.system c.args.self.now (step.Deliver c.args.number) (world_of c.hear.new.self c.self.inside.letters c.self.inside.chronicle.events c.self.inside.chronicle.marks) effect.Done (unrefused g c) (turned g c)
