use Rattle.std.proofs.lemmas.Grind.{common_steps}
use Rattle.std.proofs.Common.{◌≡◌, ◌++◌, ◌∷◌, [], None, length, inl, inr, ◌∙◌, sym, ap, subst, arith}
use mathlib.Core.List.{IsPrefix}
use Rattle.rambo_run.specs.Legal.{IsLegal}
use Rattle.rambo_run.specs.Steps.{refusal, turn}
use Rattle.rambo_run.proofs.Lists.{some_inj}
use Rattle.rambo_run.proofs.GoingOn.{prefix_self}
use Rattle.rambo_book.specs.Kept.{BookView, Told, state}
use Rattle.rambo_pass.specs.Passes.{PassView, mine_with}
use Rattle.rambo_pass.proofs.pass.act_ready_in.Goals as goal

pub returns-in-OutOfMemory-clause-begins : goal.returns-in-OutOfMemory-clause-begins
returns-in-OutOfMemory-clause-begins g c = subst (λ l. IsPrefix l c.begun-place.new.seen) (c.begun-place.ensures.seen ∙ ap (λ (v : PassView _). v.seen) c.pass.view_is) (prefix_self c.begun-place.new.seen)

pub returns-in-OutOfMemory-clause-between : goal.returns-in-OutOfMemory-clause-between
returns-in-OutOfMemory-clause-between g c = subst (λ l. IsPrefix l c.args.book.now.steps) (ap (λ (v : PassView _). v.seen) c.pass.view_is) c.begun-place.ensures.begins

pub returns-in_default-clause-begins : goal.returns-in_default-clause-begins
returns-in_default-clause-begins g c =
    let seen = c.begun-place.ensures.seen ∙ ap (λ (v : PassView _). v.seen) c.pass.view_is in
    subst (IsPrefix c.args.pass.now.seen) (sym c.show.ensures.seen) (subst (λ l. IsPrefix l c.finish_in.new.book.steps) seen c.show.ensures.begins)

pub returns-in_default-clause-between : goal.returns-in_default-clause-between
returns-in_default-clause-between g c = subst (λ l. IsPrefix l c.args.book.now.steps) (ap (λ (v : PassView _). v.seen) c.pass.view_is) c.begun-place.ensures.begins

pub returns-in_default-clause-memory : goal.returns-in_default-clause-memory
returns-in_default-clause-memory g c = λ is. absurd (c.in_default.not-OutOfMemory is)

pub returns-in_default-clause-cause : goal.returns-in_default-clause-cause
returns-in_default-clause-cause g c = λ st half.
    let s = g.Q.Quorums.system in
    subst (λ b. Told (refusal s (state s b) st) (length b.steps) b.capacity c.in-Err.cause) c.begun-place.ensures.book (c.in-Err.ensures.told st half)

pub returns-in_default-clause-shown : goal.returns-in_default-clause-shown
returns-in_default-clause-shown g c = inr (c.show.ensures.seen ∙ ap (λ (b : BookView _). b.steps) (c.in-Err.ensures.same ∙ c.begun-place.ensures.book))

pub returns-clause-begins : goal.returns-clause-begins
returns-clause-begins g c =
    let seen = c.begun-place.ensures.seen ∙ ap (λ (v : PassView _). v.seen) c.pass.view_is in
    subst (IsPrefix c.args.pass.now.seen) (sym c.show-2.ensures.seen) (subst (λ l. IsPrefix l c.finish_in.new.book.steps) seen c.show-2.ensures.begins)

pub returns-clause-between : goal.returns-clause-between
returns-clause-between g c = subst (λ l. IsPrefix l c.args.book.now.steps) (ap (λ (v : PassView _). v.seen) c.pass.view_is) c.begun-place.ensures.begins

pub returns-clause-last : goal.returns-clause-last
returns-clause-last g c = λ st half. c.show-2.ensures.seen ∙ c.in-Ok.ensures.book st half ∙ ap (λ (b : BookView _). b.steps ++ st ∷ []) c.begun-place.ensures.book

pub returns-clause-legal : goal.returns-clause-legal
returns-clause-legal g c =
    let s = g.Q.Quorums.system in
    subst (λ f. IsLegal s f c.show-2.new.seen) (some_inj _ _ (sym c.show-2.ensures.founders ∙ c.begun-place.ensures.founders))
    (subst (IsLegal s c.finish_in.new.book.founders) (sym c.show-2.ensures.seen) c.show-2.ensures.legal)

pub returns-clause-accepted : goal.returns-clause-accepted
returns-clause-accepted g c = λ st half.
    let s = g.Q.Quorums.system in
    subst (λ b. refusal s (state s b) st ≡ None) c.begun-place.ensures.book (c.in-Ok.ensures.accepted st half)

pub returns-clause-effect : goal.returns-clause-effect
returns-clause-effect g c = λ st half.
    let s = g.Q.Quorums.system in
    c.in-Ok.ensures.effect st half ∙ ap (λ b. (turn (state s b) st).effect) c.begun-place.ensures.book

pub returns-clause-mine : goal.returns-clause-mine
returns-clause-mine g c = c.note_call.ensures ∙ λ i. mine_with ((c.in-Ok.ensures.mine ∙ ap (λ (v : PassView _). v.mine) c.pass.view_is) i) (c.begun-place.ensures.count i) c.in-Ok.effect

pub returns-in-OutOfMemory-clause-cause : goal.returns-in-OutOfMemory-clause-cause
returns-in-OutOfMemory-clause-cause g c = λ st half.
    let s = g.Q.Quorums.system in
    subst (λ b. Told (refusal s (state s b) st) (length b.steps) b.capacity c.in-Err.cause) c.begun-place.ensures.book (c.in-Err.ensures.told st half)

pub returns-in-OutOfMemory-clause-shown : goal.returns-in-OutOfMemory-clause-shown
returns-in-OutOfMemory-clause-shown g c = inl c.in-OutOfMemory.is

pub finish_in-requires : goal.finish_in-requires
finish_in-requires g c = assumption

pub note_call-requires : goal.note_call-requires
note_call-requires g c = grind (arith, common_steps)

pub returns-in_default-clause-err : goal.returns-in_default-clause-err
returns-in_default-clause-err g c = grind (arith, common_steps)

pub invariant_of-pass-2 : goal.invariant_of-pass-2
invariant_of-pass-2 g c = grind (arith, common_steps)

pub invariant_of-pass-in_default : goal.invariant_of-pass-in_default
invariant_of-pass-in_default g c = grind (arith, common_steps)

pub invariant_of-pass : goal.invariant_of-pass
invariant_of-pass g c = grind (arith, common_steps)

pub returns-in-OutOfMemory-clause-err : goal.returns-in-OutOfMemory-clause-err
returns-in-OutOfMemory-clause-err g c = grind (arith, common_steps)

pub returns-in-OutOfMemory-clause-memory : goal.returns-in-OutOfMemory-clause-memory
returns-in-OutOfMemory-clause-memory g c = grind (arith, common_steps)
