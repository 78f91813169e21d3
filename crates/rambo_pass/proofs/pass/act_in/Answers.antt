use Rattle.std.proofs.lemmas.Grind.{common_steps}
use Rattle.std.proofs.Common.{◌≡◌, false, length, ◌∙◌, sym, ap, subst, arith}
use mathlib.Core.List.{IsPrefix}
use Rattle.rambo_run.specs.Legal.{IsLegal}
use Rattle.rambo_run.proofs.Lists.{some_inj}
use Rattle.rambo_book.specs.Kept.{BookView, KeeperView, IsServedBy, Told, state}
use Rattle.rambo_book.specs.Windows.{delivers_gone, gone_of, refused_in}
use Rattle.rambo_pass.specs.Passes.{PassView, mine_with}
use Rattle.rambo_run.proofs.GoingOn.{prefix_self}
use Rattle.rambo_pass.proofs.Acts.{told_free}
use Rattle.rambo_pass.proofs.pass.act_in.Goals as goal

pub may_commit-requires : goal.may_commit-requires
may_commit-requires g c = (
  c.requires-raw.1.1.1.0,
  subst (λ b. delivers_gone (gone_of g.J.Terms.endless g.J.Terms.capacity (state g.Q.Quorums.system b)) c.args.step ≡ false → IsServedBy (state g.Q.Quorums.system b) c.args.step c.args.keeper.now.name) (sym c.begun-place.ensures.book) c.requires,
)

pub commit-requires : goal.commit-requires
commit-requires g c = (
  c.requires-raw.1.1.1.0,
  subst (λ b. delivers_gone (gone_of g.J.Terms.endless g.J.Terms.capacity (state g.Q.Quorums.system b)) c.args.step ≡ false → IsServedBy (state g.Q.Quorums.system b) c.args.step c.may_commit.new.keeper.name)
      (sym (c.may_commit.ensures.same.0 ∙ c.begun-place.ensures.book))
      (subst (λ (k : KeeperView _). delivers_gone (gone_of g.J.Terms.endless g.J.Terms.capacity (state g.Q.Quorums.system c.args.book.now)) c.args.step ≡ false → IsServedBy (state g.Q.Quorums.system c.args.book.now) c.args.step k.name) (sym c.may_commit.ensures.same.1) c.requires),
)

pub returns-in-Err-clause-begins : goal.returns-in-Err-clause-begins
returns-in-Err-clause-begins g c =
    let seen = c.begun-place.ensures.seen ∙ ap (λ (v : PassView _). v.seen) c.pass.view_is in
    subst (IsPrefix c.args.pass.now.seen) (sym c.show.ensures.seen) (subst (λ l. IsPrefix l c.may_commit.new.book.steps) seen c.show.ensures.begins)

pub returns-in-Err-clause-between : goal.returns-in-Err-clause-between
returns-in-Err-clause-between g c = subst (λ l. IsPrefix l c.args.book.now.steps) (ap (λ (v : PassView _). v.seen) c.pass.view_is) c.begun-place.ensures.begins

pub returns-in_default-reserve-clause-begins : goal.returns-in_default-reserve-clause-begins
returns-in_default-reserve-clause-begins g c = subst (λ l. IsPrefix l c.begun-place.new.seen) (c.begun-place.ensures.seen ∙ ap (λ (v : PassView _). v.seen) c.pass.view_is) (prefix_self c.begun-place.new.seen)

pub returns-in_default-reserve-clause-between : goal.returns-in_default-reserve-clause-between
returns-in_default-reserve-clause-between g c = subst (λ l. IsPrefix l c.args.book.now.steps) (ap (λ (v : PassView _). v.seen) c.pass.view_is) c.begun-place.ensures.begins

pub returns-in_default-commit-clause-begins : goal.returns-in_default-commit-clause-begins
returns-in_default-commit-clause-begins g c = subst (λ l. IsPrefix l c.begun-place.new.seen) (c.begun-place.ensures.seen ∙ ap (λ (v : PassView _). v.seen) c.pass.view_is) (prefix_self c.begun-place.new.seen)

pub returns-in_default-commit-clause-between : goal.returns-in_default-commit-clause-between
returns-in_default-commit-clause-between g c = subst (λ l. IsPrefix l c.args.book.now.steps) (ap (λ (v : PassView _). v.seen) c.pass.view_is) c.begun-place.ensures.begins

pub returns-clause-begins : goal.returns-clause-begins
returns-clause-begins g c =
    let seen = c.begun-place.ensures.seen ∙ ap (λ (v : PassView _). v.seen) c.pass.view_is in
    subst (IsPrefix c.args.pass.now.seen) (sym c.show-2.ensures.seen) (subst (λ l. IsPrefix l c.commit.new.book.steps) seen c.show-2.ensures.begins)

pub returns-clause-between : goal.returns-clause-between
returns-clause-between g c = subst (λ l. IsPrefix l c.args.book.now.steps) (ap (λ (v : PassView _). v.seen) c.pass.view_is) c.begun-place.ensures.begins

pub returns-clause-mine : goal.returns-clause-mine
returns-clause-mine g c =
    c.note_call.ensures ∙ λ i. mine_with ((c.reserve.ensures.entries ∙ ap (λ (v : PassView _). v.mine) c.pass.view_is) i) (c.begun-place.ensures.count i) c.in-Ok-commit.effect

pub note_call-requires : goal.note_call-requires
note_call-requires g c = c.in-Ok.ensures.ok

pub returns-clause-legal : goal.returns-clause-legal
returns-clause-legal g c =
    let s = g.Q.Quorums.system in
    subst (λ f. IsLegal s f c.show-2.new.seen) (some_inj _ _ (sym c.show-2.ensures.founders ∙ c.begun-place.ensures.founders))
    (subst (IsLegal s c.commit.new.book.founders) (sym c.show-2.ensures.seen) c.show-2.ensures.legal)

pub returns-clause-effect : goal.returns-clause-effect
returns-clause-effect g c = grind (arith, common_steps)

pub invariant_of-pass-in_default-commit : goal.invariant_of-pass-in_default-commit
invariant_of-pass-in_default-commit g c = grind (arith, common_steps)

pub returns-in_default-reserve-clause-err : goal.returns-in_default-reserve-clause-err
returns-in_default-reserve-clause-err g c = grind (arith, common_steps)

pub returns-in_default-reserve-clause-cause : goal.returns-in_default-reserve-clause-cause
returns-in_default-reserve-clause-cause g c = told_free g.Q.Quorums.system g.J.Terms.endless g.J.Terms.capacity c.args.book.now c.begun-place.new.self c.args.step c.begun-place.ensures.book c.in_default.ensures.legal c.in_default.ensures.there c.in_default.ensures.room

pub invariant_of-pass-2 : goal.invariant_of-pass-2
invariant_of-pass-2 g c = grind (arith, common_steps)

pub returns-in_default-reserve-clause-memory : goal.returns-in_default-reserve-clause-memory
returns-in_default-reserve-clause-memory g c = grind (arith, common_steps)

pub returns-in-Err-clause-memory : goal.returns-in-Err-clause-memory
returns-in-Err-clause-memory g c = grind (arith, common_steps)

pub returns-in-Err-clause-cause : goal.returns-in-Err-clause-cause
returns-in-Err-clause-cause g c =
    let s = g.Q.Quorums.system in
    subst (λ (b : BookView _). Told (refused_in s g.J.Terms.endless g.J.Terms.capacity (state s b) c.args.step) (length b.steps) b.capacity c.in-Err.refusal) c.begun-place.ensures.book c.in-Err.ensures.told

pub returns-clause-accepted : goal.returns-clause-accepted
returns-clause-accepted g c = grind (arith, common_steps)

pub returns-in-Err-clause-err : goal.returns-in-Err-clause-err
returns-in-Err-clause-err g c = grind (arith, common_steps)

pub returns-in_default-commit-clause-err : goal.returns-in_default-commit-clause-err
returns-in_default-commit-clause-err g c = grind (arith, common_steps)

pub invariant_of-pass : goal.invariant_of-pass
invariant_of-pass g c = grind (arith, common_steps)

pub returns-in_default-commit-clause-cause : goal.returns-in_default-commit-clause-cause
returns-in_default-commit-clause-cause g c = told_free g.Q.Quorums.system g.J.Terms.endless g.J.Terms.capacity c.args.book.now c.begun-place.new.self c.args.step c.begun-place.ensures.book c.in_default.ensures.legal c.in_default.ensures.there c.in_default.ensures.room

pub invariant_of-pass-in_default-reserve : goal.invariant_of-pass-in_default-reserve
invariant_of-pass-in_default-reserve g c = grind (arith, common_steps)

pub returns-clause-last : goal.returns-clause-last
returns-clause-last g c = grind (arith, common_steps)

pub returns-in_default-commit-clause-memory : goal.returns-in_default-commit-clause-memory
returns-in_default-commit-clause-memory g c = grind (arith, common_steps)

pub returns-clause-there : goal.returns-clause-there
returns-clause-there g c =
    subst (λ b. delivers_gone (gone_of g.J.Terms.endless g.J.Terms.capacity (state g.Q.Quorums.system b)) c.args.step ≡ false) c.begun-place.ensures.book c.in_default.ensures.there
