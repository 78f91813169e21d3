use Rattle.std.proofs.lemmas.Grind.{common_steps}
use Rattle.std.proofs.Common.{◌≡◌, Some, None, MatchOption, refl, sym, ap, ◌∙◌, subst, inr, arith}
use mathlib.Core.List.{IsPrefix}
use Rattle.rambo_names.proofs.Errors.{err_kept}
use Rattle.rambo_run.specs.Legal.{IsLegal}
use Rattle.rambo_run.specs.Worlds.{node_at}
use Rattle.rambo_book.specs.Kept.{BookView, state}
use Rattle.rambo_pass.specs.Passes.{PassView, IsTaken}
use Rattle.rambo_pass.proofs.Taken.{refused_so}
use Rattle.rambo_pass.proofs.answer.take_in.Goals as goal

pub returns-in_err-answer-clause-cause : goal.returns-in_err-answer-clause-cause
returns-in_err-answer-clause-cause g c = err_kept c.from_residual.result _ _ c.from_residual.ensures.1 (refused_so c.in_err-answer.ensures.err c.in_err-answer.ensures.cause)

pub returns-in_err-answer-clause-answered : goal.returns-in_err-answer-clause-answered
returns-in_err-answer-clause-answered g c = err_kept c.from_residual.result _ _ c.from_residual.ensures.1 c.in_err-answer.ensures.answered

pub returns-in-Some-clause-going : goal.returns-in-Some-clause-going
returns-in-Some-clause-going g c = λ none. absurd cc

pub returns-then-stopped-clause-answered : goal.returns-then-stopped-clause-answered
returns-then-stopped-clause-answered g c = λ short bounded. absurd cc

pub returns-in-Some-clause-legal : goal.returns-in-Some-clause-legal
returns-in-Some-clause-legal g c =
    let after = c.take_given.new.pass in
    let seen = subst (λ a. MatchOption a (after ≡ c.args.pass.now) (λ _. after.seen ≡ c.args.book.now.steps)) c.in-Some.is c.in_ok-answer.ensures.seen in
    subst (IsLegal g.Q.Quorums.system c.args.book.now.founders) (sym seen) c.take_given.ensures.legal

pub returns-in-Some-clause-mine : goal.returns-in-Some-clause-mine
returns-in-Some-clause-mine g c = subst (λ a. IsTaken c.args.pass.now.mine c.args.id a c.take_given.new.pass.mine) c.in-Some.is c.in_ok-answer.ensures.mine

pub returns-then-stopped-clause-cause : goal.returns-then-stopped-clause-cause
returns-then-stopped-clause-cause g c =
    let s = g.Q.Quorums.system in
    let now = c.args.book.now in
    let x = c.args.keeper.now.node in
    let given = c.take_given.new.pass in
    let after = c.see_all.new.self in
    let stays = subst (λ a. MatchOption a (given ≡ c.args.pass.now) (λ _. given.seen ≡ now.steps)) c.in_default.is c.in_ok-answer.ensures.seen in
    let seen = ap (λ (v : PassView _). v.seen) c.see_all.ensures.pass in
    let all = seen ∙ ap (λ (b : BookView _). b.steps) (c.has_stopped-stopped.ensures.same.0 ∙ c.take_given.ensures.book) in
    let begins = subst (λ (v : PassView _). IsPrefix v.seen after.seen) stays (subst (IsPrefix given.seen) (sym seen) c.see_all.ensures.begins) in
    let none = sym c.in_ok-answer.ensures.answer ∙ c.in_default.is in
    let there = subst (λ n. node_at (state s now) n ≡ Some x) c.requires (subst (λ b. node_at (state s b) c.args.keeper.now.name ≡ Some x) c.take_given.ensures.book c.has_stopped-stopped.ensures.node) in
    let noted = c.in_ok-answer.ensures.mine in
    inr (inr (refl, (noted.0, noted.1.0), all, begins, none, (x, (there, sym c.has_stopped-stopped.ensures.stopped ∙ c.if-stopped.true))))

pub returns-clause-begins : goal.returns-clause-begins
returns-clause-begins g c =
    let given = c.take_given.new.pass in
    let after = c.see_all.new.self in
    let stays = subst (λ a. MatchOption a (given ≡ c.args.pass.now) (λ _. given.seen ≡ c.args.book.now.steps)) c.in_default.is c.in_ok-answer.ensures.seen in
    subst (λ (v : PassView _). IsPrefix v.seen after.seen) stays (subst (IsPrefix given.seen) (sym (ap (λ (v : PassView _). v.seen) c.see_all.ensures.pass)) c.see_all.ensures.begins)

pub returns-clause-going : goal.returns-clause-going
returns-clause-going g c = λ none.
    let s = g.Q.Quorums.system in
    let now = c.args.book.now in
    let x = c.args.keeper.now.node in
    let there = subst (λ n. node_at (state s now) n ≡ Some x) c.requires (subst (λ b. node_at (state s b) c.args.keeper.now.name ≡ Some x) c.take_given.ensures.book c.has_stopped-stopped.ensures.node) in
    (x, (there, sym c.has_stopped-stopped.ensures.stopped ∙ c.if-stopped.false))

pub returns-clause-legal : goal.returns-clause-legal
returns-clause-legal g c =
    let all = ap (λ (v : PassView _). v.seen) c.see_all.ensures.pass ∙ ap (λ (b : BookView _). b.steps) (c.has_stopped-stopped.ensures.same.0 ∙ c.take_given.ensures.book) in
    subst (IsLegal g.Q.Quorums.system c.args.book.now.founders) (sym all) c.take_given.ensures.legal

pub returns-clause-mine : goal.returns-clause-mine
returns-clause-mine g c =
    let noted = subst (λ a. IsTaken c.args.pass.now.mine c.args.id a c.take_given.new.pass.mine) c.in_default.is c.in_ok-answer.ensures.mine in
    subst (IsTaken c.args.pass.now.mine c.args.id None) (sym (ap (λ (v : PassView _). v.mine) c.see_all.ensures.pass)) noted

pub has_stopped-stopped-requires : goal.has_stopped-stopped-requires
has_stopped-stopped-requires g c = assumption

pub returns-in-Some-clause-begins : goal.returns-in-Some-clause-begins
returns-in-Some-clause-begins g c = grind (arith, common_steps)

pub returns-in-Some-clause-seen : goal.returns-in-Some-clause-seen
returns-in-Some-clause-seen g c = grind (arith, common_steps)

pub returns-in-Some-clause-answer : goal.returns-in-Some-clause-answer
returns-in-Some-clause-answer g c = grind (arith, common_steps)

pub returns-clause-answer : goal.returns-clause-answer
returns-clause-answer g c = grind (arith, common_steps)

pub returns-clause-same : goal.returns-clause-same
returns-clause-same g c = grind (arith, common_steps)

pub returns-then-stopped-clause-same : goal.returns-then-stopped-clause-same
returns-then-stopped-clause-same g c = grind (arith, common_steps)

pub returns-clause-seen : goal.returns-clause-seen
returns-clause-seen g c = grind (arith, common_steps)

pub returns-then-stopped-clause-err : goal.returns-then-stopped-clause-err
returns-then-stopped-clause-err g c = grind (arith, common_steps)
