use Rattle.std.proofs.lemmas.Grind.{common_steps}
use Rattle.std.proofs.Common.{◌≡◌, Some, MatchOption, OnOk, IfOk, IfErr, sym, subst, arith}
use mathlib.Core.List.{IsPrefix}
use Rattle.rambo_names.proofs.Errors.{err_kept}
use Rattle.rambo_history.specs.Histories.{answer_in}
use Rattle.rambo_run.specs.Runs.{run}
use Rattle.rambo_run.specs.Legal.{IsLegal}
use Rattle.rambo_pass.specs.Passes.{PassView, IsTaken, WhyNot}
use Rattle.rambo_pass.proofs.Taken.{why_not_given}
use Rattle.rambo_post.proofs.post.Post.take_answer.Goals as goal

pub returns-in_err-answer-clause-cause : goal.returns-in_err-answer-clause-cause
returns-in_err-answer-clause-cause g c = err_kept c.from_residual.result _ _ c.from_residual.ensures.1 (λ f e. why_not_given g.Q.Quorums.system f g.J.Terms.endless c.in_err-answer.ensures.err (c.in_err-answer.ensures.cause f e))

pub returns-in-Some-clause-legal : goal.returns-in-Some-clause-legal
returns-in-Some-clause-legal g c =
    let s = g.Q.Quorums.system in
    let after = c.given.new.pass in
    let told = subst (λ a. MatchOption a (after ≡ c.args.pass.now) (λ b. (f : g.row.Q.Denot) → g.J.Terms.founders ≡ Some f → IsLegal s f after.seen × (answer_in (run s f after.seen).history c.args.id ≡ Some b))) c.in-Some.is c.in_ok-answer.ensures.given in
    λ f e. (told f e).0

pub returns-in-Some-clause-answer : goal.returns-in-Some-clause-answer
returns-in-Some-clause-answer g c =
    let s = g.Q.Quorums.system in
    let after = c.given.new.pass in
    let told = subst (λ a. MatchOption a (after ≡ c.args.pass.now) (λ b. (f : g.row.Q.Denot) → g.J.Terms.founders ≡ Some f → IsLegal s f after.seen × (answer_in (run s f after.seen).history c.args.id ≡ Some b))) c.in-Some.is c.in_ok-answer.ensures.given in
    λ f e. sym (told f e).1

pub returns-in-Some-clause-going : goal.returns-in-Some-clause-going
returns-in-Some-clause-going g c = λ f e none. absurd cc

pub returns-in-Some-clause-mine : goal.returns-in-Some-clause-mine
returns-in-Some-clause-mine g c = subst (λ a. IsTaken c.args.pass.now.mine c.args.id a c.given.new.pass.mine) c.in-Some.is c.in_ok-answer.ensures.mine

pub returns-clause-begins : goal.returns-clause-begins
returns-clause-begins g c =
    let s = g.Q.Quorums.system in
    let given = c.given.new.pass in
    let after = c.ungiven.new.pass in
    let stays = subst (λ a. MatchOption a (given ≡ c.args.pass.now) (λ b. (f : g.row.Q.Denot) → g.J.Terms.founders ≡ Some f → IsLegal s f given.seen × (answer_in (run s f given.seen).history c.args.id ≡ Some b))) c.in_default.is c.in_ok-answer.ensures.given in
    subst (λ (v : PassView _). OnOk c.ungiven.result (IsPrefix v.seen after.seen)) stays c.ungiven.ensures.begins

pub returns-clause-mine : goal.returns-clause-mine
returns-clause-mine g c =
    let s = g.Q.Quorums.system in
    let given = c.given.new.pass in
    let after = c.ungiven.new.pass in
    let stays = subst (λ a. MatchOption a (given ≡ c.args.pass.now) (λ b. (f : g.row.Q.Denot) → g.J.Terms.founders ≡ Some f → IsLegal s f given.seen × (answer_in (run s f given.seen).history c.args.id ≡ Some b))) c.in_default.is c.in_ok-answer.ensures.given in
    subst (λ (v : PassView _). IfOk c.ungiven.result (λ a. IsTaken v.mine c.args.id a after.mine)) stays c.ungiven.ensures.mine

pub returns-clause-cause : goal.returns-clause-cause
returns-clause-cause g c =
    let s = g.Q.Quorums.system in
    let given = c.given.new.pass in
    let after = c.ungiven.new.pass in
    let stays = subst (λ a. MatchOption a (given ≡ c.args.pass.now) (λ b. (f : g.row.Q.Denot) → g.J.Terms.founders ≡ Some f → IsLegal s f given.seen × (answer_in (run s f given.seen).history c.args.id ≡ Some b))) c.in_default.is c.in_ok-answer.ensures.given in
    subst (λ v. IfErr c.ungiven.result (λ r. (f : g.row.Q.Denot) → g.J.Terms.founders ≡ Some f → WhyNot s f g.J.Terms.endless v after c.args.id r)) stays c.ungiven.ensures.cause

pub ungiven-requires : goal.ungiven-requires
ungiven-requires g c = assumption

pub given-requires : goal.given-requires
given-requires g c = assumption

pub returns-clause-err : goal.returns-clause-err
returns-clause-err g c = grind (arith, common_steps)

pub returns-in-Some-clause-begins : goal.returns-in-Some-clause-begins
returns-in-Some-clause-begins g c = grind (arith, common_steps)
