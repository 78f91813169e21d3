use Rattle.std.proofs.Common.{◌≡◌, List, [], ◌∷◌, ◌++◌, length, All, refl, sym, ap, ◌∙◌, subst, append_assoc, arith}
use Rattle.std.proofs.lemmas.List.{append-nil}
use Rattle.std.proofs.lemmas.List.Elements.{All-push}
use mathlib.Core.List.{IsPrefix}
use Rattle.rambo_run.specs.Legal.{IsLegal}
use Rattle.rambo_run.proofs.Lists.{some_inj}
use Rattle.rambo_book.specs.Kept.{BookView}
use Rattle.rambo_pass.proofs.ending.end_in.Goals as goal

pub loop-pass-preserved : goal.loop-pass-preserved
loop-pass-preserved g c = record {
  same = c.begins.ensures.book ∙ c.loop-pass.invariant.same;
  rest = append_assoc c.loop-pass.yielded (c.in-Some.pass ∷ []) c.next.new.self.rest.items ∙ ap (λ l. c.loop-pass.yielded ++ l) (sym (c.in-Some.ensures.steps.0)) ∙ c.loop-pass.invariant.rest;
  begins = All-push (λ p. IsPrefix p.seen c.args.book.steps) c.loop-pass.yielded c.in-Some.pass c.loop-pass.invariant.begins (subst (λ (b : BookView _). IsPrefix c.in-Some.pass.seen b.steps) c.loop-pass.invariant.same c.begins.ensures.begins);
}

nil_of : {A : Type 0} (xs : List A) → length xs ≡ 0 → xs ≡ []
nil_of [] e = refl
nil_of (x ∷ xs) e = absurd (omega arith)

pub returns-clause-begins : goal.returns-clause-begins
returns-clause-begins g c =
    let none : c.loop-pass.pass-iterator.rest.items ≡ [] = nil_of c.loop-pass.pass-iterator.rest.items (sym c.loop-pass.pass-iterator.rest.ok.0 ∙ c.in-None.ensures.steps.0) in
    let passed : c.loop-pass.yielded ≡ c.args.passes.items = sym (append-nil c.loop-pass.yielded) ∙ ap (λ l. c.loop-pass.yielded ++ l) (sym none) ∙ c.loop-pass.invariant.rest in
    let all = c.show-count.ensures.seen ∙ ap (λ (b : BookView _). b.steps) c.nothing-seen.ensures.book ∙ ap (λ (b : BookView _). b.steps) c.draw-has_drawn.ensures.book ∙ ap (λ (b : BookView _). b.steps) c.loop-pass.invariant.same in
    subst (λ l. All (λ p. IsPrefix p.seen l) c.args.passes.items) (sym all) (subst (λ l. All (λ p. IsPrefix p.seen c.args.book.steps) l) passed c.loop-pass.invariant.begins)

pub returns-clause-legal : goal.returns-clause-legal
returns-clause-legal g c =
    let all = c.show-count.ensures.seen ∙ ap (λ (b : BookView _). b.steps) c.nothing-seen.ensures.book ∙ ap (λ (b : BookView _). b.steps) c.draw-has_drawn.ensures.book ∙ ap (λ (b : BookView _). b.steps) c.loop-pass.invariant.same in
    subst (IsLegal g.Q.Quorums.system c.args.book.founders) (sym all) c.facts.ensures.legal

pub invariant_of-result : goal.invariant_of-result
invariant_of-result g c =
    let s = g.Q.Quorums.system in
    let all = c.show-count.ensures.seen ∙ ap (λ (b : BookView _). b.steps) c.nothing-seen.ensures.book ∙ ap (λ (b : BookView _). b.steps) c.draw-has_drawn.ensures.book ∙ ap (λ (b : BookView _). b.steps) c.loop-pass.invariant.same in
    let legal = subst (IsLegal s c.args.book.founders) (sym all) c.facts.ensures.legal in
    record {
      legal = λ f is. subst (λ f. IsLegal s f c.show-count.new.seen) (some_inj c.args.book.founders f (sym c.facts.ensures.founders ∙ is)) legal;
      fits = omega (arith, ap length all, c.facts.ensures.fits, c.facts.ensures.capacity);
    }

pub loop-pass-init : goal.loop-pass-init
loop-pass-init g c = record {
  same = refl;
  rest = c.into_iter-pass-iterator.ensures.into_iter_gives.0;
  begins = λ k d lt. absurd (omega (arith, lt));
}
