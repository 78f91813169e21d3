use Rattle.std.proofs.Common.{◌≡◌, ◌≤◌, List, [], ◌∷◌, ◌++◌, length, Some, IfOk, All, Vec, refl, sym, ap, ◌∙◌, subst, append_assoc, arith}
use Rattle.std.proofs.lemmas.List.{append-nil}
use Rattle.std.proofs.lemmas.List.Elements.{All-push}
use mathlib.Core.List.{IsPrefix}
use Rattle.rambo_history.specs.Proper.{IsProperForAll}
use Rattle.rambo_run.specs.Runs.{given_order}
use Rattle.rambo_book.specs.Kept.{BookView, state}
use Rattle.rambo_run.specs.Legal.{IsLegal}
use Rattle.rambo_pass.proofs.Closes.{closes, if_there}
use Rattle.rambo_pass.proofs.closing.close_in.Goals as goal

pub loop-pass-preserved : goal.loop-pass-preserved
loop-pass-preserved g c = record {
  same = c.begins.ensures.book ∙ c.loop-pass.invariant.same;
  rest = append_assoc c.loop-pass.yielded (c.in-Some.pass ∷ []) c.next.new.self.rest.items ∙ ap (λ l. c.loop-pass.yielded ++ l) (sym (c.in-Some.ensures.steps.0)) ∙ c.loop-pass.invariant.rest;
  begins = All-push (λ p. IsPrefix p.seen c.args.book.steps) c.loop-pass.yielded c.in-Some.pass c.loop-pass.invariant.begins (subst (λ (b : BookView _). IsPrefix c.in-Some.pass.seen b.steps) c.loop-pass.invariant.same c.begins.ensures.begins);
}

nil_of : {A : Type 0} (xs : List A) → length xs ≡ 0 → xs ≡ []
nil_of [] e = refl
nil_of (x ∷ xs) e = absurd (omega arith)

pub returns-clause-begins : goal.returns-clause-begins
returns-clause-begins g c =
    let same = c.all_seen-seen.ensures.book ∙ c.loop-pass.invariant.same in
    let none : c.loop-pass.pass-iterator.rest.items ≡ [] = nil_of c.loop-pass.pass-iterator.rest.items (sym c.loop-pass.pass-iterator.rest.ok.0 ∙ c.in-None.ensures.steps.0) in
    let all : c.loop-pass.yielded ≡ c.args.passes.items = sym (append-nil c.loop-pass.yielded) ∙ ap (λ l. c.loop-pass.yielded ++ l) (sym none) ∙ c.loop-pass.invariant.rest in
    let steps : c.args.book.steps ≡ c.into_steps.result.items = ap (λ (b : BookView _). b.steps) (sym same) ∙ sym (c.into_steps.ensures.undrawn c.requires) in
    subst (λ l. All (λ p. IsPrefix p.seen c.into_steps.result.items) l) all (subst (λ l. All (λ p. IsPrefix p.seen l) c.loop-pass.yielded) steps c.loop-pass.invariant.begins)

pub returns-clause-legal : goal.returns-clause-legal
returns-clause-legal g c =
    let same = c.all_seen-seen.ensures.book ∙ c.loop-pass.invariant.same in
    subst (λ (b : BookView _). IsLegal g.Q.Quorums.system b.founders c.into_steps.result.items) same (subst (IsLegal g.Q.Quorums.system c.all_seen-seen.new.book.founders) (sym (c.into_steps.ensures.undrawn c.requires)) c.into_steps.ensures.legal)

pub returns-clause-all : goal.returns-clause-all
returns-clause-all g c =
    let same = c.all_seen-seen.ensures.book ∙ c.loop-pass.invariant.same in
    c.into_steps.ensures.undrawn c.requires ∙ ap (λ (b : BookView _). b.steps) same

pub loop-pass-init : goal.loop-pass-init
loop-pass-init g c = record {
  same = refl;
  rest = c.into_iter-pass-iterator.ensures.into_iter_gives.0;
  begins = λ k d lt. absurd (omega (arith, lt));
}

pub returns-clause-founders : goal.returns-clause-founders
returns-clause-founders g c =
    let same = c.all_seen-seen.ensures.book ∙ c.loop-pass.invariant.same in
    c.into_steps.ensures.founders ∙ ap (λ (b : BookView _). Some b.founders) same

pub returns-clause-order : goal.returns-clause-order
returns-clause-order g c =
    let s = g.Q.Quorums.system in
    let same = c.all_seen-seen.ensures.book ∙ c.loop-pass.invariant.same in
    let given = subst (λ b. IfOk c.order.result (λ o. o.items ≡ given_order (state s b))) same c.order.ensures.given in
    if_there (λ (v : Vec _ _). v.items) (λ o. o ≡ given_order (state s c.args.book)) c.order.result c.ok-order.result c.ok-order.ensures.value given

pub returns-clause-explained : goal.returns-clause-explained
returns-clause-explained g c =
    let s = g.Q.Quorums.system in
    let same = c.all_seen-seen.ensures.book ∙ c.loop-pass.invariant.same in
    let explained = subst (λ b. IfOk c.order.result (λ o. IsProperForAll (state s b).history o.items)) same c.order.ensures.explained in
    if_there (λ (v : Vec _ _). v.items) (λ o. IsProperForAll (state s c.args.book).history o) c.order.result c.ok-order.result c.ok-order.ensures.value explained

pub invariant_of-result : goal.invariant_of-result
invariant_of-result g c =
    let s = g.Q.Quorums.system in
    let same = c.all_seen-seen.ensures.book ∙ c.loop-pass.invariant.same in
    let steps = c.into_steps.ensures.undrawn c.requires ∙ ap (λ (b : BookView _). b.steps) same in
    let seen = c.all_seen-seen.ensures.seen ∙ ap (λ (b : BookView _). b.steps) c.loop-pass.invariant.same in
    let founded = c.into_steps.ensures.founders ∙ ap (λ (b : BookView _). Some b.founders) same in
    let legal = subst (λ (b : BookView _). IsLegal s b.founders c.into_steps.result.items) same (subst (IsLegal s c.all_seen-seen.new.book.founders) (sym (c.into_steps.ensures.undrawn c.requires)) c.into_steps.ensures.legal) in
    let given = subst (λ b. IfOk c.order.result (λ o. o.items ≡ given_order (state s b))) same c.order.ensures.given in
    let explained = subst (λ b. IfOk c.order.result (λ o. IsProperForAll (state s b).history o.items)) same c.order.ensures.explained in
    closes s g.J.Terms.founders g.J.Terms.capacity c.args.book _ _ founded seen steps legal (subst (λ l. length l ≤ g.J.Terms.capacity) (sym (c.into_steps.ensures.undrawn c.requires)) c.into_steps.ensures.fits)
    (if_there (λ (v : Vec _ _). v.items) (λ o. o ≡ given_order (state s c.args.book)) c.order.result c.ok-order.result c.ok-order.ensures.value given)
    (if_there (λ (v : Vec _ _). v.items) (λ o. IsProperForAll (state s c.args.book).history o) c.order.result c.ok-order.result c.ok-order.ensures.value explained)

pub order-requires : goal.order-requires
order-requires g c = c.requires

pub returns-clause-fits : goal.returns-clause-fits
returns-clause-fits g c = subst (λ l. length l ≤ g.J.Terms.capacity) (sym (c.into_steps.ensures.undrawn c.requires)) c.into_steps.ensures.fits
