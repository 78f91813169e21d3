use Rattle.std.proofs.Common.{rules, ◌≡◌, ◌++◌, ◌∷◌, [], ℕ, List, Some, refl, sym, ◌∙◌, subst, append-nil}
use Rattle.std.specs.List.{AllByRecursion}
use Rattle.rambo_atomic.specs.declared.verdict.Verdict.{Verdict}
use Rattle.rambo_check.specs.Reasons.{AreExplained, IsVerdictWithin}
use Rattle.rambo_check.proofs.Explained.{each-right, empty, told-more}
use Rattle.rambo_check.proofs.explaining.explained_text.Goals as goal

pub loop-key-init : goal.loop-key-init
loop-key-init c =
    let s = c.args.evidence.now in
    let entries = c.args.verdicts.now.entries in (
      λ text told.
          subst (λ l. AreExplained s entries (l ++ text)) (sym c.new-out.ensures.items) (subst (λ vs. AreExplained s vs text) c.as_slice-rest.ensures.entries told),
      subst (AllByRecursion (λ (v : List ℕ × Verdict). IsVerdictWithin s (Some v.0) v.1)) (sym c.as_slice-rest.ensures.entries) (each-right s entries c.requires.right),
      c.requires.history,
    )

pub loop-key-preserved : goal.loop-key-preserved
loop-key-preserved c =
    let s = c.args.evidence.now in
    let entries = c.args.verdicts.now.entries in
    let told = c.in_ok-explain.ensures.told in
    let parts : c.loop-key.rest ≡ (c.in-Some.key.now, c.in-Some.verdict.now) ∷ c.in-Some.others = search rules in (
      told-more s entries c.in-Some.others c.in-Some.key.now c.in-Some.verdict.now c.loop-key.out.items c.write_shown_verdict.new.out.items c.explain.new.out.items told.0
          (λ text is. c.loop-key.invariant.0 text (subst (λ vs. AreExplained s vs text) (sym parts) is)) c.in_ok-write_shown_verdict.ensures.ok told.1 told.2,
      (subst (AllByRecursion (λ (v : List ℕ × Verdict). IsVerdictWithin s (Some v.0) v.1)) parts c.loop-key.invariant.1).1,
      c.explain.ensures.same ∙ c.loop-key.invariant.2,
    )

pub returns-clause-text : goal.returns-clause-text
returns-clause-text c =
    let s = c.args.evidence.now in
    let entries = c.args.verdicts.now.entries in
    let none : c.loop-key.rest ≡ [] = empty c.loop-key.rest c.in_default.ensures.found.1 in
    subst (AreExplained s entries) (append-nil c.loop-key.out.items) (c.loop-key.invariant.0 [] (subst (λ vs. AreExplained s vs []) (sym none) refl))
