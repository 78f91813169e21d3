-- The lines that tell why
use Rattle.std.proofs.Common.{◌≡◌, ℕ, ◌<◌, length, true≢false, arith, Bool, true, false, cond, List, [], ◌∷◌, ◌++◌, map, Option, None, Some, IfSome, refl, sym, ap, ◌∙◌, subst, append_assoc}
use Rattle.std.specs.List.{AllByRecursion, IsDistinct}
use Rattle.std.specs.Map.{lookup}
use Rattle.std.specs.Str.{bytes_eq}
use Rattle.std.proofs.lemmas.Map.Keys.{IsDistinct-head, IsDistinct-tail}
use Rattle.std.proofs.lemmas.Slice.Eq.{bytes_eq-Decides}
use Rattle.rambo_atomic.specs.declared.verdict.Rule.{Rule}
use Rattle.rambo_atomic.specs.declared.verdict.Verdict.{Verdict}
use Rattle.rambo_atomic.specs.declared.verdict.Verdict.TheVariants.{No}
use Rattle.rambo_atomic.specs.Verdicts.{IsVerdict}
use Rattle.rambo_witness.specs.Witnesses.{Keeps}
use Rattle.rambo_witness.proofs.Broken.{no_is_broken_is}
use Rattle.rambo_check.specs.EvidenceStates.{EvidenceState}
use Rattle.rambo_check.specs.Reasons.{AreExplained, IsReason, IsVerdictWithin, order_within, shown_verdict}
use Rattle.rambo_check.specs.Verdicts.{AreVerdicts, IsVerdictOn, IsVerdictOnAll, order_of}
use Rattle.rambo_text.specs.declared.version.Version.{Version}
use Rattle.rambo_text.specs.declared.version.Version.TheVariants.{One, Two}

none-there : (k : List ℕ) (vs : List (List ℕ × Verdict)) → AllByRecursion (λ y. bytes_eq k y ≡ false) (map (λ v. v.0) vs) → lookup (bytes_eq k) vs ≡ None
none-there k [] all = refl
none-there k (v ∷ vs) all = ap (λ t. cond t (Some v.1) (lookup (bytes_eq k) vs)) all.0 ∙ none-there k vs all.1

each-of : (P : List ℕ → Verdict → Type 0) (vs : List (List ℕ × Verdict)) → IsDistinct bytes_eq (map (λ v. v.0) vs)
    → ((q : List ℕ) → IfSome (lookup (bytes_eq q) vs) (P q)) → AllByRecursion (λ (v : List ℕ × Verdict). P v.0 v.1) vs
each-of P [] once all = tt
each-of P (v ∷ vs) once all = (
  subst (λ t. IfSome (cond t (Some v.1) (lookup (bytes_eq v.0) vs)) (P v.0)) ((bytes_eq-Decides v.0 v.0).1 refl) (all v.0),
  each-of P vs (IsDistinct-tail bytes_eq v.0 (map (λ v. v.0) vs) once) (λ q. other q (bytes_eq q v.0) refl (all q)),
)
  where
    other : (q : List ℕ) (t : Bool) → bytes_eq q v.0 ≡ t → IfSome (cond t (Some v.1) (lookup (bytes_eq q) vs)) (P q) → IfSome (lookup (bytes_eq q) vs) (P q)
    other q false is right = right
    other q true is right =
        let none : lookup (bytes_eq q) vs ≡ None =
        ap (λ k. lookup (bytes_eq k) vs) ((bytes_eq-Decides q v.0).0 is) ∙ none-there v.0 vs (IsDistinct-head bytes_eq v.0 (map (λ v. v.0) vs) once) in
        subst (λ o. IfSome o (P q)) (sym none) tt

on-some : (s : EvidenceState) (q : List ℕ) (o : Option Verdict) → IsVerdictOn s q o → IfSome o (λ v. IsVerdict s.events q (order_of s q) v)
on-some s q None is = tt
on-some s q (Some v) is = is.1

-- each verdict that was given is right
pub each-right : (s : EvidenceState) (vs : List (List ℕ × Verdict)) → AreVerdicts s vs → AllByRecursion (λ (v : List ℕ × Verdict). IsVerdictWithin s (Some v.0) v.1) vs
each-right s vs are = each-of (λ q v. IsVerdict s.events q (order_of s q) v) vs are.each_once (λ q. on-some s q (lookup (bytes_eq q) vs) (are.verdict q))

-- a verdict more, with what stands behind it
pub told-more : (s : EvidenceState) (all rest : List (List ℕ × Verdict)) (key : List ℕ) (v : Verdict) (old out new reason : List ℕ)
    → ((text : List ℕ) → AreExplained s ((key, v) ∷ rest) text → AreExplained s all (old ++ text))
    → out ≡ old ++ shown_verdict key v → IsReason s (Some key) v reason → new ≡ out ++ reason
    → (text : List ℕ) → AreExplained s rest text → AreExplained s all (new ++ text)
told-more s all rest key v old out new reason so_far line is grown text told =
    subst (AreExplained s all)
    (sym (ap (λ l. l ++ text) (grown ∙ ap (λ l. l ++ reason) line ∙ append_assoc old (shown_verdict key v) reason) ∙ append_assoc old (shown_verdict key v ++ reason) text))
    (so_far (shown_verdict key v ++ reason ++ text) (reason, text, is, told, refl))

-- where the verdict is no there is a witness
pub no-keeps : (s : EvidenceState) (key : Option (List ℕ)) (rule : Rule) → IsVerdictWithin s key (No rule) → ¬ (Keeps rule s.events key (order_within s key))
no-keeps s None rule right = no_is_broken_is rule s.events None (order_within s None) right
no-keeps s (Some key) rule right = no_is_broken_is rule s.events (Some key) (order_within s (Some key)) right

-- the verdict on all keys, where there is one, is right
pub right-on-all : (version : Version) (s : EvidenceState) (on_all : Option Verdict) → IsVerdictOnAll version s on_all → IfSome on_all (IsVerdictWithin s None)
right-on-all One s on_all none = subst (λ o. IfSome o (IsVerdictWithin s None)) (sym none) tt
right-on-all Two s on_all some = subst (λ o. IfSome o (IsVerdictWithin s None)) (sym some.1) some.2

pub empty : {X : Type 0} (xs : List X) → (0 < length xs → false ≡ true) → xs ≡ []
empty [] f = refl
empty (x ∷ xs) f = absurd (true≢false (sym (f (omega arith))))
