-- The test for equal sets of names
use Rattle.std.specs.Prelude.{◌≡◌, Bool, true, false, ◌&&◌}
use Rattle.std.proofs.Common.{refl, sym, ap, ◌∙◌}
use Rattle.std.specs.Bool.{Decides}
use Rattle.std.proofs.lemmas.Bool.Decides.{same_from_decides}
use Rattle.std.specs.Cmp.{nat_cmp_total, IsEquivalence, IsPartialEquivalence, partial_equiv_from_equiv}
use Rattle.std.specs.FinSet.{contains, is_subset, is_subset-contains, contains-is_subset, same_set, nat_cmp-IsAntisymmetric}
use Rattle.rambo_names.specs.Names.{NameSet, same_names}

both : (a b : Bool) → (a && b) ≡ true → (a ≡ true) × (b ≡ true)
both true b e = (refl, e)
both false b e = cc

pub level : (a b : Bool) → (a ≡ true → b ≡ true) → (b ≡ true → a ≡ true) → a ≡ b
level true b f g = sym (f refl)
level false true f g = g refl
level false false f g = refl

pub same_names-path : (a b : NameSet) → same_names a b ≡ true → a ≡ b
same_names-path a b e =
    same_set nat_cmp_total nat_cmp-IsAntisymmetric a b (λ q. level (contains a q) (contains b q)
    (is_subset-contains nat_cmp_total a b (both _ _ e).0 q) (is_subset-contains nat_cmp_total b a (both _ _ e).1 q))

pub same_names-refl : (a : NameSet) → same_names a a ≡ true
same_names-refl a =
    let each = contains-is_subset nat_cmp_total a a (λ q h. h) in
    ap (λ t. t && is_subset a a) each ∙ each

pub same_names-decides : (a b : NameSet) → Decides (same_names a b) (a ≡ b)
same_names-decides a b = (same_names-path a b, λ e. ap (same_names a) (sym e) ∙ same_names-refl a)

pub same_names-equivalence : IsEquivalence same_names
same_names-equivalence = record {
  refl = same_names-refl;
  symm = λ x y. same_from_decides (same_names x y) (same_names y x) (same_names-decides x y)
      ((λ e. sym (same_names-path y x e)), λ e. ap (same_names y) e ∙ same_names-refl y);
  congr = λ x y z e. ap (λ w. same_names w z) (same_names-path x y e);
}

pub same_names-partial : IsPartialEquivalence same_names
same_names-partial = partial_equiv_from_equiv same_names-equivalence
