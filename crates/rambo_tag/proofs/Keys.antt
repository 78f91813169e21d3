-- When two keys are one
use Rattle.std.proofs.Common.{◌≡◌, ◌≢◌, ℕ, Bool, true, false, List, Ordering, refl, sym, ap, ◌∙◌}
use Rattle.std.specs.Ordering.{nat_cmp, eq_by_cmp, is_eq}
use Rattle.std.specs.Cmp.{Equal-is}
use Rattle.std.specs.Cmp.Lexicographic.{slice_cmp}
use Rattle.std.specs.FinMap.{slice_cmp-IsAntisymmetric, nat_cmp-IsAntisymmetric}
use Rattle.std.proofs.lemmas.Cmp.{nat_list_cmp_total, tied_itself}
use Rattle.std.specs.Str.{bytes_eq}
use Rattle.std.proofs.lemmas.Bool.Decides.{same_from_decides}
use Rattle.std.proofs.lemmas.Slice.Eq.{bytes_eq-Decides}

abbrev pub key_cmp : List ℕ → List ℕ → Ordering
key_cmp = slice_cmp nat_cmp

-- both are one key
abbrev pub same_key : List ℕ → List ℕ → Bool
same_key = eq_by_cmp key_cmp

pub same_key-itself : (key : List ℕ) → same_key key key ≡ true
same_key-itself key = ap is_eq (tied_itself nat_list_cmp_total key)

pub same_key-true : (a b : List ℕ) → same_key a b ≡ true → a ≡ b
same_key-true a b h = slice_cmp-IsAntisymmetric nat_cmp-IsAntisymmetric a b ((Equal-is (key_cmp a b)).0 h)

pub same_key-false : (a b : List ℕ) → a ≢ b → same_key a b ≡ false
same_key-false a b apart =
    elim (same_key a b) as (λ t. same_key a b ≡ t → t ≡ false) [
      | true ↦ λ h. absurd (apart (same_key-true a b h))
      | false ↦ λ h. refl
    ] refl

pub bytes_eq-itself : (a : List ℕ) → bytes_eq a a ≡ true
bytes_eq-itself a = (bytes_eq-Decides a a).1 refl

pub bytes_eq-true : (a b : List ℕ) → bytes_eq a b ≡ true → a ≡ b
bytes_eq-true a b h = (bytes_eq-Decides a b).0 h

pub same_key-bytes_eq : (a b : List ℕ) → same_key a b ≡ bytes_eq a b
same_key-bytes_eq a b =
    same_from_decides _ _ (same_key-true a b, λ e. ap (same_key a) (sym e) ∙ same_key-itself a) (bytes_eq-Decides a b)
