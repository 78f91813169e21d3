-- A set with one name more
use Rattle.std.proofs.Common.{◌≡◌, ℕ, true, ◌||◌, nat_eq, refl, ap, ◌∙◌, eq-eqb}
use Rattle.std.proofs.lemmas.Bool.{ne_eqb}
use Rattle.std.specs.Cmp.{nat_cmp_total, unsigned_tied}
use Rattle.std.specs.FinSet as set
use Rattle.std.specs.FinSet.{contains-insert}
use Rattle.rambo_names.specs.Names.{NameSet}

with_name : (s : NameSet) (n m : ℕ) → set.contains (set.insert s n) m ≡ (nat_eq m n || set.contains s m)
with_name s n m = contains-insert nat_cmp_total s n m ∙ ap (λ t. t || set.contains s m) (unsigned_tied m n)

pub own_in : (s : NameSet) (n : ℕ) → set.contains (set.insert s n) n ≡ true
own_in s n = with_name s n n ∙ ap (λ t. t || set.contains s n) (eq-eqb n n refl)

pub other_in : (s : NameSet) (n m : ℕ) → (m ≡ n → ⊥) → set.contains (set.insert s n) m ≡ set.contains s m
other_in s n m other = with_name s n m ∙ ap (λ t. t || set.contains s m) (ne_eqb m n other)
