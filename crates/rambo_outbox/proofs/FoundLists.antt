-- What is found in one go is what is wished for
use Rattle.std.proofs.Common.{◌≡◌, ℕ, max, Bool, true, false, ◌||◌, nat_le, List, [], ◌∷◌, ◌++◌, Option, None, Some, option_to_list, fold, refl, sym, ap, ◌∙◌}
use Rattle.std.proofs.lemmas.List.Sums.{fold-append}
use Rattle.std.specs.List.{list_any}
use Rattle.rambo_outbox.specs.declared.found.Found.{Found}
use Rattle.rambo_outbox.specs.Found.{nothing_found, found_one, found_in}
use Rattle.rambo_outbox.specs.Wishes.{greatest}

or_assoc : (a b c : Bool) → ((a || b) || c) ≡ (a || (b || c))
or_assoc true b c = refl
or_assoc false b c = refl

or_false : (a : Bool) → (a || false) ≡ a
or_false true = refl
or_false false = refl

under_way : (asked : ℕ) (ns : List ℕ) (f : Found) → (found_in asked ns f).is_under_way ≡ (f.is_under_way || list_any (λ n. nat_le n asked) ns)
under_way asked [] f = sym (or_false f.is_under_way)
under_way asked (n ∷ ns) f = under_way asked ns (found_one asked f n) ∙ or_assoc f.is_under_way (nat_le n asked) (list_any (λ m. nat_le m asked) ns)

pub found-under_way : (asked : ℕ) (ns : List ℕ) → (found_in asked ns nothing_found).is_under_way ≡ list_any (λ n. nat_le n asked) ns
found-under_way asked ns = under_way asked ns nothing_found

some : (asked : ℕ) (ns : List ℕ) (f : Found) → f.is_some ≡ true → (found_in asked ns f).is_some ≡ true
some asked [] f is = is
some asked (n ∷ ns) f is = some asked ns (found_one asked f n) refl

pub found-some : (asked : ℕ) (ns : List ℕ) → (found_in asked ns nothing_found).is_some ≡ list_any (λ n. true) ns
found-some asked [] = refl
found-some asked (n ∷ ns) = some asked ns (found_one asked nothing_found n) refl

last : (asked : ℕ) (ns : List ℕ) (f : Found) → (found_in asked ns f).greatest ≡ fold max f.greatest ns
last asked [] f = refl
last asked (n ∷ ns) f = last asked ns (found_one asked f n)

pub found-greatest : (asked : ℕ) (ns : List ℕ) → (found_in asked ns nothing_found).greatest ≡ greatest ns
found-greatest asked ns = last asked ns nothing_found

none_more : {A : Type 0} (xs : List A) → xs ++ [] ≡ xs
none_more [] = refl
none_more (x ∷ xs) = ap (λ ys. x ∷ ys) (none_more xs)

-- with a collection, or without
pub found_with : (asked : ℕ) (ps : List ℕ) (o : Option ℕ) (n : ℕ) (f g : Found) → o ≡ Some n → f ≡ found_in asked ps nothing_found → g ≡ found_one asked f n → g ≡ found_in asked (ps ++ option_to_list o) nothing_found
found_with asked ps o n f g is before after =
    after ∙ ap (λ h. found_one asked h n) before ∙ sym (fold-append (found_one asked) nothing_found ps (n ∷ []))
    ∙ ap (λ r. found_in asked (ps ++ option_to_list r) nothing_found) (sym is)

pub found_without : (asked : ℕ) (ps : List ℕ) (o : Option ℕ) (f : Found) → o ≡ None → f ≡ found_in asked ps nothing_found → f ≡ found_in asked (ps ++ option_to_list o) nothing_found
found_without asked ps o f is before =
    before ∙ ap (λ ns. found_in asked ns nothing_found) (sym (none_more ps)) ∙ ap (λ r. found_in asked (ps ++ option_to_list r) nothing_found) (sym is)
