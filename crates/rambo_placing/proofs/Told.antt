-- Gets by what they were answered
use Rattle.std.proofs.Common.{◌≡◌, ℕ, ◌+◌, ◌<◌, Bool, true, false, cond, List, [], ◌∷◌, ◌++◌, filter, take, get_or, length, append-nil, Option, None, Some, refl, sym, ap, ◌∙◌, subst}
use Rattle.std.specs.Str.{bytes_eq}
use Rattle.std.proofs.lemmas.Bool.Decides.{same_from_decides}
use Rattle.std.proofs.lemmas.List.{take_more}
use Rattle.std.proofs.lemmas.List.Elements.{filter-append}
use Rattle.std.proofs.lemmas.Slice.Eq.{bytes_eq-Decides}
use Rattle.rambo_history.specs.declared.operation.Answer.{Answer}
use Rattle.rambo_history.specs.declared.operation.Answer.TheVariants as answer
use Rattle.rambo_history.specs.declared.event.CallId.{CallId}
use Rattle.rambo_atomic.specs.Tests.{tells}
use Rattle.rambo_placing.specs.declared.readers.Readers.{Readers}
use Rattle.rambo_placing.specs.Tables.{calls_at, told_at}

bytes_eq-turn : (a b : List ℕ) → bytes_eq a b ≡ bytes_eq b a
bytes_eq-turn a b =
    same_from_decides (bytes_eq a b) (bytes_eq b a) ((bytes_eq-Decides a b).0, (bytes_eq-Decides a b).1)
    ((λ e. sym ((bytes_eq-Decides b a).0 e)), λ e. (bytes_eq-Decides b a).1 (sym e))

-- a get more that was answered a value
pub value-noted : (old new : Readers) (value : List ℕ) (c : CallId) → new.nil ≡ old.nil
    → ((q : List ℕ) → calls_at new.told.entries q ≡ cond (bytes_eq value q) (calls_at old.told.entries q ++ c ∷ []) (calls_at old.told.entries q))
    → (a : Option Answer) → a ≡ Some (answer.Value value)
    → (held : Option (List ℕ)) → told_at new held ≡ cond (tells held a) (told_at old held ++ c ∷ []) (told_at old held)
value-noted old new value c same added a is held =
    subst (λ b. told_at new held ≡ cond (tells held b) (told_at old held ++ c ∷ []) (told_at old held)) (sym is) (by held)
  where
    by : (held : Option (List ℕ)) → told_at new held ≡ cond (tells held (Some (answer.Value value))) (told_at old held ++ c ∷ []) (told_at old held)
    by None = ap (λ calls. calls.items) same
    by (Some q) = added q ∙ ap (λ b. cond b (calls_at old.told.entries q ++ c ∷ []) (calls_at old.told.entries q)) (bytes_eq-turn value q)

-- an item more that passes a test, or doesn't
pub told-on : {X : Type 0} (p : X → Bool) (xs : List X) (i : ℕ) (x : X) (old new : List X) (b : Bool) → i < length xs → x ≡ get_or xs i x
    → b ≡ p x → new ≡ cond b (old ++ x ∷ []) old → old ≡ filter p (take i xs) → new ≡ filter p (take (i + 1) xs)
told-on {X} p xs i x old new b below is same now was =
    now ∙ (λ j. cond (same j) (was j ++ x ∷ []) (was j)) ∙ sym (one (p x) (filter p (take i xs)))
    ∙ sym (filter-append p (take i xs) (x ∷ [])) ∙ ap (filter p) (sym (take_more xs i x below ∙ ap (λ y. take i xs ++ y ∷ []) (sym is)))
  where
    one : (t : Bool) (ys : List X) → ys ++ cond t (x ∷ []) [] ≡ cond t (ys ++ x ∷ []) ys
    one true ys = refl
    one false ys = append-nil ys
