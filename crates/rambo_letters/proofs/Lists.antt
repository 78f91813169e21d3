-- Lists with one item more
use Rattle.std.proofs.Common.{◌≡◌, ℕ, zero, suc, List, [], ◌∷◌, ◌++◌, Option, None, Some, slice_get, ap, subst}
use Rattle.std.proofs.lemmas.Bool.{false≢true}
use Rattle.std.specs.Option.{is_some}

abbrev or_this : {X : Type 0} → X → Option X → X
or_this x None = x
or_this x (Some y) = y

pub some_is : {X : Type 0} (x y : X) → Some x ≡ Some y → x ≡ y
some_is x y e = ap (or_this x) e

-- a letter at the end of a list
pub sent_push : {X : Type 0} (P : X → Type 0) (xs : List X) (x : X) → ((place : ℕ) (y : X) → slice_get xs place ≡ Some y → P y) → P x
    → (place : ℕ) (y : X) → slice_get (xs ++ x ∷ []) place ≡ Some y → P y
sent_push P [] x all last zero y e = subst P (some_is x y e) last
sent_push P [] x all last (suc place) y e = absurd (false≢true (ap is_some e))
sent_push P (z ∷ xs) x all last zero y e = all zero y e
sent_push P (z ∷ xs) x all last (suc place) y e = sent_push P xs x (λ p w f. all (suc p) w f) last place y e
