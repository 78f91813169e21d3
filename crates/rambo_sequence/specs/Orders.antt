-- Lists in order
use Rattle.std.specs.Prelude.{Bool, List, [], ◌∷◌, if◌then◌else◌}

-- a list in order with one more item, which comes after those that it isn't before
abbrev pub with_item : {X : Type 0} → (X → X → Bool) → X → List X → List X
with_item before x [] = x ∷ []
with_item before x (y ∷ ys) = if before x y then x ∷ y ∷ ys else y ∷ with_item before x ys

-- the items in order: of two of which neither is before the other, the one that was last comes first
abbrev pub ordered : {X : Type 0} → (X → X → Bool) → List X → List X
ordered before [] = []
ordered before (x ∷ xs) = with_item before x (ordered before xs)
