-- Texts that grow
use Rattle.std.proofs.Common.{◌≡◌, ℕ, List, ◌++◌, ap, ◌∙◌, append_assoc}

-- one piece more
pub grown : (old one two a b : List ℕ) → one ≡ old ++ a → two ≡ one ++ b → two ≡ old ++ (a ++ b)
grown old one two a b e f = f ∙ ap (λ l. l ++ b) e ∙ append_assoc old a b
