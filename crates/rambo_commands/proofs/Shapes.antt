-- Lists that have one word, or two
use Rattle.std.proofs.lemmas.Grind.{common_steps}
use Rattle.std.proofs.Common.{◌≡◌, ℕ, ◌<◌, ◌≤◌, List, [], ◌∷◌, ◌++◌, length, get_or, sym, ap, arith}

pub one_word : (words : List (List ℕ)) (word : List ℕ) → 1 ≤ length words → length words < 2 → word ≡ get_or words 0 word → words ≡ word ∷ []
one_word [] word low high is = absurd (omega arith)
one_word (w ∷ []) word low high is = ap (λ x. x ∷ []) (sym is)
one_word (w ∷ v ∷ words) word low high is = absurd (omega arith)

pub two_words : (words : List (List ℕ)) (first second : List ℕ) → 2 ≤ length words → length words < 3 → first ≡ get_or words 0 first → second ≡ get_or words 1 second
    → words ≡ first ∷ second ∷ []
two_words [] first second low high is then = absurd (omega arith)
two_words (w ∷ []) first second low high is then = absurd (omega arith)
two_words (w ∷ v ∷ []) first second low high is then = λ i. sym is i ∷ sym then i ∷ []
two_words (w ∷ v ∷ u ∷ words) first second low high is then = absurd (omega arith)

-- a text that comes in four pieces
pub in_four : (out one two three four front number word : List ℕ) → one ≡ out ++ front → two ≡ one ++ number → three ≡ two ++ 32 ∷ [] → four ≡ three ++ word
    → four ≡ out ++ (front ++ (number ++ (32 ∷ word)))
in_four out one two three four front number word a b c d = grind (arith, common_steps)
