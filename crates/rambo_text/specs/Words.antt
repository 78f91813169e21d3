-- Lines of a text, and words of a line
use Rattle.std.specs.Prelude.{◌≡◌, ◌≢◌, ◌⊎◌, ℕ, List, [], ◌∷◌, ◌++◌, Option, None, Some, MatchOption}
use Rattle.std.specs.List.{AllByRecursion}

-- further words, each after a space
abbrev pub more_words : List (List ℕ) → List ℕ
more_words [] = []
more_words (w ∷ ws) = (32 ∷ w) ++ more_words ws

-- words, separated by one space each
abbrev pub words_text : List (List ℕ) → List ℕ
words_text [] = []
words_text (w ∷ ws) = w ++ more_words ws

-- no byte of a text is this one
abbrev pub Lacks : ℕ → List ℕ → Type 0
Lacks byte = AllByRecursion (λ b. b ≢ byte)

-- a text begins with this line, and the rest is that of the lines after it; the last line may lack its line feed
pub record IsFirstLine (text line rest : List ℕ) : Type 0 where
  pub no_feed : Lacks 10 line
  pub whole : (text ≡ line ++ 10 ∷ rest) ⊎ ((text ≡ line) × (rest ≡ []))

-- a line begins with this word, and after a space there is more, where there are more words
pub record IsFirstWord (line word : List ℕ) (more : Option (List ℕ)) : Type 0 where
  pub no_space : Lacks 32 word
  pub whole : MatchOption more (line ≡ word) (λ rest. line ≡ word ++ 32 ∷ rest)

-- a line is these words: one at least, separated by one space each
pub record AreWords (line : List ℕ) (words : List (List ℕ)) : Type 0 where
  pub some : words ≢ []
  pub no_space : AllByRecursion (Lacks 32) words
  pub whole : line ≡ words_text words

-- what follows the first word is these words
abbrev pub AreMore : Option (List ℕ) → List (List ℕ) → Type 0
AreMore None words = words ≡ []
AreMore (Some rest) words = AreWords rest words
