-- What the first line of a text tells of its version
use Rattle.std.proofs.Common.{◌≡◌, ◌≢◌, ◌⊎◌, ℕ, List, [], ◌∷◌, ◌++◌, length, codes, Option, inl, inr, refl, sym, ap, subst, ◌∙◌, lit<}
use Rattle.rambo_text.specs.declared.fault.Fault.{Fault}
use Rattle.rambo_text.specs.declared.fault.Fault.TheVariants.{WrongCount, BadNumber}
use Rattle.rambo_text.specs.declared.version.Version.{Version}
use Rattle.rambo_text.specs.declared.version.Version.TheVariants.{One, Two}
use Rattle.rambo_text.specs.Versions.{head_line, IsHead, IsFirstOf, TellNoVersion, IsBadHead, IsBehindHead}
use Rattle.rambo_text.specs.Words.{Lacks, IsFirstLine, IsFirstWord, AreWords, AreMore, more_words}
use Rattle.rambo_text.proofs.WordSplits.{cut, no_cut, words_joined, words_behind, same_words}
use Rattle.rambo_text.proofs.Plain.{lacks-tested, lacks-words}
use Rattle.rambo_text.proofs.WordsThere.{more_has_words}

-- a line with another first word is no head
pub no_head : (line word : List ℕ) (more : Option (List ℕ)) → IsFirstWord line word more → word ≢ codes "rambo" → (others : List (List ℕ)) → ¬ (IsHead line others)
no_head line word more first other others head =
    let behind = words_behind line word more (codes "rambo" ∷ others) first head in
    other (let whole = behind.1 in cc)

head_words : (line word : List ℕ) (more : Option (List ℕ)) (others : List (List ℕ)) → IsFirstWord line word more → word ≡ codes "rambo" → AreMore more others → IsHead line others
head_words line word more others first is are = subst (λ w. AreWords line (w ∷ others)) is (words_joined line word more others first are)

-- other than one word follows
pub head_count : (line word : List ℕ) (more : Option (List ℕ)) (f : Fault) → IsFirstWord line word more → word ≡ codes "rambo" → f ≡ WrongCount
    → ((words : List (List ℕ)) → AreMore more words → length words ≢ 1) → IsBadHead line f
head_count line word more f first is fault none =
    let all = more_has_words more in
    (codes "rambo" ∷ all.0, head_words line word more all.0 first is all.1, (all.0, refl, inl (none all.0 all.1, fault)))

-- one follows that isn't the number
pub head_number : (line word number : List ℕ) (more : Option (List ℕ)) → IsFirstWord line word more → word ≡ codes "rambo" → AreMore more (number ∷ []) → number ≢ codes "2"
    → IsBadHead line BadNumber
head_number line word number more first is are other =
    (codes "rambo" ∷ number ∷ [], head_words line word more (number ∷ []) first is are, (number ∷ [], refl, inr (refl, (λ e. other cc), refl)))

-- the line is the head
pub head_is : (line word number : List ℕ) (more : Option (List ℕ)) → IsFirstWord line word more → word ≡ codes "rambo" → AreMore more (number ∷ []) → number ≡ codes "2" → line ≡ head_line
head_is line word number more first is are two =
    let words = head_words line word more (number ∷ []) first is are in
    words.whole ∙ ap (λ n. codes "rambo" ++ more_words (n ∷ [])) two

-- the line that tells version 2 is a head
pub head_line_words : IsHead head_line (codes "2" ∷ [])
head_line_words = record { some = λ e. cc; no_space = (lacks-tested 32 (codes "rambo") (lit< tt) refl, (lacks-tested 32 (codes "2") (lit< tt) refl, tt)); whole = refl }

pub head_line_lacks : Lacks 10 head_line
head_line_lacks = lacks-words 10 (codes "rambo" ∷ codes "2" ∷ []) (λ e. cc) (lacks-tested 10 (codes "rambo") (lit< tt) refl, (lacks-tested 10 (codes "2") (lit< tt) refl, tt))

-- the first line of a text, and what is behind it, are known by the text
pub same_lines : (text l r m s : List ℕ) → IsFirstLine text l r → IsFirstLine text m s → (l ≡ m) × (r ≡ s)
same_lines text l r m s a b = elim a.whole [
  | inl feed ↦ elim b.whole [
    | inl other ↦ cut 10 l m r s a.no_feed b.no_feed (sym feed ∙ other)
    | inr last ↦ absurd (no_cut 10 m l r b.no_feed (sym last.0 ∙ feed))
  ]
  | inr end ↦ elim b.whole [
    | inl other ↦ absurd (no_cut 10 l m s a.no_feed (sym end.0 ∙ other))
    | inr last ↦ (sym end.0 ∙ last.0, end.1 ∙ sym last.1)
  ]
]

-- a text is of one version, and its head has one end
no_other : (text b c : List ℕ) → IsBehindHead One text b → IsBehindHead Two text c → ⊥
no_other text b c one two = one.0 head_line c two (codes "2" ∷ []) head_line_words

pub one_head : (text : List ℕ) (v w : Version) (b c : List ℕ) → IsBehindHead v text b → IsBehindHead w text c → (v ≡ w) × (b ≡ c)
one_head text One One b c p q = (refl, sym p.1 ∙ q.1)
one_head text One Two b c p q = absurd (no_other text b c p q)
one_head text Two One b c p q = absurd (no_other text c b q p)
one_head text Two Two b c p q = (refl, (same_lines text head_line b head_line c p q).1)

-- words that tell no version have one fault
abbrev IsHeadWord : List (List ℕ) → Fault → Type 0
IsHeadWord others f = ((length others ≢ 1) × (f ≡ WrongCount)) ⊎ ((length others ≡ 1) × (others ≢ codes "2" ∷ []) × (f ≡ BadNumber))

head_word_once : (others : List (List ℕ)) (f g : Fault) → IsHeadWord others f → IsHeadWord others g → f ≡ g
head_word_once others f g (inl a) (inl b) = a.1 ∙ sym b.1
head_word_once others f g (inl a) (inr b) = absurd (a.0 b.0)
head_word_once others f g (inr a) (inl b) = absurd (b.0 a.0)
head_word_once others f g (inr a) (inr b) = a.2 ∙ sym b.2

pub no_version_once : (words : List (List ℕ)) (f g : Fault) → TellNoVersion words f → TellNoVersion words g → f ≡ g
no_version_once words f g a b =
    let both = sym b.1 ∙ a.1 in
    let others : b.0 ≡ a.0 = cc in
    head_word_once a.0 f g a.2 (subst (λ o. IsHeadWord o g) others b.2)

-- the line that tells version 2 has none
pub no_bad_head : (line : List ℕ) (f : Fault) → line ≡ head_line → IsBadHead line f → ⊥
no_bad_head line f is bad =
    let words = same_words head_line bad.0 (codes "rambo" ∷ codes "2" ∷ []) (subst (λ l. AreWords l bad.0) is bad.1) head_line_words in
    let both = sym bad.2.1 ∙ words in
    let others : bad.2.0 ≡ codes "2" ∷ [] = cc in
    elim bad.2.2 [
      | inl count ↦ count.0 (ap length others)
      | inr number ↦ number.1 others
    ]

-- and no bad head begins a text of version 1
pub no_bad_first : (line : List ℕ) (f : Fault) → IsFirstOf One line → IsBadHead line f → ⊥
no_bad_first line f none bad = none bad.2.0 (subst (AreWords line) bad.2.1 bad.1)
