-- A line is some words in one way only
use Rattle.std.proofs.Common.{◌≡◌, ◌≢◌, ℕ, suc, ◌+◌, List, [], ◌∷◌, ◌++◌, length, Option, None, Some, refl, sym, ap, ◌∙◌, arith, append-nil}
use Rattle.rambo_text.specs.Words.{words_text, Lacks, IsFirstWord, AreWords, AreMore}

-- what lacks a byte ends before it
pub cut : (b : ℕ) (xs ys p q : List ℕ) → Lacks b xs → Lacks b ys → xs ++ b ∷ p ≡ ys ++ b ∷ q → (xs ≡ ys) × (p ≡ q)
cut b [] [] p q l m e = (refl, cc)
cut b [] (y ∷ ys) p q l m e = absurd (m.0 cc)
cut b (x ∷ xs) [] p q l m e = absurd (l.0 cc)
cut b (x ∷ xs) (y ∷ ys) p q l m e =
    let head : x ≡ y = cc in
    let rest = cut b xs ys p q l.1 m.1 cc in
    ((λ i. head i ∷ rest.0 i), rest.1)

-- and has no place where it stands
pub no_cut : (b : ℕ) (xs ys q : List ℕ) → Lacks b xs → xs ≡ ys ++ b ∷ q → ⊥
no_cut b [] [] q l e = cc
no_cut b [] (y ∷ ys) q l e = cc
no_cut b (x ∷ xs) [] q l e = l.0 cc
no_cut b (x ∷ xs) (y ∷ ys) q l e = no_cut b xs ys q l.1 cc

-- a first word, and words that follow it
pub words_joined : (line word : List ℕ) (more : Option (List ℕ)) (words : List (List ℕ)) → IsFirstWord line word more → AreMore more words
    → AreWords line (word ∷ words)
words_joined line word None [] first none = record { some = λ e. cc; no_space = (first.no_space, tt); whole = first.whole ∙ sym (append-nil word) }
words_joined line word None (v ∷ vs) first none = cc
words_joined line word (Some rest) [] first more = absurd (more.some refl)
words_joined line word (Some rest) (v ∷ vs) first more =
    record { some = λ e. cc; no_space = (first.no_space, more.no_space); whole = first.whole ∙ ap (λ r. word ++ 32 ∷ r) more.whole }

-- a line whose first word is known is that word, and the words that follow it
pub words_behind : (line word : List ℕ) (more : Option (List ℕ)) (words : List (List ℕ)) → IsFirstWord line word more → AreWords line words
    → (others : List (List ℕ)) × (words ≡ word ∷ others) × AreMore more others
words_behind line word more [] first all = absurd (all.some refl)
words_behind line word None (w ∷ []) first all = ([], (let same : w ≡ word = sym (append-nil w) ∙ sym all.whole ∙ first.whole in ap (λ v. v ∷ []) same), refl)
words_behind line word (Some rest) (w ∷ []) first all =
    absurd (no_cut 32 w word rest all.no_space.0 (sym (append-nil w) ∙ sym all.whole ∙ first.whole))
words_behind line word None (w ∷ v ∷ vs) first all = absurd (no_cut 32 word w (words_text (v ∷ vs)) first.no_space (sym first.whole ∙ all.whole))
words_behind line word (Some rest) (w ∷ v ∷ vs) first all =
    let same = cut 32 w word (words_text (v ∷ vs)) rest all.no_space.0 first.no_space (sym all.whole ∙ first.whole) in
    (v ∷ vs, ap (λ u. u ∷ v ∷ vs) same.0, record { some = λ e. cc; no_space = all.no_space.1; whole = sym same.1 })

-- the words of a line are known by the line
pub same_words : (line : List ℕ) (words others : List (List ℕ)) → AreWords line words → AreWords line others → words ≡ others
same_words line [] others a b = absurd (a.some refl)
same_words line (w ∷ []) others a b =
    let behind = words_behind line w None others (record { no_space = a.no_space.0; whole = a.whole ∙ append-nil w }) b in
    sym (behind.1 ∙ ap (λ vs. w ∷ vs) behind.2)
same_words line (w ∷ v ∷ vs) others a b =
    let behind = words_behind line w (Some (words_text (v ∷ vs))) others (record { no_space = a.no_space.0; whole = a.whole }) b in
    sym (behind.1 ∙ ap (λ us. w ∷ us) (sym (same_words (words_text (v ∷ vs)) (v ∷ vs) behind.0 (record { some = λ e. cc; no_space = a.no_space.1; whole = refl }) behind.2)))

-- more words than none follow a space
pub not_so_many : (n : ℕ) (line word : List ℕ) (more : Option (List ℕ)) → IsFirstWord line word more
    → ((others : List (List ℕ)) → AreMore more others → length others ≢ n) → (words : List (List ℕ)) → AreWords line words → length words ≢ n + 1
not_so_many n line word more first none words all e =
    let behind = words_behind line word more words first all in
    none behind.0 behind.2 (let k : suc (length behind.0) ≡ n + 1 = ap length (sym behind.1) ∙ e in omega (arith, k))
