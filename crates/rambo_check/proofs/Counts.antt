-- Lines with a wrong number of words, and words that aren't in their form
use Rattle.std.proofs.Common.{◌≡◌, ◌≢◌, inl, inr, ℕ, suc, ◌+◌, List, [], ◌∷◌, length, true, Option, None, Some, is_some, refl, sym, subst, ◌<◌, arith}
use Rattle.std.specs.Borrow.{Bor}
use Rattle.std.specs.Option.{option_copied}
use Rattle.rambo_text.specs.declared.fault.Fault.TheVariants.{WrongCount}
use Rattle.rambo_text.specs.Forms.{Form}
use Rattle.rambo_text.specs.Words.{AreMore, IsFirstWord}
use Rattle.rambo_check.specs.Plans.{Forms, IsFaulty}
use Rattle.rambo_text.proofs.WordsThere.{more_has_words}
use Rattle.rambo_check.proofs.LineWords.{some_joined}

-- another number of words behind a first
pub other_count : (ms : List Form) (id : List ℕ) (more : Option (List ℕ)) (n : ℕ) → length ms ≡ n + 1
    → ((words : List (List ℕ)) → AreMore more words → length words ≢ n) → IsFaulty (λ ws. Forms ms (id ∷ ws)) more WrongCount
other_count ms id more n many none =
    let all = more_has_words more in
    inr (all.0, all.1, inl ((λ (e : length ms ≡ suc (length all.0)). none all.0 all.1 (omega arith)), refl))

-- another number of words
pub count_fault : (ms : List Form) (more : Option (List ℕ)) (n : ℕ) → length ms ≡ n
    → ((words : List (List ℕ)) → AreMore more words → length words ≢ n) → IsFaulty (λ ws. Forms ms ws) more WrongCount
count_fault ms more n many none =
    let all = more_has_words more in
    inr (all.0, all.1, inl ((λ (e : length ms ≡ length all.0). none all.0 all.1 (omega arith)), refl))

behind_some : (rest : List ℕ) (words : List (List ℕ)) → AreMore (Some rest) words → length words ≢ 0
behind_some rest [] all e = all.some refl
behind_some rest (w ∷ ws) all e = omega arith

-- words where none should stand
pub too_many : (ms : List Form) (id : List ℕ) (more : Option (Bor (List ℕ))) → length ms ≡ 1 → is_some more ≡ true
    → IsFaulty (λ ws. Forms ms (id ∷ ws)) (option_copied more) WrongCount
too_many ms id None one some = cc
too_many ms id (Some rest) one some = other_count ms id (Some rest.now) 0 one (λ words all e. behind_some rest.now words all e)

-- only one word is there
pub one_alone : (more : Option (Bor (List ℕ))) (rest : Bor (List ℕ)) (word : List ℕ) (others : Option (Bor (List ℕ))) → more ≡ Some rest
    → IsFirstWord rest.now word (option_copied others) → others ≡ None → (words : List (List ℕ)) × AreMore (option_copied more) words × (length words < 2)
one_alone more rest word others some first none =
    let P : Option (Bor (List ℕ)) → Type 0 = λ m. (words : List (List ℕ)) × AreMore (option_copied m) words × (length words < 2) in
    let Q : Option (Bor (List ℕ)) → Type 0 = λ o. AreMore (option_copied o) [] in
    subst P (sym some) (word ∷ [], some_joined rest.now word (option_copied others) [] first (subst Q (sym none) refl), omega arith)
