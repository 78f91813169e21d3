-- Words behind a first one
use Rattle.std.proofs.Common.{◌≡◌, ◌≢◌, ℕ, List, [], ◌∷◌, ◌++◌, Option, None, Some, MatchOption, refl, sym, ap, subst, ◌∙◌, append-nil, lit<}
use Rattle.std.specs.Borrow.{Bor}
use Rattle.std.specs.Option.{option_copied}
use Rattle.rambo_names.specs.Signs.{BeginsWith}
use Rattle.rambo_history.specs.declared.event.CallId.{CallId}
use Rattle.rambo_text.specs.Signs.{call_text, IsCall}
use Rattle.rambo_text.specs.Words.{AreMore, IsFirstWord}
use Rattle.rambo_text.proofs.Fronts.{same_call, whole_sign}
use Rattle.rambo_text.proofs.Plain.{lacks-call}
use Rattle.rambo_text.proofs.WordSplits.{words_joined}

-- a first word, and words behind it
pub some_joined : (line word : List ℕ) (more : Option (List ℕ)) (words : List (List ℕ)) → IsFirstWord line word more → AreMore more words
    → AreMore (Some line) (word ∷ words)
some_joined line word more words first all = words_joined line word more words first all

-- the same, where that there is a line is known
pub first_is_some : (more : Option (Bor (List ℕ))) (rest : Bor (List ℕ)) (word : List ℕ) (others : Option (List ℕ)) (words : List (List ℕ)) → more ≡ Some rest
    → IsFirstWord rest.now word others → AreMore others words → AreMore (option_copied more) (word ∷ words)
first_is_some more rest word others words some first all =
    let Q : Option (Bor (List ℕ)) → Type 0 = λ o. AreMore (option_copied o) (word ∷ words) in
    subst Q (sym some) (some_joined rest.now word others words first all)

-- a call that a line begins with is its first word where the line, or the word, ends behind it
pub call_is_word : (line : List ℕ) (c : CallId) (behind : List ℕ) (more : Option (List ℕ)) → IsCall c → line ≡ call_text c ++ behind
    → MatchOption more (behind ≡ []) (λ rest. behind ≡ 32 ∷ rest) → IsFirstWord line (call_text c) more
call_is_word line c behind None call is ends =
    record { no_space = lacks-call 32 c (lit< tt) call; whole = is ∙ ap (λ b. call_text c ++ b) ends ∙ append-nil (call_text c) }
call_is_word line c behind (Some rest) call is ends = record { no_space = lacks-call 32 c (lit< tt) call; whole = is ∙ ap (λ b. call_text c ++ b) ends }

-- and no other call is
pub no_call_is_word : (line : List ℕ) (c d : CallId) (behind : List ℕ) (more : Option (List ℕ)) → IsCall c → BeginsWith line (call_text c) behind
    → behind ≢ [] → ((rest : List ℕ) → behind ≢ 32 ∷ rest) → IsCall d → ¬ (IsFirstWord line (call_text d) more)
no_call_is_word line c d behind None is begins some space other first = some (same_call line c d behind [] is other begins (whole_sign line (call_text d) first.whole))
no_call_is_word line c d behind (Some rest) is begins some space other first =
    space rest (same_call line c d behind (32 ∷ rest) is other begins (record { whole = first.whole; ends = refl }))
