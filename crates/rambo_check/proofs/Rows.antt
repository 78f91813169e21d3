-- Rows of words of one form
use Rattle.std.proofs.Common.{◌≡◌, ℕ, suc, List, [], ◌∷◌, ◌++◌, length, map, ◌+◌, Option, None, Some, inl, inr, refl, sym, ap, subst, ◌∙◌, append-nil}
use Rattle.std.specs.Borrow.{Bor}
use Rattle.std.specs.Option.{option_copied}
use Rattle.std.specs.List.{AllByRecursion, All}
use Rattle.std.proofs.lemmas.List.Elements.{recursion_from_All}
use Rattle.rambo_names.specs.Weights.{Weights}
use Rattle.rambo_names.specs.Signs.{conf_text}
use Rattle.rambo_history.specs.declared.event.CallId.{CallId}
use Rattle.rambo_text.specs.Forms.{Form, Conf, Call, IsSpelt, form_fault, IsBadWord}
use Rattle.rambo_text.specs.Signs.{call_text, IsCall}
use Rattle.rambo_text.specs.Words.{AreMore, AreWords, IsFirstWord, words_text}
use Rattle.rambo_text.proofs.WordsThere.{has_words, more_has_words}
use Rattle.rambo_check.proofs.LineWords.{some_joined}
use Rattle.rambo_check.specs.Plans.{Forms, each, BeginWithCall, IsFaulty}

abbrev pub AllSpelt : Form → List (List ℕ) → Type 0
AllSpelt m words = AllByRecursion (IsSpelt m) words

pub calls_spelt : (cs : List CallId) → All IsCall cs → AllSpelt Call (map call_text cs)
calls_spelt cs all = by_parts cs (recursion_from_All IsCall cs all)
  where
    by_parts : (cs : List CallId) → AllByRecursion IsCall cs → AllSpelt Call (map call_text cs)
    by_parts [] h = tt
    by_parts (c ∷ cs) h = ((c, h.0, refl), by_parts cs h.1)

pub confs_spelt : (confs : List Weights) → AllSpelt Conf (map conf_text confs)
confs_spelt [] = tt
confs_spelt (s ∷ ss) = ((s, refl), confs_spelt ss)

pub length-each : (m : Form) (words : List (List ℕ)) → length (each m words) ≡ length words
length-each m [] = refl
length-each m (w ∷ ws) = ap suc (length-each m ws)

-- the first bad word is behind good ones
pub bad_behind : (m : Form) (good : List (List ℕ)) (w : List ℕ) (ws : List (List ℕ)) → AllSpelt m good → ¬ (IsSpelt m w)
    → IsBadWord (each m (good ++ w ∷ ws)) (good ++ w ∷ ws) (form_fault m)
bad_behind m [] w ws all bad = inl (bad, refl)
bad_behind m (g ∷ gs) w ws all bad = inr (all.0, bad_behind m gs w ws all.1 bad)

-- a row of calls begins with one
pub begin_with_call : (good : List (List ℕ)) (word : List ℕ) (ws : List (List ℕ)) → AllSpelt Call good → IsSpelt Call word → BeginWithCall (good ++ word ∷ ws)
begin_with_call [] word ws all is = is
begin_with_call (g ∷ gs) word ws all is = all.0

-- how much is left of a line
abbrev pub left_of : Option (List ℕ) → ℕ
left_of None = 0
left_of (Some rest) = length rest + 1

-- a row ends
pub row_end : (good : List (List ℕ)) (start : Option (List ℕ)) (more : Option (Bor (List ℕ))) → more ≡ None
    → ((ws : List (List ℕ)) → AreMore (option_copied more) ws → AreMore start (good ++ ws)) → AreMore start good
row_end good start more none words =
    let Q : Option (Bor (List ℕ)) → Type 0 = λ o. AreMore (option_copied o) [] in
    subst (AreMore start) (append-nil good) (words [] (subst Q (sym none) refl))

-- a row goes on
pub row_on : (good : List (List ℕ)) (start : Option (List ℕ)) (more : Option (Bor (List ℕ))) (rest : Bor (List ℕ)) (word sign : List ℕ) (others : Option (List ℕ))
    → more ≡ Some rest → IsFirstWord rest.now word others → word ≡ sign
    → ((ws : List (List ℕ)) → AreMore (option_copied more) ws → AreMore start (good ++ ws))
    → (ws : List (List ℕ)) → AreMore others ws → AreMore start (good ++ sign ∷ ws)
row_on good start more rest word sign others some first is words ws all =
    let Q : Option (Bor (List ℕ)) → Type 0 = λ o. AreMore (option_copied o) (word ∷ ws) in
    subst (λ w. AreMore start (good ++ w ∷ ws)) is (words (word ∷ ws) (subst Q (sym some) (some_joined rest.now word others ws first all)))

-- a word of a row is bad
pub row_fault : (m : Form) (good : List (List ℕ)) (start : Option (List ℕ)) (more : Option (Bor (List ℕ))) (rest : Bor (List ℕ)) (word : List ℕ) (others : Option (List ℕ))
    → more ≡ Some rest → IsFirstWord rest.now word others → AllSpelt m good → ¬ (IsSpelt m word)
    → ((ws : List (List ℕ)) → AreMore (option_copied more) ws → AreMore start (good ++ ws))
    → IsFaulty (λ ws. Forms (each m ws) ws) start (form_fault m)
row_fault m good start more rest word others some first all bad words =
    let behind = more_has_words others in
    let whole = row_on good start more rest word word others some first refl words behind.0 behind.1 in
    inr (good ++ word ∷ behind.0, whole, inr (length-each m (good ++ word ∷ behind.0), bad_behind m good word behind.0 all bad))

-- the first of a line's words
first_of_words : (line word : List ℕ) (words : List (List ℕ)) → AreWords line (word ∷ words) → (more : Option (List ℕ)) × IsFirstWord line word more
first_of_words line word [] all = (None, record { no_space = all.no_space.0; whole = all.whole ∙ append-nil word })
first_of_words line word (v ∷ vs) all = (Some (words_text (v ∷ vs)), record { no_space = all.no_space.0; whole = all.whole })

-- a row goes on with no call
no_call : (good : List (List ℕ)) (start : Option (List ℕ)) (more : Option (Bor (List ℕ))) (rest : Bor (List ℕ)) (words : List (List ℕ)) → AreWords rest.now words
    → more ≡ Some rest → AllSpelt Call good → ((c : CallId) (others : Option (List ℕ)) → IsCall c → ¬ (IsFirstWord rest.now (call_text c) others))
    → ((ws : List (List ℕ)) → AreMore (option_copied more) ws → AreMore start (good ++ ws))
    → IsFaulty (λ ws. Forms (each Call ws) ws) start (form_fault Call)
no_call good start more rest [] are some all none on = absurd (are.some refl)
no_call good start more rest (w ∷ ws) are some all none on =
    let first = first_of_words rest.now w ws are in
    row_fault Call good start more rest w first.0 some first.1 all (λ s. none s.0 first.0 s.1 (subst (λ u. IsFirstWord rest.now u first.0) s.2 first.1)) on

pub call_fault : (good : List (List ℕ)) (start : Option (List ℕ)) (more : Option (Bor (List ℕ))) (rest : Bor (List ℕ))
    → more ≡ Some rest → AllSpelt Call good → ((c : CallId) (others : Option (List ℕ)) → IsCall c → ¬ (IsFirstWord rest.now (call_text c) others))
    → ((ws : List (List ℕ)) → AreMore (option_copied more) ws → AreMore start (good ++ ws))
    → IsFaulty (λ ws. Forms (each Call ws) ws) start (form_fault Call)
call_fault good start more rest = let all = has_words rest.now in no_call good start more rest all.0 all.1

-- one configuration more
pub confs_on : (confs : List Weights) (s : Weights) (ws : List (List ℕ)) → map conf_text confs ++ conf_text s ∷ ws ≡ map conf_text (confs ++ s ∷ []) ++ ws
confs_on [] s ws = refl
confs_on (t ∷ ts) s ws = ap (λ vs. conf_text t ∷ vs) (confs_on ts s ws)
