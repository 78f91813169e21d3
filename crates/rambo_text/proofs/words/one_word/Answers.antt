use Rattle.std.proofs.Common.{◌≡◌, ◌≢◌, ℕ, List, [], ◌∷◌, Option, Some, Bor, length, subst, refl}
use Rattle.std.specs.Option.{option_copied}
use Rattle.rambo_text.specs.Words.{AreMore}
use Rattle.rambo_text.proofs.WordSplits.{not_so_many}
use Rattle.rambo_text.proofs.words.one_word.Goals as goal

some : (more : Option (Bor (List ℕ))) (rest : Bor (List ℕ)) → more ≡ Some rest → (others : List (List ℕ)) → AreMore (option_copied more) others → length others ≢ 0
some more rest is [] all none = absurd ((subst (λ m. AreMore (option_copied m) []) is all).some refl)
some more rest is (w ∷ ws) all none = cc

pub returns-in_default-Some-clause-none : goal.returns-in_default-Some-clause-none
returns-in_default-Some-clause-none c words all e =
    not_so_many 0 _ _ _ c.next_word.ensures (some _ _ c.in_default-Some.is-1) words (subst (λ m. AreMore (option_copied m) words) c.in_ok-more.was all) e
