-- Words that are in their forms, and the first that isn't
use Rattle.std.proofs.Common.{◌≡◌, ℕ, suc, List, [], ◌∷◌, length, inl, inr, refl, sym, ap, ◌∙◌}
use Rattle.rambo_text.specs.declared.fault.Fault.{Fault}
use Rattle.rambo_text.specs.Forms.{Form, AreSpelt, IsBadWord}

-- what is spelt has no bad word, and is as long as it should be
pub not_bad : (ms : List Form) (ws : List (List ℕ)) (f : Fault) → AreSpelt ms ws → IsBadWord ms ws f → ⊥
not_bad [] ws f all bad = bad
not_bad (m ∷ ms) [] f all bad = bad
not_bad (m ∷ ms) (w ∷ ws) f all (inl here) = here.0 all.0
not_bad (m ∷ ms) (w ∷ ws) f all (inr later) = not_bad ms ws f all.1 later.1

pub as_many : (ms : List Form) (ws : List (List ℕ)) → AreSpelt ms ws → length ws ≡ length ms
as_many [] [] all = refl
as_many [] (w ∷ ws) all = absurd all
as_many (m ∷ ms) [] all = absurd all
as_many (m ∷ ms) (w ∷ ws) all = ap (λ n. suc n) (as_many ms ws all.1)

-- some words have one fault at most
pub same_bad_word : (ms : List Form) (ws : List (List ℕ)) (f g : Fault) → IsBadWord ms ws f → IsBadWord ms ws g → f ≡ g
same_bad_word [] ws f g a b = absurd a
same_bad_word (m ∷ ms) [] f g a b = absurd a
same_bad_word (m ∷ ms) (w ∷ ws) f g (inl a) (inl b) = a.1 ∙ sym b.1
same_bad_word (m ∷ ms) (w ∷ ws) f g (inl a) (inr b) = absurd (a.0 b.0)
same_bad_word (m ∷ ms) (w ∷ ws) f g (inr a) (inl b) = absurd (b.0 a.0)
same_bad_word (m ∷ ms) (w ∷ ws) f g (inr a) (inr b) = same_bad_word ms ws f g a.1 b.1
