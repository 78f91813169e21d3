-- Letters that are gone leave a list
use Rattle.std.proofs.Common.{◌≡◌, ℕ, ◌<◌, true, false, true≢false, if◌then◌else◌, List, [], ◌∷◌, length, drop, refl, sym, ap, arith}
use Rattle.rambo_mail.specs.declared.entry.Entry.{Entry}
use Rattle.rambo_mail.specs.Waiting.{drop_gone, starts_gone}

-- the first of them, where it is gone
pub first_gone : (gone : ℕ) (es : List Entry) → starts_gone gone es ≡ true → drop_gone gone (drop 1 es) ≡ drop_gone gone es
first_gone gone [] e = absurd (true≢false (sym e))
first_gone gone (x ∷ es) e = sym (ap (λ b. if b then drop_gone gone es else x ∷ es) e)

pub none_gone : (gone : ℕ) (es : List Entry) → starts_gone gone es ≡ false → es ≡ drop_gone gone es
none_gone gone [] e = refl
none_gone gone (x ∷ es) e = sym (ap (λ b. if b then drop_gone gone es else x ∷ es) e)

pub one_less : (gone : ℕ) (es : List Entry) → starts_gone gone es ≡ true → length (drop 1 es) < length es
one_less gone [] e = absurd (true≢false (sym e))
one_less gone (x ∷ es) e = omega arith
