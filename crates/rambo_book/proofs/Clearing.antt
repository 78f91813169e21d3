-- The first letter of a number leaves a tray
use Rattle.std.proofs.Common.{◌≡◌, ℕ, zero, suc, ◌<◌, ◌≤◌, nat_eq, true, false, if◌then◌else◌, List, [], ◌∷◌, ◌++◌, length, take, drop, slice_index_or, All, refl, sym, ap, arith}
use Rattle.std.specs.List.{remove}
use Rattle.std.proofs.lemmas.List.Elements.{All-append, All-take, All-drop}
use Rattle.rambo_mail.specs.declared.mail.Mail.{Mail}
use Rattle.rambo_book.specs.Mailing.{without}

-- one that has the number, the first from a place on
pub without_here : {Q : Type 0} (tray : List (Mail Q)) (number at : ℕ) (d : Mail Q) → at < length tray → nat_eq (slice_index_or tray at d).number number ≡ true → without (drop at tray) number ≡ drop (suc at) tray
without_here [] number at d lt e = absurd (omega (arith, lt))
without_here (m ∷ ms) number zero d lt e = ap (λ b. if b then ms else m ∷ without ms number) e
without_here (m ∷ ms) number (suc at) d lt e = without_here ms number at d (omega (arith, lt)) e

-- one that hasn't
pub without_past : {Q : Type 0} (tray : List (Mail Q)) (number at : ℕ) (d : Mail Q) → at < length tray → nat_eq (slice_index_or tray at d).number number ≡ false
    → take (suc at) tray ++ without (drop (suc at) tray) number ≡ take at tray ++ without (drop at tray) number
without_past [] number at d lt e = absurd (omega (arith, lt))
without_past (m ∷ ms) number zero d lt e = sym (ap (λ b. if b then ms else m ∷ without ms number) e)
without_past (m ∷ ms) number (suc at) d lt e = ap (λ l. m ∷ l) (without_past ms number at d (omega (arith, lt)) e)

-- none has it
pub without_none : {Q : Type 0} (tray : List (Mail Q)) (number at : ℕ) → length tray ≤ at → take at tray ++ without (drop at tray) number ≡ tray
without_none [] number zero le = refl
without_none [] number (suc at) le = refl
without_none (m ∷ ms) number zero le = absurd (omega (arith, le))
without_none (m ∷ ms) number (suc at) le = ap (λ l. m ∷ l) (without_none ms number at (omega (arith, le)))

pub all_remove : {A : Type 0} (P : A → Type 0) (xs : List A) (n : ℕ) → All P xs → All P (remove xs n)
all_remove P xs n a = All-append P (take n xs) (drop (suc n) xs) (All-take P n xs a) (All-drop P (suc n) xs a)
