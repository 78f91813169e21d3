-- A letter more in a tray
use Rattle.std.proofs.Common.{◌≡◌, ℕ, zero, suc, ◌-◌, ◌≤◌, Bool, true, false, nat_eq, nat_le, if◌then◌else◌, List, [], ◌∷◌, ◌++◌, length, Option, Some, All, refl, sym, ap, ◌∙◌, subst, inl, inr, arith}
use Rattle.std.proofs.lemmas.Bool.{leb-true, leb-false, le-ltb}
use Rattle.std.proofs.lemmas.List.Elements.{All-push}
use Rattle.rambo_names.specs.Quorums.{QuorumSystem}
use Rattle.rambo_history.specs.declared.event.Event.{Event}
use Rattle.rambo_gossip.specs.Letters.{LetterState}
use Rattle.rambo_node.specs.FullNodes.{FullNode}
use Rattle.rambo_node.specs.Steps.{Step}
use Rattle.rambo_run.specs.Worlds.{WorldState, letter_at}
use Rattle.rambo_run.specs.Runs.{run}
use Rattle.rambo_run.proofs.Lists.{none-some, some_inj}
use Rattle.rambo_sequence.specs.declared.mark.Mark.{Mark}
use Rattle.rambo_mail.specs.declared.mail.Mail.{Mail}
use Rattle.rambo_book.specs.Kept.{StandsFor, AreSent, IsMailOf, IsKeeper}
use Rattle.rambo_book.specs.Windows.{LettersView, completed, is_gone, kept_at}
use Rattle.rambo_book.proofs.Whole.{IsWhole}
use Rattle.rambo_book.proofs.Windows.{at_kept}
use Rattle.rambo_book.specs.Mailing.{goes_to, sent_to}
use Rattle.rambo_book.proofs.Standing.{letters_paired, goes_alike}

pub tray_more : {Q : Type 0} {s : QuorumSystem Q} {agreed : Option Q} {most : ℕ} {rolled : List (Step Q)} {f : Q} {steps : List (Step Q)} {letters : List (LetterState Q)} {history : List Event} {marks : List Mark} {capacity : ℕ}
    {holds name : ℕ} {node : FullNode Q} {tray : List (Mail Q)} {seen : List (Step Q)}
    → IsWhole s agreed most rolled f steps letters history marks capacity → IsKeeper s agreed most holds name node tray seen → seen ≡ steps
    → (number : ℕ) (asks : Bool) (l : LetterState Q) (longer : List (Mail Q)) → letter_at letters number ≡ Some l → l.addressee ≡ name → longer ≡ tray ++ record { number = number; asks = asks; letter = l } ∷ []
    → IsKeeper s agreed most holds name node longer seen
tray_more {s = s} {f = f} {steps = steps} {letters = letters} {name = name} {tray = tray} {seen = seen} b k same number asks l longer there own e = record {
  named = k.named;
  legal = k.legal;
  fits = k.fits;
  replays = k.replays;
  full = k.full;
  mail = λ g is.
      let w = run s f steps in
      let here : IsMailOf w name (record { number = number; asks = asks; letter = l }) = elim (letters_paired w letters b.sent number) [
        | inl n ↦ absurd (none-some l (sym n.0 ∙ there))
        | inr p ↦ (
            let is_l : p.0 ≡ l = some_inj p.0 l (sym p.2 ∙ there) in
            (p.1, p.3, subst (λ l. StandsFor w l p.1) is_l p.4, sym (goes_alike p.0 p.1 _ p.4) ∙ ap (λ (l : LetterState _). l.addressee) is_l ∙ own)
            )
      ] in
      let now : run s f steps ≡ run s g seen = ap (λ h. run s h steps) (some_inj f g (sym b.founded ∙ is)) ∙ ap (run s g) (sym same) in
      subst (All (IsMailOf (run s g seen) name)) (sym e)
      (All-push (IsMailOf (run s g seen) name) tray (record { number = number; asks = asks; letter = l }) (k.mail g is) (subst (λ w. IsMailOf w name (record { number = number; asks = asks; letter = l })) now here));
}

-- whether a letter goes to a name is told by the one that is kept
goes_same : {Q : Type 0} (w : WorldState Q) (letters : List (LetterState Q)) (name number : ℕ) → AreSent w letters → goes_to name (letter_at letters number) ≡ goes_to name (letter_at w.letters number)
goes_same w letters name number sent = elim (letters_paired w letters sent number) [
  | inl n ↦ ap (goes_to name) (n.0 ∙ sym n.1)
  | inr p ↦ ap (goes_to name) p.2 ∙ ap (λ a. nat_eq a name) (goes_alike p.0 p.1 _ p.4) ∙ sym (ap (goes_to name) p.3)
]

-- and one that is gone goes to none
module _ {Q : Type 0} (w : WorldState Q) (v : LettersView Q) (within : v.gone ≤ length w.letters) (sent : AreSent w (completed w v)) where
  there : (gone number : ℕ) → nat_le number gone ≡ false → is_gone gone number ≡ false
  there gone zero e = refl
  there gone (suc i) e = (let past = leb-false (suc i) gone e in le-ltb i gone (omega (arith, past)))

  comes_by : (name number : ℕ) (b : Bool) → nat_le number v.gone ≡ b → goes_to name (kept_at v number) ≡ (if b then false else goes_to name (letter_at w.letters number))
  comes_by name number true e =
      let le = leb-true number v.gone e in
      let none : number - v.gone ≡ 0 = omega (arith, le) in
      ap (λ n. goes_to name (letter_at v.kept n)) none
  comes_by name number false e = ap (goes_to name) (at_kept w v within number (there v.gone number e)) ∙ goes_same w (completed w v) name number sent

  pub sent_one : (gone name number : ℕ) (b : Bool) → v.gone ≡ gone → goes_to name (kept_at v number) ≡ b → sent_to w gone name (number ∷ []) ≡ (if b then number ∷ [] else [])
  sent_one gone name number b same e =
      ap (λ g. sent_to w g name (number ∷ [])) (sym same) ∙ ap (λ b. if b then number ∷ [] else []) (sym (comes_by name number (nat_le number v.gone) refl) ∙ e)
