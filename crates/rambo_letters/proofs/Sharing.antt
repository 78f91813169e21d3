-- Letters as they are kept, when standings are added
use Rattle.std.proofs.Common.{◌≡◌, ◌≢◌, ◌-◌, ℕ, Bool, true, false, not, if◌then◌else◌, zero, suc, ◌<◌, ◌≤◌, List, [], ◌∷◌, ◌++◌, map, length, None, Some, slice_get, refl, ap, ◌∙◌, arith}
use Rattle.std.specs.Option.{option_map}
use Rattle.std.proofs.lemmas.Bool.{false≢true, true≢false}
use Rattle.std.proofs.lemmas.List.{length-append, map-append}
use Rattle.rambo_letters.specs.declared.sent.Sent.{Sent}
use Rattle.rambo_gossip.specs.declared.standing.Standing.{Standing}
use Rattle.rambo_gossip.specs.Letters.{kind_of}
use Rattle.rambo_letters.specs.Kept.{SentState, sent_at}
use Rattle.rambo_letters.specs.Shared.{gossip_with, gossip_in, sent_in, IsHeld, AreHeld}

pub not_told : (b : Bool) → not b ≡ true → b ≡ false
not_told true e = absurd (false≢true e)
not_told false e = refl

pub told : (b : Bool) → not b ≡ false → b ≡ true
told true e = refl
told false e = absurd (true≢false e)

pub get_before : {X : Type 0} (xs more : List X) (i : ℕ) → i < length xs → slice_get (xs ++ more) i ≡ slice_get xs i
get_before [] more i below = absurd (omega (arith, below))
get_before (x ∷ xs) more zero below = refl
get_before (x ∷ xs) more (suc i) below = get_before xs more i (omega (arith, below))

pub get_last : {X : Type 0} (xs : List X) (x : X) → slice_get (xs ++ x ∷ []) (length xs) ≡ Some x
get_last [] x = refl
get_last (y ∷ ys) x = get_last ys x

pub held_more : (n m : ℕ) (s : Sent) → n ≤ m → IsHeld n s → IsHeld m s
held_more n m s le held gossips = let below : s.standing < n = held gossips in omega (arith, le, below)

module _ {Q : Type 0} (standings more : List (Standing Q)) where
  stays_if : (s : Sent) (t : Bool) → (t ≡ true → s.standing < length standings)
      → (if t then option_map (gossip_with s) (slice_get (standings ++ more) s.standing) else None) ≡ (if t then option_map (gossip_with s) (slice_get standings s.standing) else None)
  stays_if s true held = ap (option_map (gossip_with s)) (get_before standings more s.standing (held refl))
  stays_if s false held = refl

  pub gossip_stays : (s : Sent) → IsHeld (length standings) s → gossip_in (standings ++ more) s ≡ gossip_in standings s
  gossip_stays s held = stays_if s s.gossips held

  pub sent_stays : (s : Sent) → IsHeld (length standings) s → sent_in (standings ++ more) s ≡ sent_in standings s
  sent_stays s held = λ i. record { letter = record { sender = s.sender; addressee = s.addressee; kind = kind_of (gossip_stays s held i) }; told = s.told }

  pub all_stay : (ss : List Sent) → AreHeld (length standings) ss → map (sent_in (standings ++ more)) ss ≡ map (sent_in standings) ss
  all_stay [] held = refl
  all_stay (s ∷ ss) held = λ i. sent_stays s (held zero s refl) i ∷ all_stay ss (λ place t found. held (suc place) t found) i

  count_grows : length standings ≤ length (standings ++ more)
  count_grows = let e = length-append standings more in omega (arith, e)

  pub all_held : (ss : List Sent) → AreHeld (length standings) ss → AreHeld (length (standings ++ more)) ss
  all_held ss held place s found = held_more (length standings) (length (standings ++ more)) s count_grows (held place s found)

-- a letter at the end of those that are kept
pub pushed_view : {Q : Type 0} (standings : List (Standing Q)) (before after : List Sent) (s : Sent) (now : List (SentState Q)) (b : SentState Q)
    → after ≡ before ++ s ∷ [] → map (sent_in standings) before ≡ now → sent_in standings s ≡ b → map (sent_in standings) after ≡ now ++ b ∷ []
pushed_view standings before after s now b pushed same last = ap (map (sent_in standings)) pushed ∙ map-append (sent_in standings) before (s ∷ []) ∙ λ i. same i ++ last i ∷ []

-- the letter of a number that isn't 0
pub sent_here : {Q : Type 0} (ss : List (SentState Q)) (number : ℕ) → number ≢ 0 → slice_get ss (number - 1) ≡ sent_at ss number
sent_here ss zero some = absurd (some refl)
sent_here ss (suc i) some = let same : suc i - 1 ≡ i = omega arith in ap (slice_get ss) same
