-- Each line is some words
use Rattle.std.proofs.Common.{◌≡◌, ◌≢◌, ℕ, Bool, true, false, not, true≢false, eqb, List, [], ◌∷◌, Option, None, Some, refl, sym, ap, ◌∙◌}
use Rattle.std.specs.Str.{bytes_eq}
use Rattle.std.proofs.lemmas.Bool.Decides.{Decides-eqb}
use Rattle.std.proofs.lemmas.Slice.Eq.{bytes_eq-Decides}
use Rattle.rambo_text.specs.Words.{AreWords, AreMore}

space_on : (b : ℕ) (cs : List ℕ) (ws : List (List ℕ)) → b ≡ 32 → AreWords cs ws → AreWords (b ∷ cs) ([] ∷ ws)
space_on b cs [] e all = absurd (all.some refl)
space_on b cs (w ∷ ws) e all = record {
  some = λ e. cc;
  no_space = (tt, all.no_space);
  whole = λ i. e i ∷ all.whole i;
}

byte_on : (b : ℕ) (cs : List ℕ) (ws : List (List ℕ)) → b ≢ 32 → AreWords cs ws → (vs : List (List ℕ)) × AreWords (b ∷ cs) vs
byte_on b cs [] ne all = absurd (all.some refl)
byte_on b cs (w ∷ ws) ne all = (
  (b ∷ w) ∷ ws,
  record {
    some = λ e. cc;
    no_space = ((ne, all.no_space.0), all.no_space.1);
    whole = ap (λ t. b ∷ t) all.whole;
  },
)

one_on : (b : ℕ) (cs : List ℕ) (t : Bool) → eqb b 32 ≡ t → (ws : List (List ℕ)) → AreWords cs ws → (vs : List (List ℕ)) × AreWords (b ∷ cs) vs
one_on b cs true e ws all = ([] ∷ ws, space_on b cs ws ((Decides-eqb b 32).0 e) all)
one_on b cs false e ws all = byte_on b cs ws (λ same. true≢false (sym ((Decides-eqb b 32).1 same) ∙ e)) all

pub has_words : (line : List ℕ) → (words : List (List ℕ)) × AreWords line words
has_words [] = ([] ∷ [], record { some = λ e. cc; no_space = (tt, tt); whole = refl })
has_words (b ∷ cs) = let rest = has_words cs in one_on b cs (eqb b 32) refl rest.0 rest.1

pub more_has_words : (more : Option (List ℕ)) → (words : List (List ℕ)) × AreMore more words
more_has_words None = ([], refl)
more_has_words (Some rest) = has_words rest

from_not : (t : Bool) → false ≡ not t → t ≡ true
from_not true e = refl
from_not false e = cc

-- what `!=` tells of a word and one that is known
pub different : (word other known : List ℕ) → other ≡ known → true ≡ not (bytes_eq word other) → word ≢ known
different word other known is ne same = true≢false (ne ∙ ap not ((bytes_eq-Decides word other).1 (same ∙ sym is)))

pub alike : (word other known : List ℕ) → other ≡ known → false ≡ not (bytes_eq word other) → word ≡ known
alike word other known is eq = (bytes_eq-Decides word other).0 (from_not (bytes_eq word other) eq) ∙ is
