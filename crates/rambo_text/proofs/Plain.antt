-- Words of signs hold no space and no line feed
use Rattle.std.proofs.Common.{◌≡◌, ◌≢◌, ℕ, zero, suc, ◌+◌, ◌/◌, ◌%◌, ◌<◌, ◌≤◌, ◌^◌, Bool, true, false, cond, nat_lt, nat_eq, ◌&&◌, List, [], ◌∷◌, decimal, refl, sym, subst, arith}
use Rattle.std.specs.List.{AllByRecursion}
use Rattle.std.specs.Prelude.{if◌then◌else◌}
use Rattle.std.proofs.lemmas.Bool.Decides.{nat_tests}
use Rattle.rambo_names.specs.Names.{NameSet}
use Rattle.rambo_names.specs.Signs.{set_text, joined, behind_commas, member_text, weight_text, conf_text}
use Rattle.rambo_names.specs.Weights.{Weights, weight_of, evenly}
use Rattle.rambo_names.proofs.ConfTexts.{parts, conf_parts, even_text, weight_most}
use Rattle.rambo_history.specs.declared.event.CallId.{CallId}
use Rattle.rambo_text.specs.Signs.{digit_of, pairs_text, hex_text, call_text, IsCall}
use Rattle.rambo_text.specs.Words.{Lacks, words_text, more_words}
use Rattle.rambo_text.proofs.Lacking.{lacks-append, lacks-decimal}

not_low : (b c : ℕ) → b < 44 → 44 ≤ c → c ≢ b
not_low b c low high e = omega arith

lacks-joined : (b : ℕ) (ws : List (List ℕ)) → b < 44 → AllByRecursion (Lacks b) ws → Lacks b (joined ws)
lacks-joined b [] low all = (not_low b 45 low (omega arith), tt)
lacks-joined b (w ∷ ws) low all = lacks-append b w (behind_commas ws) all.0 (lacks-commas ws all.1)
  where
    lacks-commas : (vs : List (List ℕ)) → AllByRecursion (Lacks b) vs → Lacks b (behind_commas vs)
    lacks-commas [] each = tt
    lacks-commas (v ∷ vs) each = (not_low b 44 low (omega arith), lacks-append b v (behind_commas vs) each.0 (lacks-commas vs each.1))

lacks-weight : (b w : ℕ) → b < 44 → w ≤ 15 → Lacks b (weight_text w)
lacks-weight b w low small =
    elim (nat_eq w 1) as (λ t. Lacks b (if t then [] else 58 ∷ decimal w)) [
      | true ↦ tt
      | false ↦ (not_low b 58 low (omega arith), lacks-decimal b w (omega arith) (omega (arith, small)))
    ]

lacks-parts : (b : ℕ) (f : ℕ → ℕ) → b < 44 → ((n : ℕ) → f n ≤ 15) → (k a : ℕ) → a + k ≤ 65 → AllByRecursion (Lacks b) (parts f k a)
unfolding parts
lacks-parts b f low small zero a h = tt
lacks-parts b f low small (suc k) a h =
    let rest = lacks-parts b f low small k (a + 1) (omega arith) in
    elim (nat_lt 0 (f a)) as (λ t. AllByRecursion (Lacks b) (cond t (member_text a (f a) ∷ parts f k (a + 1)) (parts f k (a + 1)))) [
      | true ↦ (lacks-append b (decimal a) (weight_text (f a)) (lacks-decimal b a (omega arith) (omega arith)) (lacks-weight b (f a) low (small a)), rest)
      | false ↦ rest
    ]

pub lacks-conf : (b : ℕ) (c : Weights) → b < 44 → Lacks b (conf_text c)
lacks-conf b c low =
    subst (Lacks b) (sym (conf_parts c)) (lacks-joined b (parts (weight_of c) 64 1) low (lacks-parts b (weight_of c) low (weight_most c) 64 1 (omega arith)))

pub lacks-set : (b : ℕ) (s : NameSet) → b < 44 → Lacks b (set_text s)
lacks-set b s low = subst (Lacks b) (even_text s) (lacks-conf b (evenly s) low)

high_digit : (d : ℕ) → 44 ≤ digit_of d
high_digit d = elim (nat_lt d 10) as (λ t. 44 ≤ cond t (48 + d) (87 + d)) [ true ↦ omega arith | false ↦ omega arith ]

lacks-pairs : (b : ℕ) (bs : List ℕ) → b < 44 → Lacks b (pairs_text bs)
lacks-pairs b [] low = tt
lacks-pairs b (c ∷ cs) low = (not_low b (digit_of (c / 16)) low (high_digit (c / 16)), (not_low b (digit_of (c % 16)) low (high_digit (c % 16)), lacks-pairs b cs low))

pub lacks-hex : (b : ℕ) (bs : List ℕ) → b < 44 → Lacks b (hex_text bs)
lacks-hex b [] low = (not_low b 45 low (omega arith), tt)
lacks-hex b (c ∷ cs) low = lacks-pairs b (c ∷ cs) low

pub lacks-call : (b : ℕ) (c : CallId) → b < 44 → IsCall c → Lacks b (call_text c)
lacks-call b c low is =
    lacks-append b (decimal c.name) (46 ∷ decimal c.number) (lacks-decimal b c.name (omega arith) (omega arith))
    (not_low b 46 low (omega arith), lacks-decimal b c.number (omega arith) is.2)

abbrev pub all_high : List ℕ → Bool
all_high [] = true
all_high (c ∷ cs) = nat_lt 43 c && all_high cs

both : (x y : Bool) → (x && y) ≡ true → (x ≡ true) × (y ≡ true)
both true y e = (refl, e)
both false y e = cc

-- a text of letters
pub lacks-tested : (b : ℕ) (word : List ℕ) → b < 44 → all_high word ≡ true → Lacks b word
lacks-tested b [] low all = tt
lacks-tested b (c ∷ cs) low all =
    let parts = both (nat_lt 43 c) (all_high cs) all in
    (not_low b c low (above c parts.0), lacks-tested b cs low parts.1)
  where
    above : (c : ℕ) → nat_lt 43 c ≡ true → 44 ≤ c
    above c e = grind (arith, nat_tests)

lacks-behind : (b : ℕ) (words : List (List ℕ)) → b ≢ 32 → AllByRecursion (Lacks b) words → Lacks b (more_words words)
lacks-behind b [] other all = tt
lacks-behind b (w ∷ ws) other all = ((λ e. other (sym e)), lacks-append b w (more_words ws) all.0 (lacks-behind b ws other all.1))

-- words with no such byte make a line with none, but for the space
pub lacks-words : (b : ℕ) (words : List (List ℕ)) → b ≢ 32 → AllByRecursion (Lacks b) words → Lacks b (words_text words)
lacks-words b [] other all = tt
lacks-words b (w ∷ ws) other all = lacks-append b w (more_words ws) all.0 (lacks-behind b ws other all.1)
