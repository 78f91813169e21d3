-- Steps read from the front of a text
use Rattle.std.proofs.Common.{◌≡◌, ℕ, zero, suc, Fits, w8, get_or, take, subst, ◌<◌, ◌≤◌, ◌^◌, List, [], ◌∷◌, ◌++◌, length, codes, decimal, sym, ap, ◌∙◌, append-nil, append_assoc, length-append, inl, arith}
use Rattle.std.proofs.lemmas.Fmt.{length-decimal-le}
use Rattle.rambo_names.specs.Names.{IsName}
use Rattle.rambo_names.specs.Weights.{Weights}
use Rattle.rambo_history.specs.declared.event.CallId.{CallId}
use Rattle.rambo_history.specs.declared.operation.Op.TheVariants as op
use Rattle.rambo_node.specs.Steps.{Step}
use Rattle.rambo_node.specs.declared.step.StepOf.TheVariants as step
use Rattle.rambo_text.specs.Signs.{call_text, hex_text, IsCall, AreBytes}
use Rattle.rambo_text.proofs.Pairs.{length-pairs}
use Rattle.rambo_lines.specs.Fronts.{BeginsWithStep}
use Rattle.rambo_lines.specs.StepLines.{step_line}
use Rattle.rambo_lines.specs.Scripts.{HasLine}
use Rattle.rambo_lines.proofs.StepShapes.{step_lacks}

take_fits : (n : ℕ) (xs : List ℕ) → ((i : ℕ) → Fits w8 (get_or xs i 0)) → (i : ℕ) → get_or (take n xs) i 0 < 256
take_fits zero xs h i = omega arith
take_fits (suc n) [] h i = omega arith
take_fits (suc n) (x ∷ xs) h zero = (h zero).fits
take_fits (suc n) (x ∷ xs) h (suc i) = take_fits n xs (λ k. h (suc k)) i

-- the bytes at the front of a text are bytes
pub front_fits : (n : ℕ) (text front : List ℕ) → front ≡ take n text → ((i : ℕ) → Fits w8 (get_or text i 0)) → (i : ℕ) → get_or front i 0 < 256
front_fits n text front is fits i = subst (λ f. get_or f i 0 < 256) (sym is) (take_fits n text fits i)

first_step : (text : List ℕ) (st : Step Weights) (rest : List ℕ) → HasLine st → text ≡ step_line st ++ 10 ∷ rest → BeginsWithStep text st rest
first_step text st rest has is = record { has_line = has; is_first = record { no_feed = step_lacks st has.is_step; whole = inl is } }

-- the last word of a line
last_word : (word text behind rest : List ℕ) → text ≡ word ++ behind → behind ≡ 10 ∷ rest → text ≡ (word ++ []) ++ 10 ∷ rest
last_word word text behind rest is feed = is ∙ ap (λ b. word ++ b) feed ∙ ap (λ w. w ++ 10 ∷ rest) (sym (append-nil word))

-- a word before others
word_before : (word more text behind others rest : List ℕ) → text ≡ word ++ behind → behind ≡ 32 ∷ others → others ≡ more ++ 10 ∷ rest → text ≡ (word ++ 32 ∷ more) ++ 10 ∷ rest
word_before word more text behind others rest is space so =
    is ∙ ap (λ b. word ++ b) (space ∙ ap (λ o. 32 ∷ o) so) ∙ sym (append_assoc word (32 ∷ more) (10 ∷ rest))

few_digits : (n : ℕ) → n < 2 ^ 64 → length (decimal n) ≤ 20
few_digits n small = length-decimal-le 20 n (omega arith) (omega (arith, small)) small

pub first_delivery : (more : List ℕ) (n : ℕ) (behind rest : List ℕ) → n < 2 ^ 64 → more ≡ decimal n ++ behind → behind ≡ 10 ∷ rest
    → BeginsWithStep (codes "deliver " ++ more) (step.Deliver n) rest
first_delivery more n behind rest small is feed =
    let few = few_digits n small in
    first_step _ (step.Deliver n) rest (record { is_step = (small, tt); short = omega (arith, few, length-append (decimal n) []) })
    (ap (λ m. codes "deliver " ++ m) (last_word (decimal n) more behind rest is feed))

pub first_advance : (more : List ℕ) (c : CallId) (behind rest : List ℕ) → IsCall c → more ≡ call_text c ++ behind → behind ≡ 10 ∷ rest
    → BeginsWithStep (codes "advance " ++ more) (step.Advance c) rest
first_advance more c behind rest call is feed =
    let name = few_digits c.name (let small = call.0 in omega (arith, small)) in
    let number = few_digits c.number call.2 in
    first_step _ (step.Advance c) rest (record { is_step = (call, tt); short = omega (arith, name, number, length-append (decimal c.name) (46 ∷ decimal c.number), length-append (call_text c) []) })
    (ap (λ m. codes "advance " ++ m) (last_word (call_text c) more behind rest is feed))

pub first_sending : (more names : List ℕ) (n to : ℕ) (behind_from name behind rest : List ℕ) → IsName n → IsName to → more ≡ 32 ∷ names → names ≡ decimal n ++ behind_from
    → behind_from ≡ 32 ∷ name → name ≡ decimal to ++ behind → behind ≡ 10 ∷ rest → BeginsWithStep (codes "send" ++ more) (step.Send n to) rest
first_sending more names n to behind_from name behind rest from_name to_name space from between too feed =
    let few = few_digits n (omega (arith, from_name)) in
    let others = few_digits to (omega (arith, to_name)) in
    let last = last_word (decimal to) name behind rest too feed in
    first_step _ (step.Send n to) rest (record {
      is_step = (from_name, (to_name, tt));
      short = omega (arith, few, others, length-append (decimal to) [], length-append (decimal n) (32 ∷ (decimal to ++ [])));
    })
    (ap (λ m. codes "send" ++ m) (space ∙ ap (λ m. 32 ∷ m) (word_before (decimal n) (decimal to ++ []) names behind_from name rest from between last)))

few_pairs : (bs : List ℕ) → length bs ≤ 15 → length (hex_text bs) ≤ 30
few_pairs [] few = omega arith
few_pairs (b ∷ bs) few = let pairs = length-pairs bs in omega (arith, pairs, few)

pub first_get : (more : List ℕ) (n : ℕ) (key behind_name word behind rest : List ℕ) → IsName n → AreBytes key → length key ≤ 15 → more ≡ decimal n ++ behind_name
    → behind_name ≡ 32 ∷ word → word ≡ hex_text key ++ behind → behind ≡ 10 ∷ rest → BeginsWithStep (codes "get " ++ more) (step.Call n (op.Get key)) rest
first_get more n key behind_name word behind rest name bytes few is space hex feed =
    let digits = few_digits n (omega (arith, name)) in
    let pairs = few_pairs key few in
    let last = last_word (hex_text key) word behind rest hex feed in
    first_step _ (step.Call n (op.Get key)) rest (record {
      is_step = (name, (bytes, tt));
      short = omega (arith, digits, pairs, length-append (hex_text key) [], length-append (decimal n) (32 ∷ (hex_text key ++ [])));
    })
    (ap (λ m. codes "get " ++ m) (word_before (decimal n) (hex_text key ++ []) more behind_name word rest is space last))

pub first_set : (more : List ℕ) (n : ℕ) (key value behind_name words behind_key word behind rest : List ℕ) → IsName n → AreBytes key → length key ≤ 15 → AreBytes value → length value ≤ 15
    → more ≡ decimal n ++ behind_name → behind_name ≡ 32 ∷ words → words ≡ hex_text key ++ behind_key → behind_key ≡ 32 ∷ word → word ≡ hex_text value ++ behind → behind ≡ 10 ∷ rest
    → BeginsWithStep (codes "set " ++ more) (step.Call n (op.Set key value)) rest
first_set more n key value behind_name words behind_key word behind rest name bytes few its_bytes its_few is space hex between its_hex feed =
    let digits = few_digits n (omega (arith, name)) in
    let pairs = few_pairs key few in
    let its_pairs = few_pairs value its_few in
    let last = last_word (hex_text value) word behind rest its_hex feed in
    let both = word_before (hex_text key) (hex_text value ++ []) words behind_key word rest hex between last in
    first_step _ (step.Call n (op.Set key value)) rest (record {
      is_step = (name, (bytes, (its_bytes, tt)));
      short = omega (arith, digits, pairs, its_pairs, length-append (hex_text value) [], length-append (hex_text key) (32 ∷ (hex_text value ++ [])), length-append (decimal n) (32 ∷ (hex_text key ++ 32 ∷ (hex_text value ++ []))));
    })
    (ap (λ m. codes "set " ++ m) (word_before (decimal n) (hex_text key ++ 32 ∷ (hex_text value ++ [])) more behind_name words rest is space both))
