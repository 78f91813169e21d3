-- Commands of two or three short items
use Rattle.std.proofs.Common.{◌≡◌, ℕ, ◌+◌, ◌≤◌, Bool, true, false, ◌&&◌, nat_eq, is_some, List, [], ◌∷◌, ◌++◌, length, get_or, drop, Option, Some, None, IfNone, refl, sym, ap, ◌∙◌, subst, arith, append_assoc, append-nil, length-append}
use Rattle.std.proofs.lemmas.List.{drop_at}
use Rattle.std.specs.List.{flat_map, AllByRecursion}
use Rattle.rambo_resp.specs.declared.awaited.Awaited.{Awaited}
use Rattle.rambo_resp.specs.declared.awaited.Awaited.TheVariants.{Star, Count, CountMinus, CountMinusOne, CountDigits, CountFeed, NoCountFeed, Dollar, Length, LengthDigits, LengthFeed, Bytes, ItemFeed}
use Rattle.rambo_resp.specs.Spellings.{number_line, item_spelling, command_spelling, IsShort}
use Rattle.rambo_resp.specs.declared.fault.Fault.{Fault}
use Rattle.rambo_resp.specs.Rests.{spelled_as, spelled}
use Rattle.rambo_resp.specs.Progresses.{ProgressState}
use Rattle.rambo_resp.specs.Streams.{Part, texts, commands_of, place_of, open_at, EndsAs}
use Rattle.rambo_resp.specs.Decoders.{DecoderState, HasTaken}
use Rattle.rambo_resp.specs.Endings.{is_star}
use Rattle.rambo_resp.specs.BriefCommands.{IsBrief, IsBriefCommand, is_between, with_waiting}
use Rattle.rambo_resp.proofs.ByteTests.{same}
use Rattle.rambo_resp.proofs.Feeding.{view}
use Rattle.rambo_resp.proofs.Items.{same_item, one_digit_line}
use Rattle.rambo_resp.proofs.Readings.{parts_push, texts_push, commands_push, waits}

-- what none was found of is kept
pub none_kept : {A : Type 0} (r : Option A) (P : Type 0) → P → IfNone r P
none_kept (Some x) P p = tt
none_kept None P p = p

pub none_then : {A : Type 0} (r : Option A) (P Q : Type 0) → (P → Q) → IfNone r P → IfNone r Q
none_then (Some x) P Q f p = tt
none_then None P Q f p = f p

-- what follows a short item is the same, however it is spelt
pub same_behind : (a b r s : List ℕ) → IsBrief a → IsBrief b → item_spelling a ++ r ≡ item_spelling b ++ s → r ≡ s
same_behind a b r s h k e =
    let line : List ℕ = number_line 36 (length a) in
    let split : line ++ (a ++ (13 ∷ 10 ∷ r)) ≡ item_spelling a ++ r = sym (append_assoc line (a ++ 13 ∷ 10 ∷ []) r ∙ ap (λ bs. line ++ bs) (append_assoc a (13 ∷ 10 ∷ []) r)) in
    let same = same_item (length a) (a ++ (13 ∷ 10 ∷ r)) b s h k (split ∙ e) in
    let behind : 13 ∷ 10 ∷ r ≡ 13 ∷ 10 ∷ s =
    sym (drop_at a (13 ∷ 10 ∷ r) (length a) refl) ∙ ap (drop (length a)) same.1 ∙ drop_at b (13 ∷ 10 ∷ s) (length a) (sym same.0) in
    ap (drop 2) behind

-- lines of arrays of few items are one only where they have one number, and what follows is the same
same_count : (n m : ℕ) (a b : List ℕ) → n ≤ 9 → m ≤ 9 → number_line 42 n ++ a ≡ number_line 42 m ++ b → (n ≡ m) × (a ≡ b)
same_count n m a b h k e =
    let l : 42 ∷ (48 + n) ∷ 13 ∷ 10 ∷ a ≡ 42 ∷ (48 + m) ∷ 13 ∷ 10 ∷ b = sym (one_digit_line 42 n a h) ∙ e ∙ one_digit_line 42 m b k in
    let digit : 48 + n ≡ 48 + m = ap (λ s. get_or s 1 0) l in
    (omega (arith, digit), ap (drop 4) l)

-- the items of a command whose line was read
pub behind_count : (n : ℕ) (bytes behind : List ℕ) (items : List (List ℕ)) (rest : List ℕ) → n ≤ 9 → bytes ≡ number_line 42 n ++ behind → IsBriefCommand items
    → bytes ≡ command_spelling items ++ rest → (n ≡ length items) × (behind ≡ flat_map item_spelling items ++ rest)
behind_count n bytes behind items rest h split short e =
    same_count n (length items) behind (flat_map item_spelling items ++ rest) h (omega (arith, short.few))
    (sym split ∙ e ∙ append_assoc (number_line 42 (length items)) (flat_map item_spelling items) rest)

-- they aren't two, where no two are there
pub not_two : (behind : List ℕ) → ((name word rest : List ℕ) → IsBrief name → IsBrief word → behind ≡ item_spelling name ++ (item_spelling word ++ rest) → ⊥)
    → (items : List (List ℕ)) (rest : List ℕ) → 2 ≡ length items → AllByRecursion IsBrief items → behind ≡ flat_map item_spelling items ++ rest → ⊥
not_two behind none [] rest n h e = omega (arith, n)
not_two behind none (a ∷ []) rest n h e = omega (arith, n)
not_two behind none (a ∷ b ∷ []) rest n h e =
    none a b rest h.0 h.1.0
    (e ∙ append_assoc (item_spelling a) (item_spelling b ++ []) rest ∙ ap (λ t. item_spelling a ++ (t ++ rest)) (append-nil (item_spelling b)))
not_two behind none (a ∷ b ∷ c ∷ items) rest n h e = omega (arith, n)

-- nor three
pub not_three : (behind : List ℕ)
    → ((name first second rest : List ℕ) → IsBrief name → IsBrief first → IsBrief second → behind ≡ item_spelling name ++ (item_spelling first ++ (item_spelling second ++ rest)) → ⊥)
    → (items : List (List ℕ)) (rest : List ℕ) → 3 ≡ length items → AllByRecursion IsBrief items → behind ≡ flat_map item_spelling items ++ rest → ⊥
not_three behind none [] rest n h e = omega (arith, n)
not_three behind none (a ∷ []) rest n h e = omega (arith, n)
not_three behind none (a ∷ b ∷ []) rest n h e = omega (arith, n)
not_three behind none (a ∷ b ∷ c ∷ []) rest n h e =
    none a b c rest h.0 h.1.0 h.1.1.0
    (e ∙ append_assoc (item_spelling a) (item_spelling b ++ (item_spelling c ++ [])) rest
    ∙ ap (λ t. item_spelling a ++ t) (append_assoc (item_spelling b) (item_spelling c ++ []) rest ∙ ap (λ t. item_spelling b ++ (t ++ rest)) (append-nil (item_spelling c))))
not_three behind none (a ∷ b ∷ c ∷ d ∷ items) rest n h e = omega (arith, n)

-- where a command begins, nothing has come of it
pub star_none : (w : Awaited) (items : List (List ℕ)) (item : List ℕ) → is_star w ≡ true → spelled_as w items item ≡ []
star_none Star items item e = refl
star_none Count items item e = cc
star_none CountMinus items item e = cc
star_none CountMinusOne items item e = cc
star_none (CountDigits n) items item e = cc
star_none (CountFeed n) items item e = cc
star_none NoCountFeed items item e = cc
star_none (Dollar left) items item e = cc
star_none (Length left) items item e = cc
star_none (LengthDigits left n) items item e = cc
star_none (LengthFeed left n) items item e = cc
star_none (Bytes left more) items item e = cc
star_none (ItemFeed left) items item e = cc

both_true : (a b : Bool) → (a && b) ≡ true → (a ≡ true) × (b ≡ true)
both_true true b e = (refl, e)
both_true false b e = cc

none_long : (xs : List (List (List ℕ))) → length xs ≡ 0 → xs ≡ []
none_long [] h = refl
none_long (x ∷ xs) h = absurd (omega (arith, h))

brief_short : (items : List (List ℕ)) → AllByRecursion IsBrief items → AllByRecursion IsShort items
brief_short [] h = tt
brief_short (x ∷ xs) h = (omega (arith, h.0), brief_short xs h.1)

-- a whole command that was taken where it lay
pub taken_there : (d e : DecoderState) (place n : ℕ) (items : List (List ℕ)) (stream : List ℕ) (given : ℕ) → d.waiting ≡ [] → d.ending ≡ open_at [] place → IsBriefCommand items
    → n ≡ length (command_spelling items) → e.ending ≡ open_at [] (place_of (place + n)) → HasTaken d stream given
    → HasTaken (with_waiting e items) (stream ++ command_spelling items) given
taken_there d e place n items stream given none between short size now h =
    let r = h.reads in
    let part : Part = record { text = command_spelling items; tells = Some items } in
    let ends : EndsAs (length (texts r.parts)) r.rest (open_at [] place) = subst (EndsAs (length (texts r.parts)) r.rest) between r.ends in
    let empty : r.rest ≡ [] = sym ends.1 in
    let all : texts (r.parts ++ part ∷ []) ≡ texts r.parts ++ command_spelling items = texts_push r.parts part in
    let text : stream ++ command_spelling items ≡ texts (r.parts ++ part ∷ []) ++ r.rest =
    ap (λ t. t ++ command_spelling items) (r.split ∙ ap (λ t. texts r.parts ++ t) empty ∙ append-nil (texts r.parts)) ∙ sym all
    ∙ sym (append-nil (texts (r.parts ++ part ∷ []))) ∙ ap (λ t. texts (r.parts ++ part ∷ []) ++ t) (sym empty) in
    let place_is : place_of (place + n) ≡ place_of (length (texts (r.parts ++ part ∷ [])) + length r.rest) =
    omega (arith, ends.2, size, ap length all, length-append (texts r.parts) (command_spelling items)) in
    let told = commands_push r.parts part in
    let ended : EndsAs (length (texts (r.parts ++ part ∷ []))) r.rest (open_at [] (place_of (place + n))) = (ends.0, ends.1, place_is) in
    record {
      commands = commands_of (r.parts ++ part ∷ []);
      reads = record {
        parts = r.parts ++ part ∷ [];
        each = parts_push r.parts part r.each (record { some = omega (arith, short.some); few = omega (arith, short.few); short = brief_short items short.brief }, refl);
        rest = r.rest;
        split = text;
        spelled_none = r.spelled_none;
        told = refl;
        ends = subst (EndsAs (length (texts (r.parts ++ part ∷ []))) r.rest) (sym now) ended;
      };
      few = omega (arith, h.few, ap length r.told, ap length told, length-append (commands_of r.parts) (items ∷ []));
      waiting = waits given [] (commands_of r.parts) (items ∷ []) (subst (λ t. given ≤ length t) r.told h.few) (sym none ∙ h.waiting ∙ ap (drop given) r.told) ∙ ap (drop given) (sym told);
    }

between_parts : (p : ProgressState) → is_between p ≡ true → (p.waiting ≡ []) × (spelled p.rest ≡ [])
between_parts p e =
    let k = both_true (nat_eq (length p.waiting) 0) (is_star p.rest.awaited) e in
    (none_long p.waiting (same (length p.waiting) 0 k.0), star_none p.rest.awaited p.rest.items p.rest.item k.1)

-- the same of a decoder by its parts
pub taken_by : (p q : ProgressState) (fault : Option Fault) (d : DecoderState) (n : ℕ) (items : List (List ℕ)) (stream : List ℕ) (given : ℕ) → is_some fault ≡ false → is_between p ≡ true
    → view p fault ≡ d → q ≡ record p { place = place_of (p.place + n) } → IsBriefCommand items → n ≡ length (command_spelling items) → HasTaken d stream given
    → HasTaken (with_waiting (view q fault) items) (stream ++ command_spelling items) given
taken_by p q (Some f) d n items stream given e between is now short size h = cc
taken_by p q None d n items stream given e between is now short size h =
    let k = between_parts p between in
    let next : ProgressState = record p { place = place_of (p.place + n) } in
    subst (λ x. HasTaken (with_waiting (view x None) items) (stream ++ command_spelling items) given) (sym now)
    (taken_there (view p None) (view next None) p.place n items stream given k.0 (ap (λ t. open_at t p.place) k.1) short size (ap (λ t. open_at t (place_of (p.place + n))) k.1)
    (subst (λ x. HasTaken x stream given) (sym is) h))
