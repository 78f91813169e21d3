-- Where line feeds stand
use Rattle.std.proofs.Common.{◌≡◌, ◌≤◌, ◌<◌, ◌+◌, ◌-◌, ◌^◌, ◌++◌, ◌∷◌, ℕ, suc, List, length, get_or, take, drop, inl, inr, refl, sym, ap, ◌∙◌, length-drop, get_or-drop, arith}
use Rattle.std.proofs.lemmas.Bool.{cases_lt}
use Rattle.std.proofs.lemmas.List.{take-append-drop, drop-drop, drop_more, take_rest, length-append, get_or_append_left, get_or-append_right}
use Rattle.std.proofs.Math.Seq.{get_or-append_seam, drop-append_seam}
use Rattle.rambo_atomic.specs.Unreads.{HasFeed, HasNoFeedFrom, EndsInPiece}

-- the line feed at the end of the lines that are held stands behind what was used
pub feed_held : (bytes : List ℕ) (start lines : ℕ) → start < lines → lines ≤ length bytes → get_or bytes (lines - 1) 0 ≡ 10 → HasFeed (drop start bytes)
feed_held bytes start lines more within feed =
    let n : ℕ = lines - 1 - start in
    let there : start + n ≡ lines - 1 = omega arith in
    let short : lines - 1 < length bytes = omega arith in (
      take n (drop start bytes),
      drop (lines - 1 + 1) bytes,
      sym (take-append-drop n (drop start bytes))
          ∙ ap (λ l. take n (drop start bytes) ++ l)
          (drop-drop n start bytes ∙ ap (λ k. drop k bytes) there ∙ drop_more bytes (lines - 1) 0 short ∙ ap (λ b. b ∷ drop (lines - 1 + 1) bytes) feed),
    )

-- where all lines were used, none is held
pub no_feed_held : (bytes : List ℕ) (start lines : ℕ) → lines ≤ start → HasNoFeedFrom lines bytes → ¬ (HasFeed (drop start bytes))
no_feed_held bytes start lines used none feed =
    let n : ℕ = length feed.0 in
    let many : length bytes - start ≡ n + suc (length feed.1) = sym (length-drop start bytes) ∙ ap length feed.2 ∙ length-append feed.0 (10 ∷ feed.1) in
    let is : get_or bytes (start + n) 0 ≡ 10 = sym (get_or-drop start bytes n 0) ∙ ap (λ l. get_or l n 0) feed.2 ∙ get_or-append_seam feed.0 10 feed.1 0 in
    none (start + n) (omega arith) (omega (arith, many)) is

-- the last line that has its line feed ends here
abbrev pub EndLines : List ℕ → ℕ → Type 0
EndLines bytes lines = (lines ≤ length bytes) × (0 < lines → get_or bytes (lines - 1) 0 ≡ 10) × HasNoFeedFrom lines bytes

-- what was used is dropped
pub lines_left : (bytes after : List ℕ) (start lines left : ℕ) → EndLines bytes lines → left ≡ lines - start → after ≡ drop start bytes → EndLines after left
lines_left bytes after start lines left is count e = (
  omega (arith, is.0, count, ap length e, length-drop start bytes),
  λ some. at (left - 1) ∙ ap (λ k. get_or bytes k 0) (let there : start + (left - 1) ≡ lines - 1 = omega (arith, some, count) in there) ∙ is.1 (omega (arith, some, count)),
  λ k low high feed. is.2 (start + k) (omega (arith, low, count)) (omega (arith, high, ap length e, length-drop start bytes)) (sym (at k) ∙ feed),
)
  where
    at : (k : ℕ) → get_or after k 0 ≡ get_or bytes (start + k) 0
    at k = ap (λ l. get_or l k 0) e ∙ get_or-drop start bytes k 0

-- bytes without a line feed are appended
pub lines_stay : (front new given seen : List ℕ) (lines end : ℕ) → EndLines front lines → new ≡ front ++ given → seen ≡ given → end ≤ 0 → HasNoFeedFrom end seen → EndLines new lines
lines_stay front new given seen lines end is e same none more = (
  omega (arith, is.0, ap length e, length-append front given),
  λ some. ap (λ l. get_or l (lines - 1) 0) e ∙ get_or_append_left front given 0 (lines - 1) (omega (arith, is.0, some)) ∙ is.1 some,
  λ k low high feed. elim (cases_lt k (length front)) [
    | inl h ↦ is.2 k low h (sym (get_or_append_left front given 0 k h) ∙ sym (ap (λ l. get_or l k 0) e) ∙ feed)
    | inr h ↦
        more (k - length front) (omega (arith, none)) (omega (arith, h, high, ap length e, length-append front given, ap length same))
        (ap (λ l. get_or l (k - length front) 0) same ∙ sym (get_or-append_right front given (length front) k 0 refl h) ∙ sym (ap (λ l. get_or l k 0) e) ∙ feed)
  ],
)

-- bytes are appended of which a line feed is the last one here
pub lines_end_later : (front new given seen : List ℕ) (before end : ℕ) → new ≡ front ++ given → before ≡ length front → seen ≡ given → 0 < end → end ≤ length seen
    → (0 < end → get_or seen (end - 1) 0 ≡ 10) → HasNoFeedFrom end seen → EndLines new (before + end)
lines_end_later front new given seen before end e b same some within feed more = (
  omega (arith, b, within, ap length e, length-append front given, ap length same),
  λ _. at (before + end - 1) (omega (arith, b, some)) ∙ ap (λ k. get_or seen k 0) (let there : before + end - 1 - length front ≡ end - 1 = omega (arith, b, some) in there) ∙ feed some,
  λ k low high is. more (k - length front) (omega (arith, b, low)) (omega (arith, b, low, high, ap length e, length-append front given, ap length same)) (sym (at k (omega (arith, b, low))) ∙ is),
)
  where
    at : (k : ℕ) → length front ≤ k → get_or new k 0 ≡ get_or seen (k - length front) 0
    at k h = ap (λ l. get_or l k 0) e ∙ get_or-append_right front given (length front) k 0 refl h ∙ sym (ap (λ l. get_or l (k - length front) 0) same)

-- the bytes from here on are those that were appended
pub seen_is : (bytes new front given : List ℕ) (before : ℕ) → bytes ≡ new → new ≡ front ++ given → before ≡ length front → take (length bytes - before) (drop before bytes) ≡ given
seen_is bytes new front given before is e b = take_rest bytes before ∙ ap (λ l. drop before l) (is ∙ e) ∙ ap (λ k. drop k (front ++ given)) b ∙ drop-append_seam front given

-- what is read while no line is held ends in a piece
pub in_last_piece : (before after given : List ℕ) → ¬ (HasFeed before) → after ≡ before ++ given → length after ≤ length before + 2 ^ 16 → EndsInPiece after
in_last_piece before after given none e few = (before, given, e, none, omega (arith, few, ap length e, length-append before given))
