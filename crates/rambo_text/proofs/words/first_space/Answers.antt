use Rattle.std.proofs.Common.{◌≡◌, true, ℕ, ◌+◌, ◌-◌, List, length, take, drop, subst, sym, ap, ◌∙◌, length-drop, arith, inl, inr}
use Rattle.std.proofs.lemmas.Bool.{cases_lt}
use Rattle.std.proofs.lemmas.List.{get_or-drop}
use Rattle.memchr.specs.Find.{Nowhere, Passes, IsFirstByte, is_byte}
use Rattle.rambo_text.proofs.FirstBytes.{is_rest}
use Rattle.rambo_text.proofs.words.first_space.Goals as goal

-- a place in it
moved : (line rest : List ℕ) (n k : ℕ) → rest ≡ drop n line → Passes (is_byte 32) rest k ≡ Passes (is_byte 32) line (n + k)
moved line rest n k is = ap (λ xs. Passes (is_byte 32) xs k) is ∙ ap (λ b. is_byte 32 b ≡ true) (get_or-drop n line k 0)

-- no space among the first n bytes, and none among m behind them
none_so_far : (line rest : List ℕ) (n m : ℕ) → rest ≡ drop n line → Nowhere (Passes (is_byte 32) line) 0 n → Nowhere (Passes (is_byte 32) rest) 0 m
    → Nowhere (Passes (is_byte 32) line) 0 (n + m)
none_so_far line rest n m is before behind k low high passes =
    elim (cases_lt k n) [
      | inl near ↦ before k low near passes
      | inr far ↦
          (let there : n + (k - n) ≡ k = omega arith in
          behind (k - n) (omega arith) (omega arith) (subst (λ P. P) (sym (moved line rest n (k - n) is)) (subst (λ j. Passes (is_byte 32) line j) (sym there) passes)))
    ]

pub returns-in_err-behind : goal.returns-in_err-behind
returns-in_err-behind c =
    let line = c.args.line.now in
    let rest = take (length line - 16) (drop 16 line) in
    let long = ap length (is_rest line 16) ∙ length-drop 16 line in
    subst (IsFirstByte (is_byte 32) line) (sym c.from_residual.ensures)
    (λ k low high. none_so_far line rest 16 (length rest) (is_rest line 16) (λ j l h. c.loop-place.invariant j l (omega arith)) c.in_err-behind.ensures k low (omega (arith, long)))

pub returns : goal.returns
returns c =
    let line = c.args.line.now in
    let rest = take (length line - 16) (drop 16 line) in
    let long = ap length (is_rest line 16) ∙ length-drop 16 line in
    let found = c.in_ok-behind.ensures in (
      record {
        low = omega arith;
        high = (let h = found.0.high in omega (arith, long, h));
        before = none_so_far line rest 16 c.in_ok-behind.behind (is_rest line 16) (λ j l h. c.loop-place.invariant j l (omega arith)) found.0.before;
      },
      subst (λ P. P) (moved line rest 16 c.in_ok-behind.behind (is_rest line 16)) found.1,
    )
