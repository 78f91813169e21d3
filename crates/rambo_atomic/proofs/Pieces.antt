-- A piece that was read
use Rattle.std.proofs.Common.{◌≡◌, ℕ, ◌+◌, ◌++◌, List, take, drop, length, sym, ap, ◌∙◌}
use Rattle.std.proofs.Math.Seq.{take-append_seam}
use Rattle.std.proofs.lemmas.List.{take-append-drop, drop-drop}

-- the piece and what is left behind it are all that was left
pub piece-read : (xs copied into : List ℕ) (p n : ℕ) → copied ≡ take n (drop p xs) → length copied ≡ n
    → drop p xs ≡ take n (copied ++ drop n into) ++ drop (p + n) xs
piece-read xs copied into p n is size =
    let front : take n (copied ++ drop n into) ≡ copied = ap (λ k. take k (copied ++ drop n into)) (sym size) ∙ take-append_seam copied (drop n into) in
    let later : drop n (drop p xs) ≡ drop (p + n) xs = drop-drop n p xs in
    sym (take-append-drop n (drop p xs)) ∙ (λ i. (sym is ∙ sym front) i ++ later i)
