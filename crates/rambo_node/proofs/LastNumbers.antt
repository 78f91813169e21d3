-- Whether a gap is found where there is no number for it, asked of the number first
use Rattle.std.proofs.Common.{◌≡◌, Bool, true, false, ◌&&◌, sym, ap, ◌∙◌}
use Rattle.std.proofs.Math.Bool.{and-true, and-false}

pub gap_at_last : (gap last found : Bool) → last ≡ true → found ≡ gap → found ≡ (gap && last)
gap_at_last gap last found is e = e ∙ sym (and-true gap) ∙ ap (λ b. gap && b) (sym is)

pub no_last : (gap last found : Bool) → last ≡ false → found ≡ last → found ≡ (gap && last)
no_last gap last found is e = e ∙ is ∙ sym (and-false gap) ∙ ap (λ b. gap && b) (sym is)
