-- Texts that may be there
use Rattle.std.proofs.Common.{◌≡◌, ℕ, List, Bor, is_some, refl}
use Rattle.std.specs.Prelude.{Option, Some, None, option_map}
use Rattle.std.specs.Option.{unwrap_or}

pub unwrap_now : (o : Option (Bor (List ℕ))) (d : Bor (List ℕ)) → (unwrap_or o d).now ≡ unwrap_or (option_map (λ s. s.now) o) d.now
unwrap_now None d = refl
unwrap_now (Some x) d = refl

pub some_now : (o : Option (Bor (List ℕ))) → is_some o ≡ is_some (option_map (λ s. s.now) o)
some_now None = refl
some_now (Some x) = refl
