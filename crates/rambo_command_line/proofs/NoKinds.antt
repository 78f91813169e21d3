-- Lists of kinds of errors
use Rattle.std.proofs.Common.{◌≡◌, Bool, true, false, refl, sym, ap, [], ◌∷◌, true≢false}
use Rattle.clap.specs.Kinds.{Kinds, or_else}
use Rattle.clap.specs.declared.error.kind.ErrorKind.{ErrorKind}

abbrev is_none : Kinds → Bool
is_none [] = true
is_none (k ∷ ks) = false

pub some_kind : (k : ErrorKind) (ks : Kinds) → k ∷ ks ≡ [] → ⊥
some_kind k ks e = true≢false (sym (ap is_none e))

pub first_none : (a b : Kinds) → or_else a b ≡ [] → a ≡ []
first_none [] b e = refl
first_none (k ∷ ks) b e = absurd (some_kind _ _ e)

pub second_none : (a b : Kinds) → or_else a b ≡ [] → b ≡ []
second_none [] b e = e
second_none (k ∷ ks) b e = absurd (some_kind _ _ e)
