-- What holds of a writer that was not written to
use Rattle.std.proofs.Common.{ℕ, List, [], append-nil, refl, sym}
use Rattle.std.specs.Prelude.{Option, Some, None}
use Rattle.std.specs.Io.KnownBytes.{Appends}
use Rattle.rambo_telling.specs.Telling.{Takes, stream}

appends_none : (held : Option (List ℕ)) → Appends held held []
appends_none None = tt
appends_none (Some xs) = sym (append-nil xs)

pub takes_nothing : {S : Type 0} (taken : S → Option (List ℕ)) (failures : S → ℕ) (x : S) → Takes [] (stream taken failures x x)
takes_nothing taken failures x = record { fine = refl; taken = appends_none (taken x) }
