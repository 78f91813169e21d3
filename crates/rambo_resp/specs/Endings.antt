-- Where a decoder is after its whole commands
use Rattle.std.specs.Prelude.{ℕ, Bool, false, true, if◌then◌else◌, List, [], ◌∷◌, Option, Some, None}
use Rattle.rambo_resp.specs.Rests.{Rest, spelled}
use Rattle.rambo_resp.specs.Streams.{Ending, open_at, faulty}
use Rattle.rambo_resp.specs.Progresses.{ProgressState, after, rest_after, whole, fresh}
use Rattle.rambo_resp.specs.declared.awaited.Awaited.{Awaited}
use Rattle.rambo_resp.specs.declared.awaited.Awaited.TheVariants.{Star}
use Rattle.rambo_resp.specs.declared.fault.Fault.{Fault}

abbrev pub ending_of : Option Fault → ProgressState → Ending
ending_of None p = open_at (spelled p.rest) p.place
ending_of (Some fault) p = faulty fault

-- whether a spelling is whole
abbrev pub is_star : Awaited → Bool
is_star Star = true
is_star _ = false

-- reading further bytes of a command, as far as it isn't whole
pub data Drive : Type 0 where
  at : Rest → Drive
  done : List (List (List ℕ)) → List ℕ → Drive
  stuck : Drive

unfoldable pub drive : Rest → List ℕ → Drive
drive r [] = at r
drive r (b ∷ bs) = elim (after r.awaited b) as (λ _. Drive) [
  | None ↦ stuck
  | Some a ↦ if is_star a then done (whole r) bs else drive (rest_after r b a) bs
]

abbrev pub where_at : Drive → Option Rest
where_at (at r) = Some r
where_at (done cs bs) = None
where_at stuck = None

-- where the bytes of a command that has begun lead, read one by one
unfoldable pub reached : Rest → Option Rest
reached r = where_at (drive fresh (spelled r))
