-- Commands of two or three short items
use Rattle.std.specs.Prelude.{◌≡◌, ℕ, ◌≤◌, Bool, ◌&&◌, nat_eq, List, [], ◌∷◌, length}
use Rattle.std.specs.List.{AllByRecursion}
use Rattle.rambo_resp.specs.Streams.{open_at}
use Rattle.rambo_resp.specs.Decoders.{DecoderState}
use Rattle.rambo_resp.specs.Progresses.{ProgressState}
use Rattle.rambo_resp.specs.Endings.{is_star}
use Rattle.rambo_resp.specs.declared.brief_command.BriefCommand.{BriefCommand}
use Rattle.rambo_resp.specs.declared.brief_command.BriefCommand.TheVariants.{Two, Three}

abbrev pub items_of : BriefCommand → List (List ℕ)
items_of (Two name word) = name.now ∷ word.now ∷ []
items_of (Three name first second) = name.now ∷ first.now ∷ second.now ∷ []

-- at most 99 bytes
abbrev pub IsBrief : List ℕ → Type 0
IsBrief item = length item ≤ 99

-- two or three of these
pub record IsBriefCommand (items : List (List ℕ)) : Type 0 where
  pub some : 2 ≤ length items
  pub few : length items ≤ 3
  pub brief : AllByRecursion IsBrief items

-- no command has begun, and none waits
pub record IsBetween (d : DecoderState) : Type 0 where
  pub given : d.waiting ≡ []
  pub place : ℕ
  pub whole : d.ending ≡ open_at [] place

abbrev pub is_between : ProgressState → Bool
is_between p = nat_eq (length p.waiting) 0 && is_star p.rest.awaited

-- the same decoder, of which this command alone waits
abbrev pub with_waiting : DecoderState → List (List ℕ) → DecoderState
with_waiting d items = record d { waiting = items ∷ [] }
