-- Whom a node asks before all others, turn by turn
use Rattle.std.specs.Prelude.{◌≡◌, ℕ, zero, suc, true, false, Option, slice_get}
use Rattle.std.specs.FinSet as set
use Rattle.rambo_names.specs.Names.{NameSet}
use Rattle.rambo_names.specs.Quorums.{QuorumSystem}
use Rattle.rambo_outbox.specs.declared.asking.Choice.{Choice}
use Rattle.rambo_outbox.specs.Asking.{next_turn, in_turn, those}

-- the first in turn who wasn't silent lately
abbrev pub first_in_turn : {Q : Type 0} → QuorumSystem Q → Choice → Q → Option ℕ
first_in_turn s c q = slice_get (those c.silent false (in_turn s c q)) 0

-- so many turns on
abbrev pub turns_on : ℕ → ℕ → ℕ
turns_on zero turn = turn
turns_on (suc i) turn = turns_on i (next_turn turn)

-- what a node chooses by so many turns on, with those that are silent then
abbrev pub choice_on : (ℕ → NameSet) → Choice → ℕ → Choice
choice_on silent c i = record c { silent = silent i; turn = turns_on i c.turn }

-- none of these is silent
abbrev pub AreHeard : NameSet → NameSet → Type 0
AreHeard silent who = (n : ℕ) → set.contains who n ≡ true → set.contains silent n ≡ false
