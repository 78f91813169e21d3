-- Why a node may not begin to have a configuration chosen, or advance
use Rattle.std.specs.Prelude.{ℕ, ◌^◌, ◌-◌, Bool, false, not, ◌&&◌, nat_eq, nat_le, nat_lt, List, [], ◌∷◌, length, Option, None, Some, is_none}
use Rattle.std.specs.FinSet as set
use Rattle.rambo_names.specs.declared.refusal.Refusal.TheVariants.{NotMember, ReconOpen, TooManyActive, UnknownMember, EmptyMembers, NumbersSpent}
use Rattle.rambo_names.specs.Names.{NameSet, count_of}
use Rattle.rambo_names.specs.Quorums.{QuorumSystem}
use Rattle.rambo_names.specs.Refusals.{Cause, cause}
use Rattle.rambo_config_map.specs.Maps.{MapState, active_at, end_of, top_of}
use Rattle.rambo_gc.specs.Collections.{has_quorum}
use Rattle.rambo_paxos.specs.Attempts.{AttemptState}
use Rattle.rambo_paxos.specs.Votes.{VoteState, is_spent}

-- whether a name is a member of a configuration, if there is one
abbrev pub is_member : {Q : Type 0} → QuorumSystem Q → ℕ → Option Q → Bool
is_member s name None = false
is_member s name (Some c) = set.contains (s.members c) name

-- why a wish of node me may be refused, which knows these names and has this map, vote and attempt: in ascending order
-- of number
abbrev pub wish_causes : {Q : Type 0} → QuorumSystem Q → ℕ → NameSet → MapState Q → VoteState Q → Option (AttemptState Q) → Q → List Cause
wish_causes s me known m v o wish =
    cause NotMember (not (is_member s me (active_at m (top_of m)))) ∷ cause ReconOpen (not (is_none o))
    ∷ cause TooManyActive (nat_le 8 (length m.configs)) ∷ cause UnknownMember (not (set.is_subset (s.members wish) known))
    ∷ cause EmptyMembers (nat_eq (count_of (s.members wish)) 0)
    ∷ cause NumbersSpent (is_spent v) ∷ cause NumbersSpent (nat_eq (top_of m) (2 ^ 64 - 1)) ∷ []

-- whether an attempt is open for this place
abbrev pub is_for : {Q : Type 0} → ℕ → Option (AttemptState Q) → Bool
is_for place None = false
is_for place (Some a) = nat_eq a.place place

-- whether an attempt is open whose place a map doesn't know yet and whose quorum, one of the configuration at the top,
-- isn't there
abbrev pub attempt_waits : {Q : Type 0} → QuorumSystem Q → MapState Q → Option (AttemptState Q) → Bool
attempt_waits s m None = false
attempt_waits s m (Some a) = not (nat_lt a.place (end_of m)) && not (has_quorum s (active_at m (top_of m)) a.repliers)
