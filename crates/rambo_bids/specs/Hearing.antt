-- What a node sends of its own attempt, and what its vote and its attempt make of another's
use Rattle.std.specs.Prelude.{ℕ, Bool, if◌then◌else◌, nat_eq, nat_lt, Option, None, Some}
use Rattle.rambo_config_map.specs.Maps.{MapState, end_of, merged_map}
use Rattle.rambo_paxos.specs.declared.offer.Offer.{Offer}
use Rattle.rambo_paxos.specs.Attempts.{AttemptState, heard_vote, offer_of}
use Rattle.rambo_paxos.specs.Votes.{VoteState, empty_vote, taken_if}

-- what an attempt for this place asks, if one is open
abbrev pub offer_for : {Q : Type 0} → ℕ → Option (AttemptState Q) → Option (Offer Q)
offer_for place None = None
offer_for place (Some a) = if nat_eq a.place place then Some (offer_of a) else None

-- whether a map that is sent has the first unknown place of the two merged: then what is sent with it is for this place
abbrev pub is_level : {Q : Type 0} → MapState Q → MapState Q → Bool
is_level m told = nat_eq (end_of told) (end_of (merged_map m told))

-- a vote is for the first unknown place: where that place has become known, the vote for the next one is empty
abbrev pub vote_kept : {Q : Type 0} → MapState Q → VoteState Q → MapState Q → VoteState Q
vote_kept m v told = if nat_lt (end_of m) (end_of told) then empty_vote else v

-- and it takes an offer that is for the same place
abbrev pub vote_after : {Q : Type 0} → MapState Q → VoteState Q → MapState Q → Option (Offer Q) → VoteState Q
vote_after m v told offer = if is_level m told then taken_if (vote_kept m v told) offer else vote_kept m v told

-- an attempt for this place hears a vote
abbrev pub heard_for : {Q : Type 0} → ℕ → Option (AttemptState Q) → ℕ → VoteState Q → Option (AttemptState Q)
heard_for place None j v = None
heard_for place (Some a) j v = Some (if nat_eq a.place place then heard_vote a j v else a)

-- an attempt hears a vote of node j that is for its place
abbrev pub attempt_after : {Q : Type 0} → MapState Q → Option (AttemptState Q) → ℕ → MapState Q → VoteState Q → Option (AttemptState Q)
attempt_after m o j told v = if is_level m told then heard_for (end_of told) o j v else o
