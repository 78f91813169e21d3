-- The order of ballots: by round, then by name (Lamport, "Paxos Made Simple", 2001)
use Rattle.std.specs.Prelude.{ℕ, Bool, true, false, if◌then◌else◌, ◌&&◌, nat_eq, nat_lt, Option, None, Some}
use Rattle.rambo_paxos.specs.declared.ballot.Ballot.{Ballot}

abbrev pub ballot_lt : Ballot → Ballot → Bool
ballot_lt a b = if nat_lt a.round b.round then true else if nat_eq a.round b.round then nat_lt a.name b.name else false

abbrev pub same_ballot : Ballot → Ballot → Bool
same_ballot a b = nat_eq a.round b.round && nat_eq a.name b.name

-- whether a ballot is greater than the one that was promised, as any is where none was
abbrev pub exceeds : Ballot → Option Ballot → Bool
exceeds b None = true
exceeds b (Some promised) = ballot_lt promised b

-- whether a ballot is less than the one that was promised
abbrev pub is_below : Ballot → Option Ballot → Bool
is_below b None = false
is_below b (Some promised) = ballot_lt b promised

-- whether there is a ballot, and it is this one
abbrev pub is_ballot : Option Ballot → Ballot → Bool
is_ballot None b = false
is_ballot (Some a) b = same_ballot a b

-- the round of a ballot, 0 where there is none
abbrev pub round_of : Option Ballot → ℕ
round_of None = 0
round_of (Some b) = b.round
