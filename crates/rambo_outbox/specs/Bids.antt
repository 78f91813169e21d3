-- How far an attempt is
use Rattle.std.specs.Prelude.{Bool, true, false, not, ◌&&◌, Option, None, Some}
use Rattle.rambo_paxos.specs.Ballots.{same_ballot}
use Rattle.rambo_outbox.specs.declared.opened.BidStage.{BidStage}

-- both are true, or both are false
abbrev pub agree : Bool → Bool → Bool
agree true b = b
agree false b = not b

-- the same ballot, at the same stage
abbrev pub same_stage : BidStage → BidStage → Bool
same_stage a b = same_ballot a.ballot b.ballot && agree a.proposes b.proposes

-- whether a bid was asked for, and is this one
abbrev pub is_stage : Option BidStage → BidStage → Bool
is_stage None b = false
is_stage (Some a) b = same_stage a b

-- whether a bid is open that was asked for
abbrev pub is_asked_bid : Option BidStage → Option BidStage → Bool
is_asked_bid asked None = false
is_asked_bid asked (Some b) = is_stage asked b

-- whether a bid is open that wasn't asked for
abbrev pub is_new_bid : Option BidStage → Option BidStage → Bool
is_new_bid asked None = false
is_new_bid asked (Some b) = not (is_stage asked b)
