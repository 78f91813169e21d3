-- Votes: what an acceptor has promised and accepted (Lamport, "Paxos Made Simple", 2001)
use Rattle.std.specs.Prelude.{Bool, false, if◌then◌else◌, nat_eq, ◌-◌, ◌^◌, Option, None, Some}
use Rattle.rambo_paxos.specs.declared.ballot.Ballot.{Ballot}
use Rattle.rambo_paxos.specs.declared.proposal.Proposal.{Proposal}
use Rattle.rambo_paxos.specs.declared.offer.Offer.{Offer}
use Rattle.rambo_paxos.specs.declared.offer.Offer.TheVariants as offer
use Rattle.rambo_paxos.specs.Ballots.{exceeds, is_below, is_ballot, round_of, same_ballot}

-- the greatest ballot that was promised, and the last proposal that was accepted, if any
pub record VoteState (Q : Type 0) : Type 0 where
  pub promised : Option Ballot
  pub accepted : Option (Proposal Q)

-- at first nothing is promised, and nothing accepted
abbrev pub empty_vote : {Q : Type 0} → VoteState Q
empty_vote = record { promised = None; accepted = None }

-- the vote after an offer: a greater ballot is promised, and a proposal is accepted unless its ballot is below the promise
abbrev pub taken : {Q : Type 0} → VoteState Q → Offer Q → VoteState Q
taken v (offer.Prepare b) = if exceeds b v.promised then record { promised = Some b; accepted = v.accepted } else v
taken v (offer.Propose b c) = if is_below b v.promised then v else record { promised = Some b; accepted = Some (record { ballot = b; config = c }) }

-- the vote after an offer, if there is one
abbrev pub taken_if : {Q : Type 0} → VoteState Q → Option (Offer Q) → VoteState Q
taken_if v None = v
taken_if v (Some o) = taken v o

-- whether the vote promised this ballot, and none since
abbrev pub has_promised : {Q : Type 0} → VoteState Q → Ballot → Bool
has_promised v b = is_ballot v.promised b

-- whether there is a proposal, and it was made in this ballot
abbrev pub is_made_in : {Q : Type 0} → Option (Proposal Q) → Ballot → Bool
is_made_in None b = false
is_made_in (Some p) b = same_ballot p.ballot b

-- whether the vote accepted a proposal of this ballot, and none since
abbrev pub has_accepted : {Q : Type 0} → VoteState Q → Ballot → Bool
has_accepted v b = is_made_in v.accepted b

-- whether no round is left above the promised one
abbrev pub is_spent : {Q : Type 0} → VoteState Q → Bool
is_spent v = nat_eq (round_of v.promised) (2 ^ 64 - 1)
