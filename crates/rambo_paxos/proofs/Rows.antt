-- Worked rows of moves: node 1 proposes 12, which node 2 accepts; then node 3 wishes 23, is told of 12, and chooses it.
-- Here a configuration is a number, and every set is a quorum, so that the rows compute
use Rattle.std.specs.Prelude.{◌≡◌, ℕ, true, List, [], ◌∷◌, ◌++◌, None, Some}
use Rattle.std.proofs.Common.{refl}
use Rattle.std.specs.FinSet as set
use Rattle.rambo_names.specs.Quorums.{QuorumSystem}
use Rattle.rambo_paxos.specs.declared.ballot.Ballot.{Ballot}
use Rattle.rambo_paxos.specs.declared.offer.Offer.TheVariants as offer
use Rattle.rambo_paxos.specs.Votes.{VoteState, empty_vote}
use Rattle.rambo_paxos.specs.Attempts.{opened, heard_vote, proposing}
use Rattle.rambo_paxos.specs.Moves.{Move, Open, Rebid, Take, Hear, Advance, seat_from, seat_after}

abbrev all : QuorumSystem ℕ
all = record { members = λ q. set.empty; is_quorum = λ q who. true }

abbrev first : Ballot
first = record { round = 1; name = 1 }

abbrev third : Ballot
third = record { round = 1; name = 3 }

abbrev second : Ballot
second = record { round = 2; name = 1 }

-- what node 2 holds once it has promised node 1, promised node 3 after it accepted 12, and accepted 12 again
abbrev promised_first : VoteState ℕ
promised_first = record { promised = Some first; accepted = None }

abbrev promised_third : VoteState ℕ
promised_third = record { promised = Some third; accepted = Some (record { ballot = first; config = 12 }) }

abbrev accepted_third : VoteState ℕ
accepted_third = record { promised = Some third; accepted = Some (record { ballot = third; config = 12 }) }

abbrev moves : List (Move ℕ)
moves =
    Open 1 12 ∷ Take 2 (offer.Prepare first) ∷ Hear 1 2 promised_first ∷ Advance 1 ∷ Take 2 (offer.Propose first 12)
    ∷ Open 3 23 ∷ Take 2 (offer.Prepare third) ∷ Hear 3 2 promised_third ∷ Advance 3 ∷ Take 2 (offer.Propose third 12)
    ∷ Hear 3 2 accepted_third ∷ Advance 3 ∷ []

acceptor : (seat_after all 1 0 2 moves).vote ≡ accepted_third
unfolding seat_from
acceptor = refl

chooser : (seat_after all 1 0 3 moves).chosen ≡ Some 12
unfolding seat_from opened heard_vote proposing
chooser = refl

-- its vote is empty then, its attempt is over, and it does nothing more
over : seat_after all 1 0 3 (moves ++ Open 3 23 ∷ Advance 3 ∷ Advance 3 ∷ []) ≡ record { vote = empty_vote; attempt = None; chosen = Some 12 }
unfolding seat_from opened heard_vote proposing
over = refl

-- node 1 bids again with a fresh ballot, which its own vote promises
bidder : (seat_after all 1 0 1 (moves ++ Rebid 1 ∷ [])).vote ≡ record { promised = Some second; accepted = Some (record { ballot = first; config = 12 }) }
unfolding seat_from opened heard_vote proposing
bidder = refl
