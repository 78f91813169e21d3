-- Attempts: how a proposer has a configuration chosen (Lamport, "Paxos Made Simple", 2001)
use Rattle.std.specs.Prelude.{ℕ, suc, Bool, if◌then◌else◌, Option, None, Some}
use Rattle.std.specs.FinSet as set
use Rattle.rambo_names.specs.Names.{NameSet}
use Rattle.rambo_paxos.specs.declared.ballot.Ballot.{Ballot}
use Rattle.rambo_paxos.specs.declared.proposal.Proposal.{Proposal}
use Rattle.rambo_paxos.specs.declared.offer.Offer.{Offer}
use Rattle.rambo_paxos.specs.declared.offer.Offer.TheVariants as offer
use Rattle.rambo_paxos.specs.declared.stage.Stage.{Stage}
use Rattle.rambo_paxos.specs.declared.stage.Stage.TheVariants as stage
use Rattle.rambo_paxos.specs.declared.bid.Bid.{Bid}
use Rattle.rambo_paxos.specs.declared.bid.Bid.TheVariants as bid
use Rattle.rambo_paxos.specs.Ballots.{ballot_lt, round_of}
use Rattle.rambo_paxos.specs.Votes.{VoteState, empty_vote, taken, has_promised, has_accepted}

-- an attempt for a place: its ballot, what its proposer wishes, how far it is, and who replied in this stage
pub record AttemptState (Q : Type 0) : Type 0 where
  pub place : ℕ
  pub ballot : Ballot
  pub wish : Q
  pub stage : Stage Q
  pub repliers : NameSet

-- the set of one name
abbrev pub only : ℕ → NameSet
only n = set.insert set.empty n

-- a ballot of node me above all that its vote has promised
abbrev pub next_ballot : {Q : Type 0} → VoteState Q → ℕ → Ballot
next_ballot v me = record { round = suc (round_of v.promised); name = me }

-- what an attempt asks of every acceptor
abbrev pub offer_in : {Q : Type 0} → Stage Q → Ballot → Offer Q
offer_in (stage.Prepare told) b = offer.Prepare b
offer_in (stage.Propose c) b = offer.Propose b c

abbrev pub offer_of : {Q : Type 0} → AttemptState Q → Offer Q
offer_of a = offer_in a.stage a.ballot

-- what is offered where an attempt may be open
abbrev pub offered : {Q : Type 0} → Option (AttemptState Q) → Option (Offer Q)
offered None = None
offered (Some a) = Some (offer_of a)

-- an attempt that begins: it was told what the node itself accepted, and the node's own vote is its first reply
unfoldable pub opened : {Q : Type 0} → ℕ → Q → VoteState Q → ℕ → AttemptState Q
opened place wish v me = record { place = place; ballot = next_ballot v me; wish = wish; stage = stage.Prepare v.accepted; repliers = only me }

-- it keeps its place and wish, and retries with a fresh ballot
abbrev pub rebid : {Q : Type 0} → AttemptState Q → VoteState Q → AttemptState Q
rebid a v = opened a.place a.wish v a.ballot.name

-- the node's own vote after an attempt begins
abbrev pub vote_opened : {Q : Type 0} → VoteState Q → ℕ → VoteState Q
vote_opened v me = taken v (offer.Prepare (next_ballot v me))

-- the proposal of the greater ballot, the first one where they are equal
abbrev pub later : {Q : Type 0} → Option (Proposal Q) → Option (Proposal Q) → Option (Proposal Q)
later None q = q
later (Some p) None = Some p
later (Some p) (Some q) = if ballot_lt p.ballot q.ballot then Some q else Some p

-- whether a vote replies to what is asked
abbrev pub replies_to : {Q : Type 0} → Stage Q → Ballot → VoteState Q → Bool
replies_to (stage.Prepare told) b v = has_promised v b
replies_to (stage.Propose c) b v = has_accepted v b

-- the stage after a reply: a promise reports what was accepted before it
abbrev pub told_by : {Q : Type 0} → Stage Q → VoteState Q → Stage Q
told_by (stage.Prepare told) v = stage.Prepare (later told v.accepted)
told_by (stage.Propose c) v = stage.Propose c

-- the attempt after the vote of node j: only a reply to its current offer counts
unfoldable pub heard_vote : {Q : Type 0} → AttemptState Q → ℕ → VoteState Q → AttemptState Q
heard_vote a j v =
    if replies_to a.stage a.ballot v then record a { stage = told_by a.stage v; repliers = set.insert a.repliers j } else a

-- the attempt that may be open, after the vote of node j
abbrev pub heard_if_open : {Q : Type 0} → Option (AttemptState Q) → ℕ → VoteState Q → Option (AttemptState Q)
heard_if_open None j v = None
heard_if_open (Some a) j v = Some (heard_vote a j v)

-- what is proposed: what the attempt was told of, or its wish where it was told of nothing
abbrev pub choice : {Q : Type 0} → Option (Proposal Q) → Q → Q
choice None wish = wish
choice (Some p) wish = p.config

-- the node's own vote after the attempt proposes
abbrev pub vote_proposed : {Q : Type 0} → AttemptState Q → Option (Proposal Q) → VoteState Q → VoteState Q
vote_proposed a told v = taken v (offer.Propose a.ballot (choice told a.wish))

-- the attempt that proposes: the node's own vote is its first reply, unless a greater ballot was promised
unfoldable pub proposing : {Q : Type 0} → AttemptState Q → Option (Proposal Q) → VoteState Q → AttemptState Q
proposing a told v = record a {
  stage = stage.Propose (choice told a.wish);
  repliers = if has_accepted (vote_proposed a told v) a.ballot then only a.ballot.name else set.empty;
}

-- an advance by its stage: what it leads to, and the attempt and the node's own vote after it
abbrev pub bid_in : {Q : Type 0} → Stage Q → Bid Q
bid_in (stage.Prepare told) = bid.Propose
bid_in (stage.Propose c) = bid.Chosen c

abbrev pub advanced_in : {Q : Type 0} → Stage Q → AttemptState Q → VoteState Q → AttemptState Q
advanced_in (stage.Prepare told) a v = proposing a told v
advanced_in (stage.Propose c) a v = a

abbrev pub vote_advanced_in : {Q : Type 0} → Stage Q → AttemptState Q → VoteState Q → VoteState Q
vote_advanced_in (stage.Prepare told) a v = vote_proposed a told v
vote_advanced_in (stage.Propose c) a v = empty_vote

abbrev pub bid_of : {Q : Type 0} → AttemptState Q → Bid Q
bid_of a = bid_in a.stage

abbrev pub advanced : {Q : Type 0} → AttemptState Q → VoteState Q → AttemptState Q
advanced a v = advanced_in a.stage a v

abbrev pub vote_advanced : {Q : Type 0} → AttemptState Q → VoteState Q → VoteState Q
vote_advanced a v = vote_advanced_in a.stage a v
