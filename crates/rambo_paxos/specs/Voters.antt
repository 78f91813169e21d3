-- What the law of votes and attempts reads of a run: at each moment each node's vote and attempt for one place
use Rattle.std.specs.Prelude.{◌≡◌, ℕ, suc, ◌≤◌, Bool, true, false, Option, None, Some}
use Rattle.std.specs.FinSet as set
use Rattle.rambo_names.specs.Names.{NameSet}
use Rattle.rambo_paxos.specs.declared.proposal.Proposal.{Proposal}
use Rattle.rambo_paxos.specs.declared.offer.Offer.{Offer}
use Rattle.rambo_paxos.specs.declared.stage.Stage.TheVariants as stage
use Rattle.rambo_paxos.specs.Votes.{VoteState, empty_vote, taken_if}
use Rattle.rambo_paxos.specs.Attempts.{AttemptState, offered, opened, rebid, vote_opened, heard_if_open, proposing, vote_proposed}

-- a node as the law sees it: whether it takes part still, its vote, and its attempt if one is open
pub record Voter (Q : Type 0) : Type 0 where
  pub votes : Bool
  pub vote : VoteState Q
  pub attempt : Option (AttemptState Q)

-- every node at every moment
abbrev pub Voters : Type 0 → Type 0
Voters Q = ℕ → ℕ → Voter Q

-- a vote, and whose it is
pub record Told (Q : Type 0) : Type 0 where
  pub from : ℕ
  pub vote : VoteState Q

-- the attempt that may be open, after a vote, if there is one
abbrev pub heard_if : {Q : Type 0} → Option (AttemptState Q) → Option (Told Q) → Option (AttemptState Q)
heard_if o None = o
heard_if o (Some t) = heard_if_open o t.from t.vote

-- a node that took part offered this at moment m or before
pub record WasOffered {Q : Type 0} (at : Voters Q) (m : ℕ) (o : Offer Q) : Type 0 where
  pub moment : ℕ
  pub before : moment ≤ m
  pub node : ℕ
  pub votes : (at moment node).votes ≡ true
  pub offer : offered (at moment node).attempt ≡ Some o

-- the node took part and held this vote at moment m or before
pub record WasHeld {Q : Type 0} (at : Voters Q) (m : ℕ) (t : Told Q) : Type 0 where
  pub moment : ℕ
  pub before : moment ≤ m
  pub votes : (at moment t.from).votes ≡ true
  pub vote : (at moment t.from).vote ≡ t.vote

-- what node n may do after moment m: x before, y after. It takes an offer and hears a vote, if there are any, opens an
-- attempt or retries it, proposes where its repliers contain a quorum, or takes part no more
pub data VoterTurn {Q : Type 0} (is_quorum : Q → NameSet → Bool) (old : Q) (at : Voters Q) (m n : ℕ) (x y : Voter Q) : Type 0 where
  hears : (o : Option (Offer Q)) (t : Option (Told Q)) → ((p : Offer Q) → o ≡ Some p → WasOffered at m p) → ((u : Told Q) → t ≡ Some u → WasHeld at m u)
      → x.votes ≡ true → y ≡ record { votes = true; vote = taken_if x.vote o; attempt = heard_if x.attempt t } → VoterTurn is_quorum old at m n x y
  opens : (place : ℕ) (wish : Q) → x.votes ≡ true
      → y ≡ record { votes = true; vote = vote_opened x.vote n; attempt = Some (opened place wish x.vote n) } → VoterTurn is_quorum old at m n x y
  rebids : (a : AttemptState Q) → x.votes ≡ true → x.attempt ≡ Some a
      → y ≡ record { votes = true; vote = vote_opened x.vote a.ballot.name; attempt = Some (rebid a x.vote) } → VoterTurn is_quorum old at m n x y
  proposes : (a : AttemptState Q) (told : Option (Proposal Q)) → x.votes ≡ true → x.attempt ≡ Some a → a.stage ≡ stage.Prepare told → is_quorum old a.repliers ≡ true
      → y ≡ record { votes = true; vote = vote_proposed a told x.vote; attempt = Some (proposing a told x.vote) } → VoterTurn is_quorum old at m n x y
  leaves : y.votes ≡ false → VoterTurn is_quorum old at m n x y

-- at first every vote is empty and no attempt is open
pub record IsRun {Q : Type 0} (is_quorum : Q → NameSet → Bool) (old : Q) (at : Voters Q) : Type 0 where
  pub first_vote : (n : ℕ) → (at 0 n).vote ≡ empty_vote
  pub first_attempt : (n : ℕ) → (at 0 n).attempt ≡ None
  pub turn : (m n : ℕ) → VoterTurn is_quorum old at m n (at m n) (at (suc m) n)

-- at moment m node n may choose c: its proposal of c was accepted by a quorum
pub record Chooses {Q : Type 0} (is_quorum : Q → NameSet → Bool) (old : Q) (at : Voters Q) (m n : ℕ) (c : Q) : Type 0 where
  pub votes : (at m n).votes ≡ true
  pub attempt : AttemptState Q
  pub attempt_is : (at m n).attempt ≡ Some attempt
  pub stage : attempt.stage ≡ stage.Propose c
  pub quorum : is_quorum old attempt.repliers ≡ true

-- two quorums of one configuration share a name
abbrev pub Shares : {Q : Type 0} → (Q → NameSet → Bool) → Q → Type 0
Shares is_quorum old =
    (a b : NameSet) → is_quorum old a ≡ true → is_quorum old b ≡ true → (n : ℕ) × (set.contains a n ≡ true) × (set.contains b n ≡ true)
