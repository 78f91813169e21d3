-- One place, over every list of what nodes do there (Lamport, "Paxos Made Simple", 2001)
use Rattle.std.specs.Prelude.{◌≡◌, ℕ, ◌&&◌, nat_eq, if◌then◌else◌, List, [], ◌∷◌, ◌++◌, Option, None, Some, is_none}
use Rattle.rambo_names.specs.Quorums.{QuorumSystem}
use Rattle.rambo_paxos.specs.declared.bid.Bid.{Bid}
use Rattle.rambo_paxos.specs.declared.bid.Bid.TheVariants as bid
use Rattle.rambo_paxos.specs.declared.offer.Offer.{Offer}
use Rattle.rambo_paxos.specs.Votes.{VoteState, empty_vote, taken}
use Rattle.rambo_paxos.specs.Attempts.{AttemptState, offered, opened, rebid, vote_opened, heard_if_open, bid_of, advanced, vote_advanced}

pub data Move (Q : Type 0) : Type 0 where
  -- node n opens an attempt with this wish
  Open : (n : ℕ) (wish : Q) → Move Q
  -- node n retries its attempt
  Rebid : (n : ℕ) → Move Q
  -- the vote of node n takes an offer
  Take : (n : ℕ) (o : Offer Q) → Move Q
  -- the attempt of node n hears the vote of node j
  Hear : (n j : ℕ) (v : VoteState Q) → Move Q
  -- the attempt of node n advances, if its repliers contain a quorum
  Advance : (n : ℕ) → Move Q

abbrev pub mover : {Q : Type 0} → Move Q → ℕ
mover (Open n wish) = n
mover (Rebid n) = n
mover (Take n o) = n
mover (Hear n j v) = n
mover (Advance n) = n

-- what a node holds: its vote, its attempt if one is open, and the configuration that its advance chose
pub record Seat (Q : Type 0) : Type 0 where
  pub vote : VoteState Q
  pub attempt : Option (AttemptState Q)
  pub chosen : Option Q

abbrev pub vacant : {Q : Type 0} → Seat Q
vacant = record { vote = empty_vote; attempt = None; chosen = None }

abbrev pub begun_again : {Q : Type 0} → Seat Q → Option (AttemptState Q) → Seat Q
begun_again x None = x
begun_again x (Some a) = record x { vote = vote_opened x.vote a.ballot.name; attempt = Some (rebid a x.vote) }

-- an advance that chose ends the attempt
abbrev pub after_bid : {Q : Type 0} → Bid Q → VoteState Q → AttemptState Q → Seat Q
after_bid bid.Propose v a = record { vote = v; attempt = Some a; chosen = None }
after_bid (bid.Chosen c) v a = record { vote = v; attempt = None; chosen = Some c }

-- the quorums of the old configuration decide
abbrev pub advanced_seat : {Q : Type 0} → QuorumSystem Q → Q → Seat Q → Option (AttemptState Q) → Seat Q
advanced_seat s old x None = x
advanced_seat s old x (Some a) = if s.is_quorum old a.repliers then after_bid (bid_of a) (vote_advanced a x.vote) (advanced a x.vote) else x

-- the mover's seat after its move
abbrev pub own_move : {Q : Type 0} → QuorumSystem Q → ℕ → Q → Seat Q → Move Q → Seat Q
own_move s place old x (Open n wish) = record x { vote = vote_opened x.vote n; attempt = Some (opened place wish x.vote n) }
own_move s place old x (Rebid n) = begun_again x x.attempt
own_move s place old x (Take n o) = record x { vote = taken x.vote o }
own_move s place old x (Hear n j v) = record x { attempt = heard_if_open x.attempt j v }
own_move s place old x (Advance n) = advanced_seat s old x x.attempt

-- the seat of node n after a move: only its own moves change it, and once its advance chose it does nothing more
abbrev pub moved : {Q : Type 0} → QuorumSystem Q → ℕ → Q → ℕ → Seat Q → Move Q → Seat Q
moved s place old n x move = if nat_eq (mover move) n && is_none x.chosen then own_move s place old x move else x

unfoldable pub seat_from : {Q : Type 0} → QuorumSystem Q → ℕ → Q → ℕ → Seat Q → List (Move Q) → Seat Q
seat_from s place old n x [] = x
seat_from s place old n x (move ∷ moves) = seat_from s place old n (moved s place old n x move) moves

-- what node n holds after these moves
abbrev pub seat_after : {Q : Type 0} → QuorumSystem Q → ℕ → Q → ℕ → List (Move Q) → Seat Q
seat_after s place old n moves = seat_from s place old n vacant moves

-- some node offered this, after all of these moves or after the first ones of them
pub record HeldOffer {Q : Type 0} (s : QuorumSystem Q) (place : ℕ) (old : Q) (moves : List (Move Q)) (o : Offer Q) : Type 0 where
  pub early : List (Move Q)
  pub late : List (Move Q)
  pub split : moves ≡ early ++ late
  pub node : ℕ
  pub offer : offered (seat_after s place old node early).attempt ≡ Some o

-- node j held this vote, after all of these moves or after the first ones of them
pub record HeldVote {Q : Type 0} (s : QuorumSystem Q) (place : ℕ) (old : Q) (moves : List (Move Q)) (j : ℕ) (v : VoteState Q) : Type 0 where
  pub early : List (Move Q)
  pub late : List (Move Q)
  pub split : moves ≡ early ++ late
  pub vote : (seat_after s place old j early).vote ≡ v

-- each offer that is taken, and each vote that is heard, was held by its sender
pub record IsHonest {Q : Type 0} (s : QuorumSystem Q) (place : ℕ) (old : Q) (moves : List (Move Q)) : Type 0 where
  pub takes : (before after : List (Move Q)) (n : ℕ) (o : Offer Q) → moves ≡ before ++ Take n o ∷ after → HeldOffer s place old before o
  pub hears : (before after : List (Move Q)) (n j : ℕ) (v : VoteState Q) → moves ≡ before ++ Hear n j v ∷ after → HeldVote s place old before j v

-- any two configurations that are chosen for one place are the same
abbrev pub OneConfigurationIsChosen : {Q : Type 0} → QuorumSystem Q → Type 0
OneConfigurationIsChosen {Q} s =
    (place : ℕ) (old : Q) (moves : List (Move Q)) → IsHonest s place old moves → (n k : ℕ) (c d : Q)
    → (seat_after s place old n moves).chosen ≡ Some c → (seat_after s place old k moves).chosen ≡ Some d → c ≡ d
