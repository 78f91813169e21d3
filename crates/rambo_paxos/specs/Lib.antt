pub mod Ballots
pub mod Votes
pub mod Attempts
pub mod BallotLaws
pub mod Voters
pub mod VoteLaws
pub mod VoterLaws
pub mod Moves
