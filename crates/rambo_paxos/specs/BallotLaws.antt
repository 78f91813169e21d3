-- Laws, no definitions of the code: the order of ballots
use Rattle.std.proofs.Common.{◌≡◌, ◌<◌, ◌≤◌, ◌⊎◌, true, false, Option, Some, None, ap, arith}
use Rattle.std.proofs.lemmas.Bool.Decides.{nat_tests}
use Rattle.rambo_paxos.specs.declared.ballot.Ballot.{Ballot}
use Rattle.rambo_paxos.specs.Ballots.{ballot_lt, same_ballot, exceeds, is_below, is_ballot}

abbrev pub BallotLt : Ballot → Ballot → Type 0
BallotLt a b = (a.round < b.round) ⊎ ((a.round ≡ b.round) × (a.name < b.name))

abbrev pub BallotLe : Ballot → Ballot → Type 0
BallotLe a b = (a.round < b.round) ⊎ ((a.round ≡ b.round) × (a.name ≤ b.name))

pub le_refl : (a : Ballot) → BallotLe a a
le_refl a = grind arith

pub le_trans : (a b c : Ballot) → BallotLe a b → BallotLe b c → BallotLe a c
le_trans a b c h k = grind arith

pub lt-le : (a b : Ballot) → BallotLt a b → BallotLe a b
lt-le a b h = grind arith

pub le_lt_trans : (a b c : Ballot) → BallotLe a b → BallotLt b c → BallotLt a c
le_lt_trans a b c h k = grind arith

pub lt_irrefl : (a b : Ballot) → BallotLt a b → BallotLe b a → ⊥
lt_irrefl a b h k = grind arith

pub cases_le : (a b : Ballot) → BallotLt a b ⊎ BallotLe b a
cases_le a b = grind arith

same_record : (a b : Ballot) → a.round ≡ b.round → a.name ≡ b.name → a ≡ b
same_record a b e f = λ i. record { round = e i; name = f i }

pub le_antisym : (a b : Ballot) → BallotLe a b → BallotLe b a → a ≡ b
le_antisym a b h k = same_record a b (grind arith) (grind arith)

pub ballot_lt-true : (a b : Ballot) → ballot_lt a b ≡ true → BallotLt a b
ballot_lt-true a b h = grind (arith, nat_tests)

pub ballot_lt-false : (a b : Ballot) → ballot_lt a b ≡ false → BallotLe b a
ballot_lt-false a b h = grind (arith, nat_tests)

pub same_ballot-true : (a b : Ballot) → same_ballot a b ≡ true → a ≡ b
same_ballot-true a b h = same_record a b (grind (arith, nat_tests)) (grind (arith, nat_tests))

-- the promised ballot, (0, 0) where none was
abbrev pub promised_in : Option Ballot → Ballot
promised_in None = record { round = 0; name = 0 }
promised_in (Some b) = b

pub least_promise : (b : Ballot) → BallotLe (promised_in None) b
least_promise b = grind arith

pub exceeds-true : (b : Ballot) (o : Option Ballot) → exceeds b o ≡ true → BallotLe (promised_in o) b
exceeds-true b None h = least_promise b
exceeds-true b (Some p) h = lt-le p b (ballot_lt-true p b h)

pub is_below-false : (b : Ballot) (o : Option Ballot) → is_below b o ≡ false → BallotLe (promised_in o) b
is_below-false b None h = least_promise b
is_below-false b (Some p) h = ballot_lt-false b p h

pub is_ballot-true : (o : Option Ballot) (b : Ballot) → is_ballot o b ≡ true → o ≡ Some b
is_ballot-true None b h = cc
is_ballot-true (Some a) b h = ap Some (same_ballot-true a b h)
