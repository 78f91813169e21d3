-- A node as one place sees it: it votes there while its map ends there
use Rattle.std.proofs.Common.{◌≡◌, ℕ, ◌<◌, Bool, true, false, if◌then◌else◌, nat_eq, nat_le, Option, Some, None, refl, sym, ap, ◌∙◌, inl, inr, arith, eq-eqb, eqb-true}
use Rattle.std.proofs.lemmas.Bool.{cond-true, cond-false, le-leb, lt-leb}
use Rattle.rambo_config_map.specs.Maps.{end_of}
use Rattle.rambo_paxos.specs.Attempts.{AttemptState, offered, offer_of, heard_vote, heard_if_open}
use Rattle.rambo_paxos.specs.Votes.{VoteState, empty_vote}
use Rattle.rambo_paxos.specs.Voters.{Voter, Voters}
use Rattle.rambo_node.specs.Nodes.{NodeState}
use Rattle.rambo_bids.specs.Hearing.{offer_for, heard_for}
use Rattle.rambo_run.proofs.Lists.{pick}
use Rattle.rambo_run.proofs.Turn.{Moments}
use Rattle.rambo_run.proofs.Formed.{same_place}

-- the attempt that is for this place, if one is open
abbrev pub attempt_for : {Q : Type 0} → ℕ → Option (AttemptState Q) → Option (AttemptState Q)
attempt_for p None = None
attempt_for p (Some a) = if nat_eq a.place p then Some a else None

-- a node as place p sees it: until its map ends there its vote is empty, and once it goes on it takes part no more
abbrev pub voter : {Q : Type 0} → ℕ → NodeState Q → Voter Q
voter p x = record {
  votes = nat_le (end_of x.map) p;
  vote = if nat_eq (end_of x.map) p then x.vote else empty_vote;
  attempt = if nat_eq (end_of x.map) p then attempt_for p x.attempt else None;
}

abbrev pub voters : {Q : Type 0} → Moments Q → ℕ → Voters Q
voters at p m n = voter p (at m n)

not_same : (a b : ℕ) → (a ≡ b → ⊥) → nat_eq a b ≡ false
not_same a b h = elim (pick (nat_eq a b) true false) [ inl p ↦ absurd (h (eqb-true a b p.0)) | inr p ↦ p.0 ]

-- before its map ends at p
pub voter_early : {Q : Type 0} (p : ℕ) (x : NodeState Q) → end_of x.map < p → voter p x ≡ record { votes = true; vote = empty_vote; attempt = None }
voter_early p x h =
    let t : nat_eq (end_of x.map) p ≡ false = not_same (end_of x.map) p (λ e. omega (arith, e, h)) in
    λ i. record {
      votes = le-leb (end_of x.map) p (omega (arith, h)) i;
      vote = cond-false (nat_eq (end_of x.map) p) x.vote empty_vote t i;
      attempt = cond-false (nat_eq (end_of x.map) p) (attempt_for p x.attempt) None t i;
    }

-- while it ends there
pub voter_now : {Q : Type 0} (p : ℕ) (x : NodeState Q) → end_of x.map ≡ p → voter p x ≡ record { votes = true; vote = x.vote; attempt = attempt_for p x.attempt }
voter_now p x h =
    let t : nat_eq (end_of x.map) p ≡ true = eq-eqb (end_of x.map) p h in
    λ i. record {
      votes = le-leb (end_of x.map) p (omega (arith, h)) i;
      vote = cond-true (nat_eq (end_of x.map) p) x.vote empty_vote t i;
      attempt = cond-true (nat_eq (end_of x.map) p) (attempt_for p x.attempt) None t i;
    }

-- and after that
pub voter_gone : {Q : Type 0} (p : ℕ) (x : NodeState Q) → p < end_of x.map → (voter p x).votes ≡ false
voter_gone p x h = lt-leb (end_of x.map) p h

-- what a letter offers for the place is what the place sees of the attempt
pub same_offer : {Q : Type 0} (p : ℕ) (o : Option (AttemptState Q)) → offered (attempt_for p o) ≡ offer_for p o
same_offer p None = refl
same_offer p (Some a) = go (nat_eq a.place p)
  where
    go : (b : Bool) → offered (if b then Some a else None) ≡ (if b then Some (offer_of a) else None)
    go true = refl
    go false = refl

pub attempt_is_for : {Q : Type 0} (p : ℕ) (a : AttemptState Q) → a.place ≡ p → attempt_for p (Some a) ≡ Some a
attempt_is_for p a e = cond-true (nat_eq a.place p) (Some a) None (eq-eqb a.place p e)

pub attempt_is_low : {Q : Type 0} (p : ℕ) (o : Option (AttemptState Q)) → ((a : AttemptState Q) → o ≡ Some a → a.place < p) → attempt_for p o ≡ None
attempt_is_low p None h = refl
attempt_is_low p (Some a) h = cond-false (nat_eq a.place p) (Some a) None (not_same a.place p (λ e. let l = h a refl in omega (arith, e, l)))

-- the attempt for the place hears what the node's attempt hears
pub same_hearing : {Q : Type 0} (p : ℕ) (o : Option (AttemptState Q)) (j : ℕ) (v : VoteState Q) → attempt_for p (heard_for p o j v) ≡ heard_if_open (attempt_for p o) j v
same_hearing p None j v = refl
same_hearing p (Some a) j v = elim (pick (nat_eq a.place p) (heard_vote a j v) a) [
  | inl t ↦ (let place : a.place ≡ p = eqb-true a.place p t.0 in
      ap (λ b. attempt_for p (Some b)) t.1 ∙ attempt_is_for p (heard_vote a j v) (same_place a j v ∙ place) ∙ sym (ap (λ o. heard_if_open o j v) (attempt_is_for p a place)))
  | inr t ↦ (let none : attempt_for p (Some a) ≡ None = cond-false (nat_eq a.place p) (Some a) None t.0 in
      ap (λ b. attempt_for p (Some b)) t.1 ∙ none ∙ sym (ap (λ o. heard_if_open o j v) none))
]

-- an attempt for a lower place stays so
pub low_hearing : {Q : Type 0} (p : ℕ) (o : Option (AttemptState Q)) (j : ℕ) (v : VoteState Q) → attempt_for p o ≡ None → attempt_for p (heard_for p o j v) ≡ None
low_hearing p o j v e = same_hearing p o j v ∙ ap (λ o. heard_if_open o j v) e
