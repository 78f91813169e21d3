-- Laws, no definitions of the code: what offers and votes change
use Rattle.std.proofs.Common.{◌≡◌, ℕ, suc, ◌⊎◌, Bool, true, false, if◌then◌else◌, ◌||◌, nat_eq, Option, Some, None, refl, sym, ap, ◌∙◌, subst, inl, inr, arith, eqb-true, true≢false, lt-ltb}
use Rattle.std.proofs.lemmas.Bool.{cond-true}
use Rattle.std.specs.Cmp.{nat_cmp_total, unsigned_tied}
use Rattle.std.specs.Ordering.{nat_cmp}
use Rattle.std.specs.FinSet.{contains, contains-insert, contains-empty}
use Rattle.std.specs.FinSet as set
use Rattle.rambo_names.specs.Names.{NameSet}
use Rattle.rambo_paxos.specs.declared.ballot.Ballot.{Ballot}
use Rattle.rambo_paxos.specs.declared.proposal.Proposal.{Proposal}
use Rattle.rambo_paxos.specs.declared.offer.Offer.{Offer}
use Rattle.rambo_paxos.specs.declared.offer.Offer.TheVariants as offer
use Rattle.rambo_paxos.specs.declared.stage.Stage.{Stage}
use Rattle.rambo_paxos.specs.declared.stage.Stage.TheVariants as stage
use Rattle.rambo_paxos.specs.Ballots.{exceeds, is_below, ballot_lt, round_of}
use Rattle.rambo_paxos.specs.Votes.{VoteState, empty_vote, taken, has_accepted, is_made_in, taken_if}
use Rattle.rambo_paxos.specs.Attempts.{AttemptState, only, next_ballot, offer_in, vote_opened, later, replies_to, told_by, heard_vote, choice, offered}
use Rattle.rambo_paxos.specs.BallotLaws.{BallotLt, BallotLe, le_refl, le_trans, lt-le, ballot_lt-true, ballot_lt-false, same_ballot-true, promised_in, exceeds-true, is_below-false, is_ballot-true}
use Rattle.rambo_paxos.specs.Voters.{Told, heard_if}

pub pick : {A : Type 0} (b : Bool) (x y : A) → ((b ≡ true) × ((if b then x else y) ≡ x)) ⊎ ((b ≡ false) × ((if b then x else y) ≡ y))
pick true x y = inl (refl, refl)
pick false x y = inr (refl, refl)

pub some_inj : {A : Type 0} (a b : A) → Some a ≡ Some b → a ≡ b
some_inj a b e = ap (λ o. elim o [ None ↦ a | Some c ↦ c ]) e

pub none-some : {A : Type 0} (a : A) → None ≡ Some a → ⊥
none-some a e = cc

-- sets of names
pub in_insert : (s : NameSet) (n k : ℕ) → contains (set.insert s n) k ≡ true → (k ≡ n) ⊎ (contains s k ≡ true)
in_insert s n k h = go (nat_eq k n) refl (sym (contains-insert nat_cmp_total s n k ∙ ap (λ t. t || contains s k) (unsigned_tied k n)) ∙ h)
  where
    go : (t : Bool) → nat_eq k n ≡ t → (t || contains s k) ≡ true → (k ≡ n) ⊎ (contains s k ≡ true)
    go true e g = inl (eqb-true k n e)
    go false e g = inr g

pub not_in_empty : (k : ℕ) → contains (set.empty {R = nat_cmp}) k ≡ true → ⊥
not_in_empty k h = true≢false (sym h ∙ contains-empty nat_cmp k)

pub in_only : (n k : ℕ) → contains (only n) k ≡ true → k ≡ n
in_only n k h = elim (in_insert set.empty n k h) [ inl e ↦ e | inr e ↦ absurd (not_in_empty k e) ]

-- a vote that has gone on: the promise doesn't fall, and what it accepted since isn't below the old promise
pub record VoteLe {Q : Type 0} (v w : VoteState Q) : Type 0 where
  pub promised : BallotLe (promised_in v.promised) (promised_in w.promised)
  pub accepted : (w.accepted ≡ v.accepted) ⊎ ((q : Proposal Q) × (w.accepted ≡ Some q) × BallotLe (promised_in v.promised) q.ballot)

pub vote_le_refl : {Q : Type 0} (v : VoteState Q) → VoteLe v v
vote_le_refl v = record { promised = le_refl (promised_in v.promised); accepted = inl refl }

pub vote_le_trans : {Q : Type 0} (u v w : VoteState Q) → VoteLe u v → VoteLe v w → VoteLe u w
vote_le_trans u v w h k = record {
  promised = le_trans (promised_in u.promised) (promised_in v.promised) (promised_in w.promised) h.promised k.promised;
  accepted = elim k.accepted [
    | inl e ↦ elim h.accepted [ inl f ↦ inl (e ∙ f) | inr p ↦ inr (p.0, e ∙ p.1, p.2) ]
    | inr p ↦ inr (p.0, p.1, le_trans (promised_in u.promised) (promised_in v.promised) p.0.ballot h.promised p.2)
  ];
}

-- taking an offer
pub taken-le : {Q : Type 0} (v : VoteState Q) (o : Offer Q) → VoteLe v (taken v o)
taken-le v (offer.Prepare b) = elim (pick (exceeds b v.promised) (record { promised = Some b; accepted = v.accepted }) v) [
  | inl p ↦ subst (VoteLe v) (sym p.1) (record { promised = exceeds-true b v.promised p.0; accepted = inl refl })
  | inr p ↦ subst (VoteLe v) (sym p.1) (vote_le_refl v)
]
taken-le v (offer.Propose b c) = elim (pick (is_below b v.promised) v (record { promised = Some b; accepted = Some (record { ballot = b; config = c }) })) [
  | inl p ↦ subst (VoteLe v) (sym p.1) (vote_le_refl v)
  | inr p ↦ subst (VoteLe v) (sym p.1) (record {
    promised = is_below-false b v.promised p.0;
    accepted = inr (record { ballot = b; config = c }, refl, is_below-false b v.promised p.0);
  })
]

pub taken_if-le : {Q : Type 0} (v : VoteState Q) (o : Option (Offer Q)) → VoteLe v (taken_if v o)
taken_if-le v None = vote_le_refl v
taken_if-le v (Some o) = taken-le v o

-- what a vote has accepted after an offer it had accepted before, or it was proposed
pub taken-accepted : {Q : Type 0} (v : VoteState Q) (o : Offer Q) (q : Proposal Q) → (taken v o).accepted ≡ Some q
    → (v.accepted ≡ Some q) ⊎ ((o ≡ offer.Propose q.ballot q.config) × ((taken v o).promised ≡ Some q.ballot))
taken-accepted v (offer.Prepare b) q h = inl (elim (pick (exceeds b v.promised) (record { promised = Some b; accepted = v.accepted }) v) [
  | inl p ↦ sym (ap (λ w. w.accepted) p.1) ∙ h
  | inr p ↦ sym (ap (λ w. w.accepted) p.1) ∙ h
])
taken-accepted v (offer.Propose b c) q h = elim (pick (is_below b v.promised) v (record { promised = Some b; accepted = Some (record { ballot = b; config = c }) })) [
  | inl p ↦ inl (sym (ap (λ w. w.accepted) p.1) ∙ h)
  | inr p ↦ (let e : record { ballot = b; config = c } ≡ q = some_inj _ q (sym (ap (λ w. w.accepted) p.1) ∙ h) in
      inr ((λ i. offer.Propose (e i).ballot (e i).config), ap (λ w. w.promised) p.1 ∙ ap (λ z. Some z.ballot) e))
]

pub taken_if-accepted : {Q : Type 0} (v : VoteState Q) (o : Option (Offer Q)) (q : Proposal Q) → (taken_if v o).accepted ≡ Some q
    → (v.accepted ≡ Some q) ⊎ ((o ≡ Some (offer.Propose q.ballot q.config)) × ((taken_if v o).promised ≡ Some q.ballot))
taken_if-accepted v None q h = inl h
taken_if-accepted v (Some o) q h = elim (taken-accepted v o q h) [ inl e ↦ inl e | inr p ↦ inr (ap Some p.0, p.1) ]

-- the last accepted ballot is not above the promised one
abbrev pub IsKept : {Q : Type 0} → VoteState Q → Type 0
IsKept {Q} v = (q : Proposal Q) → v.accepted ≡ Some q → BallotLe q.ballot (promised_in v.promised)

pub empty-kept : {Q : Type 0} → IsKept (empty_vote {Q = Q})
empty-kept q e = absurd (none-some q e)

pub taken_if-kept : {Q : Type 0} (v : VoteState Q) (o : Option (Offer Q)) → IsKept v → IsKept (taken_if v o)
taken_if-kept v o f q h = elim (taken_if-accepted v o q h) [
  | inl e ↦ le_trans q.ballot (promised_in v.promised) (promised_in (taken_if v o).promised) (f q e) (taken_if-le v o).promised
  | inr p ↦ subst (λ b. BallotLe q.ballot (promised_in b)) (sym p.1) (le_refl q.ballot)
]

-- a fresh ballot is above all that was promised, and the node's own vote promises it
pub next_ballot-lt : {Q : Type 0} (v : VoteState Q) (n : ℕ) → BallotLt (promised_in v.promised) (next_ballot v n)
next_ballot-lt v n = go v.promised
  where
    go : (o : Option Ballot) → BallotLt (promised_in o) (record { round = suc (round_of o); name = n })
    go None = inl (omega arith)
    go (Some b) = inl (omega arith)

pub vote_opened-is : {Q : Type 0} (v : VoteState Q) (n : ℕ) → vote_opened v n ≡ record { promised = Some (next_ballot v n); accepted = v.accepted }
vote_opened-is v n = cond-true _ _ _ (go v.promised)
  where
    go : (o : Option Ballot) → exceeds (record { round = suc (round_of o); name = n }) o ≡ true
    go None = refl
    go (Some b) = cond-true _ _ _ (lt-ltb b.round (suc b.round) (omega arith))

-- the later of two proposals
pub later_left : {Q : Type 0} (t u : Option (Proposal Q)) (r : Proposal Q) → t ≡ Some r → (s : Proposal Q) × (later t u ≡ Some s) × BallotLe r.ballot s.ballot
later_left None u r e = absurd (none-some r e)
later_left (Some p) None r e = (r, e, le_refl r.ballot)
later_left (Some p) (Some q) r e = elim (pick (ballot_lt p.ballot q.ballot) (Some q) (Some p)) [
  | inl h ↦ (q, h.1, subst (λ r. BallotLe r.ballot q.ballot) (some_inj p r e) (lt-le p.ballot q.ballot (ballot_lt-true p.ballot q.ballot h.0)))
  | inr h ↦ (r, h.1 ∙ e, le_refl r.ballot)
]

pub later_right : {Q : Type 0} (t u : Option (Proposal Q)) (r : Proposal Q) → u ≡ Some r → (s : Proposal Q) × (later t u ≡ Some s) × BallotLe r.ballot s.ballot
later_right None u r e = (r, e, le_refl r.ballot)
later_right (Some p) None r e = absurd (none-some r e)
later_right (Some p) (Some q) r e = elim (pick (ballot_lt p.ballot q.ballot) (Some q) (Some p)) [
  | inl h ↦ (r, h.1 ∙ e, le_refl r.ballot)
  | inr h ↦ (p, h.1, subst (λ r. BallotLe r.ballot p.ballot) (some_inj q r e) (ballot_lt-false p.ballot q.ballot h.0))
]

pub later_either : {Q : Type 0} (t u : Option (Proposal Q)) (r : Proposal Q) → later t u ≡ Some r → (t ≡ Some r) ⊎ (u ≡ Some r)
later_either None u r e = inr e
later_either (Some p) None r e = inl e
later_either (Some p) (Some q) r e = elim (pick (ballot_lt p.ballot q.ballot) (Some q) (Some p)) [ inl h ↦ inr (sym h.1 ∙ e) | inr h ↦ inl (sym h.1 ∙ e) ]

pub made_in : {Q : Type 0} (o : Option (Proposal Q)) (b : Ballot) → is_made_in o b ≡ true → (q : Proposal Q) × (o ≡ Some q) × (q.ballot ≡ b)
made_in None b h = absurd (true≢false (sym h))
made_in (Some q) b h = (q, refl, same_ballot-true q.ballot b h)

pub choice-told : {Q : Type 0} (o : Option (Proposal Q)) (w : Q) (q : Proposal Q) → o ≡ Some q → q.config ≡ choice o w
choice-told None w q e = absurd (none-some q e)
choice-told (Some p) w q e = ap (λ z. z.config) (sym (some_inj p q e))

-- stages
pub prepare-propose : {Q : Type 0} (t : Option (Proposal Q)) (c : Q) → stage.Prepare t ≡ stage.Propose c → ⊥
prepare-propose t c e = cc

pub prepare_inj : {Q : Type 0} (t u : Option (Proposal Q)) → stage.Prepare t ≡ stage.Prepare u → t ≡ u
prepare_inj t u e = ap (λ s. elim s [ stage.Prepare r ↦ r | stage.Propose c ↦ t ]) e

pub propose_inj : {Q : Type 0} (c d : Q) → stage.Propose c ≡ stage.Propose d → c ≡ d
propose_inj c d e = ap (λ s. elim s [ stage.Prepare r ↦ c | stage.Propose z ↦ z ]) e

pub offer_prepare-propose : {Q : Type 0} (b d : Ballot) (c : Q) → offer.Prepare b ≡ offer.Propose d c → ⊥
offer_prepare-propose b d c e = cc

pub offer_ballot : {Q : Type 0} (b d : Ballot) (c e : Q) → offer.Propose b c ≡ offer.Propose d e → (b ≡ d) × (c ≡ e)
offer_ballot b d c e h = (
  ap (λ o. elim o [ offer.Prepare z ↦ b | offer.Propose z w ↦ z ]) h,
  ap (λ o. elim o [ offer.Prepare z ↦ c | offer.Propose z w ↦ w ]) h,
)

-- an attempt that offers a proposal is in stage propose
offer_parts : {Q : Type 0} (s : Stage Q) (b d : Ballot) (c : Q) → offer_in s b ≡ offer.Propose d c → (b ≡ d) × (s ≡ stage.Propose c)
offer_parts (stage.Prepare t) b d c e = absurd (offer_prepare-propose b d c e)
offer_parts (stage.Propose z) b d c e = let h = offer_ballot b d z c e in (h.0, ap (λ w. stage.Propose w) h.1)

pub record Offers {Q : Type 0} (o : Option (AttemptState Q)) (b : Ballot) (c : Q) : Type 0 where
  pub attempt : AttemptState Q
  pub attempt_is : o ≡ Some attempt
  pub ballot : attempt.ballot ≡ b
  pub stage : attempt.stage ≡ stage.Propose c

pub offers : {Q : Type 0} (o : Option (AttemptState Q)) (b : Ballot) (c : Q) → offered o ≡ Some (offer.Propose b c) → Offers o b c
offers None b c e = absurd (none-some _ e)
offers (Some a) b c e =
    let r = offer_parts a.stage a.ballot b c (some_inj _ _ e) in
    record { attempt = a; attempt_is = refl; ballot = r.0; stage = r.1 }

-- what hearing a vote leaves of an attempt
pub record HeardAttempt {Q : Type 0} (t : Told Q) (a b : AttemptState Q) : Type 0 where
  pub ballot : b.ballot ≡ a.ballot
  pub proposes : (c : Q) → b.stage ≡ stage.Propose c → a.stage ≡ stage.Propose c
  pub proposed : (c : Q) → a.stage ≡ stage.Propose c → b.stage ≡ stage.Propose c
  pub prepares : (u : Option (Proposal Q)) → b.stage ≡ stage.Prepare u
      → (r : Option (Proposal Q)) × (a.stage ≡ stage.Prepare r) × ((u ≡ r) ⊎ ((t.vote.promised ≡ Some a.ballot) × (u ≡ later r t.vote.accepted)))
  pub repliers : (k : ℕ) → contains b.repliers k ≡ true → (contains a.repliers k ≡ true) ⊎ ((k ≡ t.from)
      × ((u : Option (Proposal Q)) → b.stage ≡ stage.Prepare u → (r : Option (Proposal Q)) × (a.stage ≡ stage.Prepare r) × (t.vote.promised ≡ Some a.ballot) × (u ≡ later r t.vote.accepted))
      × ((c : Q) → b.stage ≡ stage.Propose c → has_accepted t.vote a.ballot ≡ true))

same_attempt : {Q : Type 0} (t : Told Q) (a : AttemptState Q) → HeardAttempt t a a
same_attempt t a = record {
  ballot = refl;
  proposes = λ c e. e;
  proposed = λ c e. e;
  prepares = λ u e. (u, e, inl refl);
  repliers = λ k h. inl h;
}

counted : {Q : Type 0} (t : Told Q) (a : AttemptState Q) (s : Stage Q) → a.stage ≡ s → replies_to s a.ballot t.vote ≡ true
    → HeardAttempt t a (record a { stage = told_by s t.vote; repliers = set.insert a.repliers t.from })
counted t a (stage.Prepare r) e h =
    let p : t.vote.promised ≡ Some a.ballot = is_ballot-true t.vote.promised a.ballot h in
    record {
      ballot = refl;
      proposes = λ c i. absurd (prepare-propose _ c i);
      proposed = λ c i. absurd (prepare-propose r c (sym e ∙ i));
      prepares = λ u i. (r, e, inr (p, sym (prepare_inj _ u i)));
      repliers = λ k i. elim (in_insert a.repliers t.from k i) [
        | inl o ↦ inr (o, (λ u j. (r, e, p, sym (prepare_inj _ u j))), λ c j. absurd (prepare-propose _ c j))
        | inr o ↦ inl o
      ];
    }
counted t a (stage.Propose d) e h = record {
  ballot = refl;
  proposes = λ c i. e ∙ i;
  proposed = λ c i. sym e ∙ i;
  prepares = λ u i. absurd (prepare-propose u d (sym i));
  repliers = λ k i. elim (in_insert a.repliers t.from k i) [
    | inl o ↦ inr (o, (λ u j. absurd (prepare-propose u d (sym j))), λ c j. h)
    | inr o ↦ inl o
  ];
}

pub heard : {Q : Type 0} (t : Told Q) (a : AttemptState Q) → HeardAttempt t a (heard_vote a t.from t.vote)
unfolding heard_vote
heard t a = elim (pick (replies_to a.stage a.ballot t.vote) (record a { stage = told_by a.stage t.vote; repliers = set.insert a.repliers t.from }) a) [
  | inl p ↦ subst (HeardAttempt t a) (sym p.1) (counted t a a.stage refl p.0)
  | inr p ↦ subst (HeardAttempt t a) (sym p.1) (same_attempt t a)
]

-- an attempt that is there after a vote was there before it
pub data HeardFrom {Q : Type 0} (o : Option (AttemptState Q)) (t : Option (Told Q)) (b : AttemptState Q) : Type 0 where
  unheard : o ≡ Some b → HeardFrom o t b
  heard_from : (a : AttemptState Q) (u : Told Q) → o ≡ Some a → t ≡ Some u → HeardAttempt u a b → HeardFrom o t b

pub heard_if-from : {Q : Type 0} (o : Option (AttemptState Q)) (t : Option (Told Q)) (b : AttemptState Q) → heard_if o t ≡ Some b → HeardFrom o t b
heard_if-from o None b e = unheard e
heard_if-from None (Some t) b e = absurd (none-some b e)
heard_if-from (Some a) (Some t) b e = heard_from a t refl refl (subst (HeardAttempt t a) (some_inj _ b e) (heard t a))
