-- Laws, no definitions of the code: votes and attempts for one place, over every run of them (Lamport, "Paxos Made
-- Simple", 2001). What two nodes choose is the same
use Rattle.std.proofs.Common.{◌≡◌, ℕ, zero, suc, ◌<◌, ◌≤◌, ◌⊎◌, Bool, true, Option, Some, refl, sym, ap, ◌∙◌, subst, inl, inr, ⊎_elim, arith, true≢false, eq-or-lt_of_le}
use Rattle.std.proofs.lemmas.Bool.{cases_lt}
use Rattle.std.specs.FinSet.{contains}
use Rattle.std.specs.FinSet as set
use Rattle.rambo_names.specs.Names.{NameSet}
use Rattle.rambo_paxos.specs.declared.ballot.Ballot.{Ballot}
use Rattle.rambo_paxos.specs.declared.proposal.Proposal.{Proposal}
use Rattle.rambo_paxos.specs.declared.offer.Offer.{Offer}
use Rattle.rambo_paxos.specs.declared.offer.Offer.TheVariants as offer
use Rattle.rambo_paxos.specs.declared.stage.Stage.{Stage}
use Rattle.rambo_paxos.specs.declared.stage.Stage.TheVariants as stage
use Rattle.rambo_paxos.specs.Votes.{VoteState, has_accepted, taken_if}
use Rattle.rambo_paxos.specs.Attempts.{AttemptState, only, next_ballot, opened, vote_opened, choice, vote_proposed, proposing}
use Rattle.rambo_paxos.specs.BallotLaws.{BallotLt, BallotLe, le_refl, le_trans, lt-le, le_lt_trans, lt_irrefl, cases_le, le_antisym, promised_in}
use Rattle.rambo_paxos.specs.Voters.{Voter, Voters, Told, heard_if, WasOffered, WasHeld, VoterTurn, hears, opens, rebids, proposes, leaves, IsRun, Chooses, Shares}
use Rattle.rambo_paxos.specs.VoteLaws.{pick, some_inj, none-some, not_in_empty, in_only, VoteLe, vote_le_refl, vote_le_trans, taken-le, taken_if-le, taken-accepted, taken_if-accepted, IsKept, empty-kept, taken_if-kept, next_ballot-lt, vote_opened-is, later_left, later_right, later_either, made_in, choice-told, prepare-propose, prepare_inj, propose_inj, offer_prepare-propose, offer_ballot, offers, HeardAttempt, unheard, heard_from, heard_if-from}

pub from_then : (P : ℕ → Type 0) (m : ℕ) → P m → ((k : ℕ) → m ≤ k → P k → P (suc k)) → (k : ℕ) → m ≤ k → P k
from_then P m p st zero h = subst P (omega arith) p
from_then P m p st (suc k) h = ⊎_elim (λ e. subst P e p) (λ l. st k (omega arith) (from_then P m p st k (omega arith))) (eq-or-lt_of_le h)

-- the turn of a node that takes part after it
data View {Q : Type 0} (is_quorum : Q → NameSet → Bool) (old : Q) (at : Voters Q) (m n : ℕ) (x y : Voter Q) : Type 0 where
  v_hears : (o : Option (Offer Q)) (t : Option (Told Q)) → ((p : Offer Q) → o ≡ Some p → WasOffered at m p) → ((u : Told Q) → t ≡ Some u → WasHeld at m u)
      → y ≡ record { votes = true; vote = taken_if x.vote o; attempt = heard_if x.attempt t } → View is_quorum old at m n x y
  v_opens : (place : ℕ) (wish : Q) → y ≡ record { votes = true; vote = vote_opened x.vote n; attempt = Some (opened place wish x.vote n) } → View is_quorum old at m n x y
  v_proposes : (a : AttemptState Q) (told : Option (Proposal Q)) → x.attempt ≡ Some a → a.stage ≡ stage.Prepare told → is_quorum old a.repliers ≡ true
      → y ≡ record { votes = true; vote = vote_proposed a told x.vote; attempt = Some (proposing a told x.vote) } → View is_quorum old at m n x y

-- a node's vote and attempt fit each other
record Fits {Q : Type 0} (n : ℕ) (x : Voter Q) : Type 0 where
  accepted : IsKept x.vote
  name : (a : AttemptState Q) → x.attempt ≡ Some a → a.ballot.name ≡ n
  promised : (a : AttemptState Q) → x.attempt ≡ Some a → BallotLe a.ballot (promised_in x.vote.promised)

-- a node that takes part took part before
went_on : {Q : Type 0} (is_quorum : Q → NameSet → Bool) (old : Q) (at : Voters Q) (m n : ℕ) (x y : Voter Q) → VoterTurn is_quorum old at m n x y → y.votes ≡ true → x.votes ≡ true
went_on is_quorum old at m n x y (hears o t g h v e) w = v
went_on is_quorum old at m n x y (opens p c v e) w = v
went_on is_quorum old at m n x y (rebids a v i e) w = v
went_on is_quorum old at m n x y (proposes a t v i s q e) w = v
went_on is_quorum old at m n x y (leaves v) w = absurd (true≢false (sym w ∙ v))

view_of : {Q : Type 0} (is_quorum : Q → NameSet → Bool) (old : Q) (at : Voters Q) (m n : ℕ) (x y : Voter Q) → Fits n x → VoterTurn is_quorum old at m n x y → y.votes ≡ true → View is_quorum old at m n x y
view_of is_quorum old at m n x y f (hears o t g h v e) w = v_hears o t g h e
view_of is_quorum old at m n x y f (opens p c v e) w = v_opens p c e
view_of {Q} is_quorum old at m n x y f (rebids a v i e) w =
    let begun : ℕ → Voter Q = λ k. record { votes = true; vote = vote_opened x.vote k; attempt = Some (opened a.place a.wish x.vote k) } in
    v_opens a.place a.wish (e ∙ ap begun (f.name a i))
view_of is_quorum old at m n x y f (proposes a t v i s q e) w = v_proposes a t i s q e
view_of is_quorum old at m n x y f (leaves v) w = absurd (true≢false (sym w ∙ v))

fits_on : {Q : Type 0} (is_quorum : Q → NameSet → Bool) (old : Q) (at : Voters Q) (m n : ℕ) (x y : Voter Q) → Fits n x → View is_quorum old at m n x y → Fits n y
unfolding opened proposing
fits_on is_quorum old at m n x y f (v_hears o t g h e) = subst (Fits n) (sym e) (record {
  accepted = taken_if-kept x.vote o f.accepted;
  name = λ b i. elim (heard_if-from x.attempt t b i) [ unheard j ↦ f.name b j | heard_from a u j k r ↦ ap (λ z. z.name) r.ballot ∙ f.name a j ];
  promised = λ b i. le_trans b.ballot (promised_in x.vote.promised) (promised_in (taken_if x.vote o).promised)
      (elim (heard_if-from x.attempt t b i) [
        | unheard j ↦ f.promised b j
        | heard_from a u j k r ↦ subst (λ z. BallotLe z (promised_in x.vote.promised)) (sym r.ballot) (f.promised a j)
      ])
      (taken_if-le x.vote o).promised;
})
fits_on is_quorum old at m n x y f (v_opens p c e) = subst (Fits n) (sym e) (record {
  accepted = taken_if-kept x.vote (Some (offer.Prepare (next_ballot x.vote n))) f.accepted;
  name = λ b i. subst (λ b. b.ballot.name ≡ n) (some_inj _ b i) refl;
  promised = λ b i. subst (λ b. BallotLe b.ballot (promised_in (vote_opened x.vote n).promised)) (some_inj _ b i)
      (subst (λ w. BallotLe (next_ballot x.vote n) (promised_in w.promised)) (sym (vote_opened-is x.vote n)) (le_refl (next_ballot x.vote n)));
})
fits_on is_quorum old at m n x y f (v_proposes a t i s q e) = subst (Fits n) (sym e) (record {
  accepted = taken_if-kept x.vote (Some (offer.Propose a.ballot (choice t a.wish))) f.accepted;
  name = λ b j. subst (λ b. b.ballot.name ≡ n) (some_inj _ b j) (f.name a i);
  promised = λ b j. subst (λ b. BallotLe b.ballot (promised_in (vote_proposed a t x.vote).promised)) (some_inj _ b j)
      (le_trans a.ballot (promised_in x.vote.promised) _ (f.promised a i) (taken-le x.vote (offer.Propose a.ballot (choice t a.wish))).promised);
})

-- the votes of a node that takes part go on
vote_on : {Q : Type 0} (is_quorum : Q → NameSet → Bool) (old : Q) (at : Voters Q) (m n : ℕ) (x y : Voter Q) → View is_quorum old at m n x y → VoteLe x.vote y.vote
vote_on is_quorum old at m n x y (v_hears o t g h e) = subst (λ z. VoteLe x.vote z.vote) (sym e) (taken_if-le x.vote o)
vote_on is_quorum old at m n x y (v_opens p c e) = subst (λ z. VoteLe x.vote z.vote) (sym e) (taken-le x.vote (offer.Prepare (next_ballot x.vote n)))
vote_on is_quorum old at m n x y (v_proposes a t i s q e) = subst (λ z. VoteLe x.vote z.vote) (sym e) (taken-le x.vote (offer.Propose a.ballot (choice t a.wish)))

-- a later attempt: of a greater ballot, or of the same ballot and not back from its proposal
abbrev StageLe : {Q : Type 0} → Stage Q → Stage Q → Type 0
StageLe (stage.Prepare t) s = Unit {0}
StageLe (stage.Propose c) s = s ≡ stage.Propose c

abbrev AttemptLe : {Q : Type 0} → AttemptState Q → AttemptState Q → Type 0
AttemptLe a b = BallotLt a.ballot b.ballot ⊎ ((a.ballot ≡ b.ballot) × StageLe a.stage b.stage)

stage_refl : {Q : Type 0} (s : Stage Q) → StageLe s s
stage_refl (stage.Prepare t) = tt
stage_refl (stage.Propose c) = refl

stage_along : {Q : Type 0} (k s r : Stage Q) → ((c : Q) → s ≡ stage.Propose c → r ≡ stage.Propose c) → StageLe k s → StageLe k r
stage_along (stage.Prepare t) s r f h = tt
stage_along (stage.Propose c) s r f h = f c h

along : {Q : Type 0} (t : Told Q) (k a b : AttemptState Q) → HeardAttempt t a b → AttemptLe k a → AttemptLe k b
along t k a b r h = elim h [
  | inl l ↦ inl (subst (BallotLt k.ballot) (sym r.ballot) l)
  | inr p ↦ inr (p.0 ∙ sym r.ballot, stage_along k.stage a.stage b.stage r.proposed p.1)
]

from_prepare : {Q : Type 0} (k s : Stage Q) (t : Option (Proposal Q)) → StageLe k (stage.Prepare t) → StageLe k s
from_prepare (stage.Prepare u) s t h = tt
from_prepare (stage.Propose c) s t h = absurd (prepare-propose t c h)

-- a node at a later moment, and an attempt that it had
record Forward {Q : Type 0} (k : AttemptState Q) (x : Voter Q) : Type 0 where
  promised : BallotLe k.ballot (promised_in x.vote.promised)
  attempt : (b : AttemptState Q) → x.attempt ≡ Some b → AttemptLe k b

forward_on : {Q : Type 0} (is_quorum : Q → NameSet → Bool) (old : Q) (at : Voters Q) (m n : ℕ) (k : AttemptState Q) (x y : Voter Q) → Forward k x → View is_quorum old at m n x y → Forward k y
unfolding opened proposing
forward_on is_quorum old at m n k x y f (v_hears o t g h e) = subst (Forward k) (sym e) (record {
  promised = le_trans k.ballot (promised_in x.vote.promised) _ f.promised (taken_if-le x.vote o).promised;
  attempt = λ b i. elim (heard_if-from x.attempt t b i) [ unheard j ↦ f.attempt b j | heard_from a u j l r ↦ along u k a b r (f.attempt a j) ];
})
forward_on is_quorum old at m n k x y f (v_opens p c e) = subst (Forward k) (sym e) (record {
  promised = le_trans k.ballot (promised_in x.vote.promised) _ f.promised (taken-le x.vote (offer.Prepare (next_ballot x.vote n))).promised;
  attempt = λ b i. subst (AttemptLe k) (some_inj _ b i) (inl (le_lt_trans k.ballot (promised_in x.vote.promised) (next_ballot x.vote n) f.promised (next_ballot-lt x.vote n)));
})
forward_on is_quorum old at m n k x y f (v_proposes a t i s q e) = subst (Forward k) (sym e) (record {
  promised = le_trans k.ballot (promised_in x.vote.promised) _ f.promised (taken-le x.vote (offer.Propose a.ballot (choice t a.wish))).promised;
  attempt = λ b j. subst (AttemptLe k) (some_inj _ b j) (elim (f.attempt a i) [
    | inl l ↦ inl l
    | inr z ↦ inr (z.0, from_prepare k.stage _ t (subst (StageLe k.stage) s z.1))
  ]);
})

-- an attempt of ballot b that proposed c, at some moment up to m
record Proposed {Q : Type 0} (at : Voters Q) (m : ℕ) (b : Ballot) (c : Q) : Type 0 where
  moment : ℕ
  before : moment ≤ m
  votes : (at moment b.name).votes ≡ true
  attempt : AttemptState Q
  attempt_is : (at moment b.name).attempt ≡ Some attempt
  ballot : attempt.ballot ≡ b
  stage : attempt.stage ≡ stage.Propose c

-- a vote that accepted q, at some moment up to m
record AcceptedBy {Q : Type 0} (at : Voters Q) (m : ℕ) (q : Proposal Q) : Type 0 where
  moment : ℕ
  before : moment ≤ m
  node : ℕ
  votes : (at moment node).votes ≡ true
  accepted : (at moment node).vote.accepted ≡ Some q

-- the vote of j at moment y promised b, and whoever heard it was told of all that it had accepted
record Promise {Q : Type 0} (at : Voters Q) (y j : ℕ) (b : Ballot) (told : Option (Proposal Q)) : Type 0 where
  votes : (at y j).votes ≡ true
  promised : (at y j).vote.promised ≡ Some b
  low : (q : Proposal Q) → (at y j).vote.accepted ≡ Some q → (r : Proposal Q) × (told ≡ Some r) × BallotLe q.ballot r.ballot

-- an attempt in its first stage at moment m: its repliers promised its ballot
record Prepares {Q : Type 0} (at : Voters Q) (m : ℕ) (a : AttemptState Q) (t : Option (Proposal Q)) : Type 0 where
  replies : (j : ℕ) → contains a.repliers j ≡ true → (y : ℕ) × (y ≤ m) × Promise at y j a.ballot t
  told : (q : Proposal Q) → t ≡ Some q → BallotLt q.ballot a.ballot × AcceptedBy at m q

-- what made c the proposal of ballot b: before moment m a quorum promised b, and c was told of unless nothing was
record Prepared {Q : Type 0} (is_quorum : Q → NameSet → Bool) (old : Q) (at : Voters Q) (m : ℕ) (b : Ballot) (c : Q) : Type 0 where
  who : NameSet
  quorum : is_quorum old who ≡ true
  told : Option (Proposal Q)
  last : ℕ
  order : last < m
  replies : (j : ℕ) → contains who j ≡ true → (y : ℕ) × (y ≤ last) × Promise at y j b told
  agrees : (q : Proposal Q) → told ≡ Some q → (q.config ≡ c) × BallotLt q.ballot b × AcceptedBy at last q

-- j accepted a proposal of ballot b by moment m
record Acceptance {Q : Type 0} (at : Voters Q) (m j : ℕ) (b : Ballot) : Type 0 where
  moment : ℕ
  before : moment ≤ m
  votes : (at moment j).votes ≡ true
  proposal : Proposal Q
  accepted : (at moment j).vote.accepted ≡ Some proposal
  ballot : proposal.ballot ≡ b

-- an attempt in its second stage at moment m
record Proposes {Q : Type 0} (is_quorum : Q → NameSet → Bool) (old : Q) (at : Voters Q) (m : ℕ) (a : AttemptState Q) (c : Q) : Type 0 where
  prepared : Prepared is_quorum old at m a.ballot c
  replies : (j : ℕ) → contains a.repliers j ≡ true → Acceptance at m j a.ballot

record AttemptAt {Q : Type 0} (is_quorum : Q → NameSet → Bool) (old : Q) (at : Voters Q) (m : ℕ) (a : AttemptState Q) : Type 0 where
  prepares : (told : Option (Proposal Q)) → a.stage ≡ stage.Prepare told → Prepares at m a told
  proposes : (c : Q) → a.stage ≡ stage.Propose c → Proposes is_quorum old at m a c

promise_more : {Q : Type 0} (at : Voters Q) (y j : ℕ) (b c : Ballot) (t u : Option (Proposal Q)) → b ≡ c
    → ((q : Proposal Q) → t ≡ Some q → (s : Proposal Q) × (u ≡ Some s) × BallotLe q.ballot s.ballot) → Promise at y j b t → Promise at y j c u
promise_more at y j b c t u f g h = record {
  votes = h.votes;
  promised = h.promised ∙ ap Some f;
  low = λ q i. let k = h.low q i in let l = g k.0 k.1 in (l.0, l.1, le_trans q.ballot k.0.ballot l.0.ballot k.2 l.2);
}

accepted_later : {Q : Type 0} (at : Voters Q) (m k : ℕ) (q : Proposal Q) → m ≤ k → AcceptedBy at m q → AcceptedBy at k q
accepted_later at m k q h f = record { moment = f.moment; before = omega (arith, h, f.before); node = f.node; votes = f.votes; accepted = f.accepted }

proposed_later : {Q : Type 0} (at : Voters Q) (m k : ℕ) (b : Ballot) (c : Q) → m ≤ k → Proposed at m b c → Proposed at k b c
proposed_later at m k b c h f = record {
  moment = f.moment;
  before = omega (arith, h, f.before);
  votes = f.votes;
  attempt = f.attempt;
  attempt_is = f.attempt_is;
  ballot = f.ballot;
  stage = f.stage;
}

acceptance_later : {Q : Type 0} (at : Voters Q) (m k j : ℕ) (b c : Ballot) → m ≤ k → b ≡ c → Acceptance at m j b → Acceptance at k j c
acceptance_later at m k j b c h e f = record {
  moment = f.moment;
  before = omega (arith, h, f.before);
  votes = f.votes;
  proposal = f.proposal;
  accepted = f.accepted;
  ballot = f.ballot ∙ e;
}

prepared_later : {Q : Type 0} (is_quorum : Q → NameSet → Bool) (old : Q) (at : Voters Q) (m k : ℕ) (b d : Ballot) (c : Q) → m ≤ k → b ≡ d → Prepared is_quorum old at m b c → Prepared is_quorum old at k d c
prepared_later is_quorum old at m k b d c h g f = record {
  who = f.who;
  quorum = f.quorum;
  told = f.told;
  last = f.last;
  order = omega (arith, h, f.order);
  replies = λ j i. let z = f.replies j i in (z.0, z.1, promise_more at z.0 j b d f.told f.told g (λ q i. (q, i, le_refl q.ballot)) z.2);
  agrees = λ q i. let z = f.agrees q i in (z.0, subst (BallotLt q.ballot) g z.1, z.2);
}

attempt_lasts : {Q : Type 0} (is_quorum : Q → NameSet → Bool) (old : Q) (at : Voters Q) (m : ℕ) (a : AttemptState Q) → AttemptAt is_quorum old at m a → AttemptAt is_quorum old at (suc m) a
attempt_lasts is_quorum old at m a f = record {
  prepares = λ t e. let g = f.prepares t e in record {
    replies = λ j i. let z = g.replies j i in (z.0, omega (arith, z.1), z.2);
    told = λ q i. let z = g.told q i in (z.0, accepted_later at m (suc m) q (omega arith) z.1);
  };
  proposes = λ c e. let g = f.proposes c e in record {
    prepared = prepared_later is_quorum old at m (suc m) a.ballot a.ballot c (omega arith) refl g.prepared;
    replies = λ j i. acceptance_later at m (suc m) j a.ballot a.ballot (omega arith) refl (g.replies j i);
  };
}

module _ {Q : Type 0} (is_quorum : Q → NameSet → Bool) (old : Q) (at : Voters Q) (run : IsRun is_quorum old at) where
  -- a node that takes part at a moment took part before
  took_part : (m k n : ℕ) → m ≤ k → (at k n).votes ≡ true → (at m n).votes ≡ true
  took_part m k n h = from_then (λ k. (at k n).votes ≡ true → (at m n).votes ≡ true) m (λ v. v)
      (λ k l f v. f (went_on is_quorum old at k n (at k n) (at (suc k) n) (run.turn k n) v)) k h

  fits : (m n : ℕ) → (at m n).votes ≡ true → Fits n (at m n)
  fits zero n v = record {
    accepted = subst IsKept (sym (run.first_vote n)) empty-kept;
    name = λ a h. absurd (none-some a (sym (run.first_attempt n) ∙ h));
    promised = λ a h. absurd (none-some a (sym (run.first_attempt n) ∙ h));
  }
  fits (suc m) n v =
      let f = fits m n (took_part m (suc m) n (omega arith) v) in
      fits_on is_quorum old at m n (at m n) (at (suc m) n) f (view_of is_quorum old at m n (at m n) (at (suc m) n) f (run.turn m n) v)

  view : (m n : ℕ) → (at (suc m) n).votes ≡ true → View is_quorum old at m n (at m n) (at (suc m) n)
  view m n v = view_of is_quorum old at m n (at m n) (at (suc m) n) (fits m n (took_part m (suc m) n (omega arith) v)) (run.turn m n) v

  -- votes go up
  votes_up : (m k n : ℕ) → m ≤ k → (at k n).votes ≡ true → VoteLe (at m n).vote (at k n).vote
  votes_up m k n h = from_then (λ k. (at k n).votes ≡ true → VoteLe (at m n).vote (at k n).vote) m (λ v. vote_le_refl (at m n).vote)
      (λ k l f v. vote_le_trans (at m n).vote (at k n).vote (at (suc k) n).vote (f (took_part k (suc k) n (omega arith) v))
      (vote_on is_quorum old at k n (at k n) (at (suc k) n) (view k n v))) k h

  -- attempts go forward
  forward : (m k n : ℕ) (a : AttemptState Q) → m ≤ k → (at m n).attempt ≡ Some a → (at k n).votes ≡ true → Forward a (at k n)
  forward m k n a h e = from_then (λ k. (at k n).votes ≡ true → Forward a (at k n)) m
      (λ v. record { promised = (fits m n v).promised a e; attempt = λ b i. subst (AttemptLe a) (some_inj a b (sym e ∙ i)) (inr (refl, stage_refl a.stage)) })
      (λ k l f v. forward_on is_quorum old at k n a (at k n) (at (suc k) n) (f (took_part k (suc k) n (omega arith) v)) (view k n v)) k h

  attempt_proposed : (s m n : ℕ) (a : AttemptState Q) (b : Ballot) (c : Q) → s ≤ m → (at s n).votes ≡ true → (at s n).attempt ≡ Some a → a.ballot ≡ b → a.stage ≡ stage.Propose c → Proposed at m b c
  attempt_proposed s m n a b c h v e k f =
      let name : n ≡ b.name = sym ((fits s n v).name a e) ∙ ap (λ t. t.name) k in
      record {
        moment = s;
        before = h;
        votes = subst (λ n. (at s n).votes ≡ true) name v;
        attempt = a;
        attempt_is = subst (λ n. (at s n).attempt ≡ Some a) name e;
        ballot = k;
        stage = f;
      }

  abbrev Origin : ℕ → ℕ → Type 0
  Origin m n = (q : Proposal Q) → (at m n).vote.accepted ≡ Some q → Proposed at m q.ballot q.config

  origin_on : (m n : ℕ) → (at (suc m) n).votes ≡ true → Origin m n → View is_quorum old at m n (at m n) (at (suc m) n) → Origin (suc m) n
  unfolding proposing
  origin_on m n v f (v_hears o t g h e) q i = elim (taken_if-accepted (at m n).vote o q (sym (ap (λ y. y.vote.accepted) e) ∙ i)) [
    | inl j ↦ proposed_later at m (suc m) q.ballot q.config (omega arith) (f q j)
    | inr p ↦ (let w = g (offer.Propose q.ballot q.config) p.0 in
        let z = offers (at w.moment w.node).attempt q.ballot q.config w.offer in
        attempt_proposed w.moment (suc m) w.node z.attempt q.ballot q.config (omega (arith, w.before)) w.votes z.attempt_is z.ballot z.stage)
  ]
  origin_on m n v f (v_opens p c e) q i = elim (taken-accepted (at m n).vote (offer.Prepare (next_ballot (at m n).vote n)) q (sym (ap (λ y. y.vote.accepted) e) ∙ i)) [
    | inl j ↦ proposed_later at m (suc m) q.ballot q.config (omega arith) (f q j)
    | inr p ↦ absurd (offer_prepare-propose (next_ballot (at m n).vote n) q.ballot q.config p.0)
  ]
  origin_on m n v f (v_proposes a t j s u e) q i = elim (taken-accepted (at m n).vote (offer.Propose a.ballot (choice t a.wish)) q (sym (ap (λ y. y.vote.accepted) e) ∙ i)) [
    | inl j ↦ proposed_later at m (suc m) q.ballot q.config (omega arith) (f q j)
    | inr p ↦ (let r = offer_ballot a.ballot q.ballot (choice t a.wish) q.config p.0 in
        attempt_proposed (suc m) (suc m) n (proposing a t (at m n).vote) q.ballot q.config (omega arith) v (ap (λ y. y.attempt) e) r.0 (ap (λ c. stage.Propose c) r.1))
  ]

  -- what was accepted was proposed
  origin : (m n : ℕ) → (at m n).votes ≡ true → Origin m n
  origin zero n v = λ q h. absurd (none-some q (sym (ap (λ w. w.accepted) (run.first_vote n)) ∙ h))
  origin (suc m) n v = origin_on m n v (origin m n (took_part m (suc m) n (omega arith) v)) (view m n v)

  -- one proposal for each ballot
  same_stage : (a b : AttemptState Q) (c d : Q) → a.ballot ≡ b.ballot → AttemptLe a b → a.stage ≡ stage.Propose c → b.stage ≡ stage.Propose d → c ≡ d
  same_stage a b c d e l p q = elim l [
    | inl h ↦ absurd (lt_irrefl a.ballot b.ballot h (subst (BallotLe b.ballot) (sym e) (le_refl b.ballot)))
    | inr h ↦ (let s : StageLe (stage.Propose c) b.stage = subst (λ o. StageLe o b.stage) p h.1 in sym (propose_inj d c (sym q ∙ s)))
  ]

  one_proposal : (m k : ℕ) (b : Ballot) (c d : Q) → Proposed at m b c → Proposed at k b d → c ≡ d
  one_proposal m k b c d f g = elim (cases_lt f.moment g.moment) [
    | inl l ↦ same_stage f.attempt g.attempt c d (f.ballot ∙ sym g.ballot) ((forward f.moment g.moment b.name f.attempt (omega (arith, l)) f.attempt_is g.votes).attempt g.attempt g.attempt_is) f.stage g.stage
    | inr l ↦ sym (same_stage g.attempt f.attempt d c (g.ballot ∙ sym f.ballot) ((forward g.moment f.moment b.name g.attempt l g.attempt_is f.votes).attempt f.attempt f.attempt_is) g.stage f.stage)
  ]

  -- an attempt in its first stage has proposed nothing yet
  not_proposed : (m n : ℕ) (a : AttemptState Q) (t : Option (Proposal Q)) (c : Q) → (at m n).votes ≡ true → (at m n).attempt ≡ Some a → a.stage ≡ stage.Prepare t → Proposed at m a.ballot c → ⊥
  not_proposed m n a t c v e p f =
      let name : a.ballot.name ≡ n = (fits m n v).name a e in
      let there : (at f.moment n).attempt ≡ Some f.attempt = subst (λ n. (at f.moment n).attempt ≡ Some f.attempt) name f.attempt_is in
      elim ((forward f.moment m n f.attempt f.before there v).attempt a e) [
        | inl h ↦ lt_irrefl f.attempt.ballot a.ballot h (subst (BallotLe a.ballot) (sym f.ballot) (le_refl a.ballot))
        | inr h ↦ (let s : StageLe (stage.Propose c) a.stage = subst (λ o. StageLe o a.stage) f.stage h.1 in prepare-propose t c (sym p ∙ s))
      ]

  abbrev AllAttempts : ℕ → ℕ → Type 0
  AllAttempts m n = (a : AttemptState Q) → (at m n).attempt ≡ Some a → AttemptAt is_quorum old at m a

  -- a vote that was held is heard
  heard_at : (m n : ℕ) (u : Told Q) (a b : AttemptState Q) → (at m n).votes ≡ true → (at m n).attempt ≡ Some a → WasHeld at m u → HeardAttempt u a b → AttemptAt is_quorum old at m a → AttemptAt is_quorum old at (suc m) b
  heard_at m n u a b v e w r f = record { prepares = prepares; proposes = proposes }
    where
      accepts : (q : Proposal Q) → u.vote.accepted ≡ Some q → (at w.moment u.from).vote.accepted ≡ Some q
      accepts q i = ap (λ z. z.accepted) w.vote ∙ i

      below : (t : Option (Proposal Q)) (q : Proposal Q) → a.stage ≡ stage.Prepare t → u.vote.promised ≡ Some a.ballot → u.vote.accepted ≡ Some q → BallotLt q.ballot a.ballot
      below t q none k o =
          let there : (at w.moment u.from).vote.promised ≡ Some a.ballot = ap (λ z. z.promised) w.vote ∙ k in
          let le : BallotLe q.ballot a.ballot = subst (λ z. BallotLe q.ballot (promised_in z)) there ((fits w.moment u.from w.votes).accepted q (accepts q o)) in
          elim (cases_le q.ballot a.ballot) [
            | inl lt ↦ lt
            | inr ge ↦ (let same : q.ballot ≡ a.ballot = le_antisym q.ballot a.ballot le ge in
                absurd (not_proposed m n a t q.config v e none (subst (λ z. Proposed at m z q.config) same (proposed_later at w.moment m q.ballot q.config w.before (origin w.moment u.from w.votes q (accepts q o))))))
          ]

      prepares : (t : Option (Proposal Q)) → b.stage ≡ stage.Prepare t → Prepares at (suc m) b t
      prepares t i =
          let z = r.prepares t i in
          let g = f.prepares z.0 z.1 in
          record {
            replies = λ k h. elim (r.repliers k h) [
              | inl o ↦ (let y = g.replies k o in (y.0, omega (arith, y.1), promise_more at y.0 k a.ballot b.ballot z.0 t (sym r.ballot) grown y.2))
              | inr o ↦ (
                w.moment,
                omega (arith, w.before),
                (let y = o.1 t i in subst (λ k. Promise at w.moment k b.ballot t) (sym o.0) (record {
                  votes = w.votes;
                  promised = ap (λ z. z.promised) w.vote ∙ y.2 ∙ ap Some (sym r.ballot);
                  low = λ q j. let x = later_right y.0 u.vote.accepted q (sym (ap (λ z. z.accepted) w.vote) ∙ j) in (x.0, y.3 ∙ x.1, x.2);
                })),
              )
            ];
            told = λ q h. elim z.2 [
              | inl k ↦ (let y = g.told q (sym k ∙ h) in (subst (BallotLt q.ballot) (sym r.ballot) y.0, accepted_later at m (suc m) q (omega arith) y.1))
              | inr k ↦ elim (later_either z.0 u.vote.accepted q (sym k.1 ∙ h)) [
                | inl o ↦ (let y = g.told q o in (subst (BallotLt q.ballot) (sym r.ballot) y.0, accepted_later at m (suc m) q (omega arith) y.1))
                | inr o ↦ (
                  subst (BallotLt q.ballot) (sym r.ballot) (below z.0 q z.1 k.0 o),
                  record { moment = w.moment; before = omega (arith, w.before); node = u.from; votes = w.votes; accepted = accepts q o },
                )
              ]
            ];
          }
        where
          grown : (q : Proposal Q) → (r.prepares t i).0 ≡ Some q → (s : Proposal Q) × (t ≡ Some s) × BallotLe q.ballot s.ballot
          grown q j = elim (r.prepares t i).2 [
            | inl k ↦ (q, k ∙ j, le_refl q.ballot)
            | inr k ↦ (let x = later_left (r.prepares t i).0 u.vote.accepted q j in (x.0, k.1 ∙ x.1, x.2))
          ]

      proposes : (c : Q) → b.stage ≡ stage.Propose c → Proposes is_quorum old at (suc m) b c
      proposes c i =
          let g = f.proposes c (r.proposes c i) in
          record {
            prepared = prepared_later is_quorum old at m (suc m) a.ballot b.ballot c (omega arith) (sym r.ballot) g.prepared;
            replies = λ k h. elim (r.repliers k h) [
              | inl o ↦ acceptance_later at m (suc m) k a.ballot b.ballot (omega arith) (sym r.ballot) (g.replies k o)
              | inr o ↦ (let y = made_in u.vote.accepted a.ballot (o.2 c i) in
                  subst (λ k. Acceptance at (suc m) k b.ballot) (sym o.0) (record {
                    moment = w.moment;
                    before = omega (arith, w.before);
                    votes = w.votes;
                    proposal = y.0;
                    accepted = accepts y.0 y.1;
                    ballot = y.2 ∙ sym r.ballot;
                  }))
            ];
          }

  opened_at : (m n place : ℕ) (wish : Q) → (at m n).votes ≡ true → (at (suc m) n).votes ≡ true → (at (suc m) n).vote ≡ vote_opened (at m n).vote n → AttemptAt is_quorum old at (suc m) (opened place wish (at m n).vote n)
  unfolding opened
  opened_at m n place wish v w e =
      let x : VoteState Q = (at m n).vote in
      let a : AttemptState Q = opened place wish x n in
      let vote : (at (suc m) n).vote ≡ record { promised = Some (next_ballot x n); accepted = x.accepted } = e ∙ vote_opened-is x n in
      let own : Promise at (suc m) n (next_ballot x n) x.accepted = record {
        votes = w;
        promised = ap (λ v. v.promised) vote;
        low = λ q i. (q, sym (ap (λ v. v.accepted) vote) ∙ i, le_refl q.ballot);
      } in
      let first : Prepares at (suc m) a x.accepted = record {
        replies = λ j i. (suc m, omega arith, subst (λ j. Promise at (suc m) j (next_ballot x n) x.accepted) (sym (in_only n j i)) own);
        told = λ q i. (
          le_lt_trans q.ballot (promised_in x.promised) (next_ballot x n) ((fits m n v).accepted q i) (next_ballot-lt x n),
          record { moment = m; before = omega arith; node = n; votes = v; accepted = i },
        );
      } in
      record {
        prepares = λ t i. subst (Prepares at (suc m) a) (prepare_inj x.accepted t i) first;
        proposes = λ c i. absurd (prepare-propose x.accepted c i);
      }

  proposing_at : (m n : ℕ) (a : AttemptState Q) (t : Option (Proposal Q)) → (at m n).votes ≡ true → (at (suc m) n).votes ≡ true → (at m n).attempt ≡ Some a → is_quorum old a.repliers ≡ true
      → Prepares at m a t → (at (suc m) n).vote ≡ vote_proposed a t (at m n).vote → AttemptAt is_quorum old at (suc m) (proposing a t (at m n).vote)
  unfolding proposing
  proposing_at m n a t v w i q g e =
      let b : AttemptState Q = proposing a t (at m n).vote in
      let vote : VoteState Q = vote_proposed a t (at m n).vote in
      let own : has_accepted vote a.ballot ≡ true → Acceptance at (suc m) n a.ballot = λ o.
      let y = made_in vote.accepted a.ballot o in
      record { moment = suc m; before = omega arith; votes = w; proposal = y.0; accepted = ap (λ z. z.accepted) e ∙ y.1; ballot = y.2 } in
      let second : Proposes is_quorum old at (suc m) b (choice t a.wish) = record {
        prepared = record {
          who = a.repliers;
          quorum = q;
          told = t;
          last = m;
          order = omega arith;
          replies = g.replies;
          agrees = λ r l. let y = g.told r l in (choice-told t a.wish r l, y.0, y.1);
        };
        replies = λ j r. elim (pick (has_accepted vote a.ballot) (only a.ballot.name) set.empty) [
          | inl o ↦ (let name : j ≡ n = in_only a.ballot.name j (sym (ap (λ s. contains s j) o.1) ∙ r) ∙ (fits m n v).name a i in
              subst (λ j. Acceptance at (suc m) j a.ballot) (sym name) (own o.0))
          | inr o ↦ absurd (not_in_empty j (sym (ap (λ s. contains s j) o.1) ∙ r))
        ];
      } in
      record {
        prepares = λ u z. absurd (prepare-propose u (choice t a.wish) (sym z));
        proposes = λ c z. subst (λ c. Proposes is_quorum old at (suc m) b c) (propose_inj (choice t a.wish) c z) second;
      }

  attempts_on : (m n : ℕ) → (at (suc m) n).votes ≡ true → AllAttempts m n → View is_quorum old at m n (at m n) (at (suc m) n) → AllAttempts (suc m) n
  attempts_on m n v f (v_hears o t g h e) b i =
      let w = took_part m (suc m) n (omega arith) v in
      elim (heard_if-from (at m n).attempt t b (sym (ap (λ y. y.attempt) e) ∙ i)) [
        | unheard j ↦ attempt_lasts is_quorum old at m b (f b j)
        | heard_from a u j k r ↦ heard_at m n u a b w j (h u k) r (f a j)
      ]
  attempts_on m n v f (v_opens p c e) b i =
      subst (AttemptAt is_quorum old at (suc m)) (some_inj _ b (sym (ap (λ y. y.attempt) e) ∙ i))
      (opened_at m n p c (took_part m (suc m) n (omega arith) v) v (ap (λ y. y.vote) e))
  attempts_on m n v f (v_proposes a t j s q e) b i =
      subst (AttemptAt is_quorum old at (suc m)) (some_inj _ b (sym (ap (λ y. y.attempt) e) ∙ i))
      (proposing_at m n a t (took_part m (suc m) n (omega arith) v) v j q ((f a j).prepares t s) (ap (λ y. y.vote) e))

  attempts : (m n : ℕ) → (at m n).votes ≡ true → AllAttempts m n
  attempts zero n v = λ a h. absurd (none-some a (sym (run.first_attempt n) ∙ h))
  attempts (suc m) n v = attempts_on m n v (attempts m n (took_part m (suc m) n (omega arith) v)) (view m n v)

  -- c was chosen: a quorum accepted the proposal of a ballot
  record Chosen (c : Q) : Type 0 where
    ballot : Ballot
    who : NameSet
    quorum : is_quorum old who ≡ true
    moment : ℕ
    proposed : Proposed at moment ballot c
    votes : (j : ℕ) → contains who j ≡ true → Acceptance at moment j ballot

  chosen : (m n : ℕ) (c : Q) → Chooses is_quorum old at m n c → Chosen c
  chosen m n c h = let a = h.attempt in let f = (attempts m n h.votes a h.attempt_is).proposes c h.stage in record {
    ballot = a.ballot;
    who = a.repliers;
    quorum = h.quorum;
    moment = m;
    proposed = attempt_proposed m m n a a.ballot c (omega arith) h.votes h.attempt_is refl h.stage;
    votes = f.replies;
  }

  -- one node's acceptance that chose, and its promise of a greater ballot
  told_of : (b d : Ballot) (told : Option (Proposal Q)) (m j y : ℕ) → BallotLt d b → Acceptance at m j d → Promise at y j b told → (r : Proposal Q) × (told ≡ Some r) × BallotLe d r.ballot
  told_of b d told m j y lt v p =
      let z = accepted in
      let u = p.low z.0 z.1 in
      (u.0, u.1, le_trans d z.0.ballot u.0.ballot z.2 u.2)
    where
      low : BallotLe d v.proposal.ballot
      low = subst (λ t. BallotLe t v.proposal.ballot) v.ballot (le_refl v.proposal.ballot)

      kept : BallotLe d (promised_in (at v.moment j).vote.promised)
      kept = le_trans d v.proposal.ballot _ low ((fits v.moment j v.votes).accepted v.proposal v.accepted)

      accepted : (r : Proposal Q) × ((at y j).vote.accepted ≡ Some r) × BallotLe d r.ballot
      accepted = elim (cases_lt v.moment y) [
        | inl l ↦ elim (votes_up v.moment y j (omega (arith, l)) p.votes).accepted [
          | inl e ↦ (v.proposal, e ∙ v.accepted, low)
          | inr r ↦ (r.0, r.1, le_trans d (promised_in (at v.moment j).vote.promised) r.0.ballot kept r.2)
        ]
        | inr l ↦ elim (votes_up y v.moment j l v.votes).accepted [
          | inl e ↦ (v.proposal, sym e ∙ v.accepted, low)
          | inr r ↦ (let same : r.0 ≡ v.proposal = some_inj r.0 v.proposal (sym r.1 ∙ v.accepted) in
              let high : BallotLe b d = subst (BallotLe b) (ap (λ z. z.ballot) same ∙ v.ballot) (subst (λ t. BallotLe (promised_in t) r.0.ballot) p.promised r.2) in
              absurd (lt_irrefl d b lt high))
        ]
      ]

  -- once a configuration is chosen, every greater ballot proposes it
  proposals_agree : Shares is_quorum old → (m : ℕ) (b : Ballot) (d : Q) → Proposed at m b d → (c : Q) (g : Chosen c) → BallotLe g.ballot b → c ≡ d
  proposals_agree shares zero b d f c g l =
      let p = ((attempts f.moment b.name f.votes f.attempt f.attempt_is).proposes d f.stage).prepared in absurd (omega (arith, p.order, f.before))
  proposals_agree shares (suc m) b d f c g l = elim (cases_le g.ballot b) [
    | inl lt ↦
        (let p = ((attempts f.moment b.name f.votes f.attempt f.attempt_is).proposes d f.stage).prepared in
        let both = shares p.who g.who p.quorum g.quorum in
        let r = p.replies both.0 both.1 in
        let promise : Promise at r.0 both.0 b p.told = subst (λ t. Promise at r.0 both.0 t p.told) f.ballot r.2 in
        let t = told_of b g.ballot p.told g.moment both.0 r.0 lt (g.votes both.0 both.2) promise in
        let a = p.agrees t.0 t.1 in
        let o = origin a.2.moment a.2.node a.2.votes t.0 a.2.accepted in
        let before : Proposed at m t.0.ballot t.0.config = proposed_later at a.2.moment m t.0.ballot t.0.config (omega (arith, a.2.before, p.order, f.before)) o in
        proposals_agree shares m t.0.ballot t.0.config before c g t.2 ∙ a.0)
    | inr ge ↦ (let same : g.ballot ≡ b = le_antisym g.ballot b l ge in
        one_proposal g.moment (suc m) b c d (subst (λ t. Proposed at g.moment t c) same g.proposed) f)
  ]

  chosen_agree : Shares is_quorum old → (c d : Q) → Chosen c → Chosen d → c ≡ d
  chosen_agree shares c d g h = elim (cases_le g.ballot h.ballot) [
    | inl l ↦ proposals_agree shares h.moment h.ballot d h.proposed c g (lt-le g.ballot h.ballot l)
    | inr l ↦ sym (proposals_agree shares g.moment g.ballot c g.proposed d h l)
  ]

  -- whoever chooses, and whenever, chooses the same
  pub one_choice : Shares is_quorum old → (m n k j : ℕ) (c d : Q) → Chooses is_quorum old at m n c → Chooses is_quorum old at k j d → c ≡ d
  one_choice shares m n k j c d f g = chosen_agree shares c d (chosen m n c f) (chosen k j d g)
