-- The law of votes and attempts, over every list of moves
use Rattle.std.proofs.Common.{◌≡◌, ℕ, zero, suc, ◌≤◌, ◌⊎◌, Bool, true, false, ◌&&◌, nat_eq, List, [], ◌∷◌, ◌++◌, length, take, Option, Some, None, refl, sym, ap, ◌∙◌, subst, inl, inr, arith, eqb-true, true≢false}
use Rattle.std.specs.Prelude.{is_none}
use Rattle.rambo_names.specs.Quorums.{QuorumSystem, IsSound}
use Rattle.rambo_paxos.specs.declared.proposal.Proposal.{Proposal}
use Rattle.rambo_paxos.specs.declared.offer.Offer.{Offer}
use Rattle.rambo_paxos.specs.declared.stage.Stage.{Stage}
use Rattle.rambo_paxos.specs.declared.stage.Stage.TheVariants as stage
use Rattle.rambo_paxos.specs.Votes.{VoteState, empty_vote, taken}
use Rattle.rambo_paxos.specs.Attempts.{AttemptState, opened, rebid, vote_opened, proposing, vote_proposed, bid_in, advanced_in, vote_advanced_in, bid_of, advanced, vote_advanced, offered, heard_if_open}
use Rattle.rambo_paxos.specs.Voters.{Voter, Voters, Told, heard_if, WasOffered, WasHeld, VoterTurn, hears, opens, rebids, proposes, leaves, IsRun, Chooses, Shares}
use Rattle.rambo_paxos.specs.VoteLaws.{pick, some_inj, none-some}
use Rattle.rambo_paxos.specs.VoterLaws.{one_choice}
use Rattle.rambo_paxos.specs.Moves.{Move, Open, Rebid, Take, Hear, Advance, mover, Seat, vacant, begun_again, after_bid, advanced_seat, own_move, moved, seat_from, seat_after, HeldOffer, HeldVote, IsHonest, OneConfigurationIsChosen}

-- lists and their beginnings
cons_head : {A : Type 0} (x y : A) (xs ys : List A) → x ∷ xs ≡ y ∷ ys → x ≡ y
cons_head x y xs ys e = ap (λ l. elim l [ [] ↦ x | z ∷ zs ↦ z ]) e

cons_tail : {A : Type 0} (x y : A) (xs ys : List A) → x ∷ xs ≡ y ∷ ys → xs ≡ ys
cons_tail x y xs ys e = ap (λ l. elim l [ [] ↦ xs | z ∷ zs ↦ zs ]) e

nil-cons : {A : Type 0} (x : A) (xs : List A) → [] ≡ x ∷ xs → ⊥
nil-cons x xs e = cc

-- the next moment of a list has one entry more, or the list is over
record NextEntry {A : Type 0} (xs : List A) (m : ℕ) : Type 0 where
  entry : A
  after : List A
  longer : take (suc m) xs ≡ take m xs ++ entry ∷ []
  split : xs ≡ take m xs ++ entry ∷ after

next_entry : {A : Type 0} (xs : List A) (m : ℕ) → (take (suc m) xs ≡ take m xs) ⊎ NextEntry xs m
next_entry [] zero = inl refl
next_entry [] (suc m) = inl refl
next_entry (x ∷ xs) zero = inr (record { entry = x; after = xs; longer = refl; split = refl })
next_entry (x ∷ xs) (suc m) = elim (next_entry xs m) [
  | inl e ↦ inl (ap (λ l. x ∷ l) e)
  | inr n ↦ inr (record { entry = n.entry; after = n.after; longer = ap (λ l. x ∷ l) n.longer; split = ap (λ l. x ∷ l) n.split })
]

-- a beginning of the first m entries is a beginning of the list
beginning : {A : Type 0} (xs early late : List A) (m : ℕ) → take m xs ≡ early ++ late → (take (length early) xs ≡ early) × (length early ≤ m)
beginning xs [] late m e = (refl, omega arith)
beginning xs (a ∷ rest) late zero e = absurd (nil-cons a (rest ++ late) e)
beginning [] (a ∷ rest) late (suc m) e = absurd (nil-cons a (rest ++ late) e)
beginning (x ∷ xs) (a ∷ rest) late (suc m) e =
    let r = beginning xs rest late m (cons_tail x a (take m xs) (rest ++ late) e) in
    let head : x ≡ a = cons_head x a (take m xs) (rest ++ late) e in
    ((λ i. head i ∷ r.0 i), omega (arith, r.1))

take_all : {A : Type 0} (xs : List A) → take (length xs) xs ≡ xs
take_all [] = refl
take_all (x ∷ xs) = ap (λ r. x ∷ r) (take_all xs)

both : (a b : Bool) → (a && b) ≡ true → (a ≡ true) × (b ≡ true)
both true b e = (refl, e)
both false b e = absurd (true≢false (sym e))

is_none-true : {A : Type 0} (o : Option A) → is_none o ≡ true → o ≡ None
is_none-true None e = refl
is_none-true (Some a) e = absurd (true≢false (sym e))

-- a seat as the law sees it
abbrev voter_of : {Q : Type 0} → Seat Q → Voter Q
voter_of x = record { votes = is_none x.chosen; vote = x.vote; attempt = x.attempt }

-- a node whose advance chose holds an empty vote and no attempt
Ended : {Q : Type 0} → Seat Q → Type 0
Ended {Q} x = (c : Q) → x.chosen ≡ Some c → (x.attempt ≡ None) × (x.vote ≡ empty_vote)

module _ {Q : Type 0} (s : QuorumSystem Q) (place : ℕ) (old : Q) where
  seat_last : (n : ℕ) (x : Seat Q) (moves : List (Move Q)) (move : Move Q) → seat_from s place old n x (moves ++ move ∷ []) ≡ moved s place old n (seat_from s place old n x moves) move
  unfolding seat_from
  seat_last n x [] move = refl
  seat_last n x (v ∷ vs) move = seat_last n (moved s place old n x v) vs move

  -- a seat that has not chosen, and what its own move makes of it
  data OwnMove (x : Seat Q) (move : Move Q) (y : Seat Q) : Type 0 where
    no_change : y ≡ x → OwnMove x move y
    opened' : (n : ℕ) (wish : Q) → move ≡ Open n wish → y ≡ record x { vote = vote_opened x.vote n; attempt = Some (opened place wish x.vote n) } → OwnMove x move y
    begun' : (a : AttemptState Q) → x.attempt ≡ Some a → y ≡ record x { vote = vote_opened x.vote a.ballot.name; attempt = Some (rebid a x.vote) } → OwnMove x move y
    took' : (n : ℕ) (o : Offer Q) → move ≡ Take n o → y ≡ record x { vote = taken x.vote o } → OwnMove x move y
    heard' : (n j : ℕ) (v : VoteState Q) → move ≡ Hear n j v → y ≡ record x { attempt = heard_if_open x.attempt j v } → OwnMove x move y
    proposed' : (a : AttemptState Q) (told : Option (Proposal Q)) → x.attempt ≡ Some a → a.stage ≡ stage.Prepare told → s.is_quorum old a.repliers ≡ true
        → y ≡ record { vote = vote_proposed a told x.vote; attempt = Some (proposing a told x.vote); chosen = None } → OwnMove x move y
    chose' : (a : AttemptState Q) (c : Q) → x.attempt ≡ Some a → a.stage ≡ stage.Propose c → s.is_quorum old a.repliers ≡ true
        → y ≡ record { vote = empty_vote; attempt = None; chosen = Some c } → OwnMove x move y

  advance_stage : (x : Seat Q) (move : Move Q) (a : AttemptState Q) (g : Stage Q) → x.attempt ≡ Some a → a.stage ≡ g → s.is_quorum old a.repliers ≡ true
      → OwnMove x move (after_bid (bid_in g) (vote_advanced_in g a x.vote) (advanced_in g a x.vote))
  advance_stage x move a (stage.Prepare told) e f q = proposed' a told e f q refl
  advance_stage x move a (stage.Propose c) e f q = chose' a c e f q refl

  advance_move : (x : Seat Q) (move : Move Q) (o : Option (AttemptState Q)) → x.attempt ≡ o → OwnMove x move (advanced_seat s old x o)
  advance_move x move None e = no_change refl
  advance_move x move (Some a) e = elim (pick (s.is_quorum old a.repliers) (after_bid (bid_of a) (vote_advanced a x.vote) (advanced a x.vote)) x) [
    | inl p ↦ subst (OwnMove x move) (sym p.1) (advance_stage x move a a.stage e refl p.0)
    | inr p ↦ no_change p.1
  ]

  rebid_move : (x : Seat Q) (move : Move Q) (o : Option (AttemptState Q)) → x.attempt ≡ o → OwnMove x move (begun_again x o)
  rebid_move x move None e = no_change refl
  rebid_move x move (Some a) e = begun' a e refl

  own_cases : (x : Seat Q) (move : Move Q) → OwnMove x move (own_move s place old x move)
  own_cases x (Open n wish) = opened' n wish refl refl
  own_cases x (Rebid n) = rebid_move x (Rebid n) x.attempt refl
  own_cases x (Take n o) = took' n o refl refl
  own_cases x (Hear n j v) = heard' n j v refl refl
  own_cases x (Advance n) = advance_move x (Advance n) x.attempt refl

  -- a move changes nothing, or it is the node's own and the node has not chosen
  record Moves (n : ℕ) (x : Seat Q) (move : Move Q) (y : Seat Q) : Type 0 where
    own : mover move ≡ n
    free : x.chosen ≡ None
    change : OwnMove x move y

  cases : (n : ℕ) (x : Seat Q) (move : Move Q) → (moved s place old n x move ≡ x) ⊎ Moves n x move (moved s place old n x move)
  cases n x move = elim (pick (nat_eq (mover move) n && is_none x.chosen) (own_move s place old x move) x) [
    | inl p ↦ (let f = both (nat_eq (mover move) n) (is_none x.chosen) p.0 in
        inr (subst (Moves n x move) (sym p.1) (record { own = eqb-true (mover move) n f.0; free = is_none-true x.chosen f.1; change = own_cases x move })))
    | inr p ↦ inl p.1
  ]

  ended_on : (x y : Seat Q) (move : Move Q) → x.chosen ≡ None → OwnMove x move y → Ended y
  unfolding Ended
  ended_on x y move f (no_change e) c h = absurd (none-some c (sym f ∙ sym (ap (λ z. z.chosen) e) ∙ h))
  ended_on x y move f (opened' n w i e) c h = absurd (none-some c (sym f ∙ sym (ap (λ z. z.chosen) e) ∙ h))
  ended_on x y move f (begun' a i e) c h = absurd (none-some c (sym f ∙ sym (ap (λ z. z.chosen) e) ∙ h))
  ended_on x y move f (took' n o i e) c h = absurd (none-some c (sym f ∙ sym (ap (λ z. z.chosen) e) ∙ h))
  ended_on x y move f (heard' n j v i e) c h = absurd (none-some c (sym f ∙ sym (ap (λ z. z.chosen) e) ∙ h))
  ended_on x y move f (proposed' a t i g q e) c h = absurd (none-some c (sym (ap (λ z. z.chosen) e) ∙ h))
  ended_on x y move f (chose' a d i g q e) c h = (ap (λ z. z.attempt) e, ap (λ z. z.vote) e)

  ended_from : (n : ℕ) (moves : List (Move Q)) (x : Seat Q) → Ended x → Ended (seat_from s place old n x moves)
  unfolding seat_from
  ended_from n [] x f = f
  ended_from n (v ∷ vs) x f = ended_from n vs (moved s place old n x v) (elim (cases n x v) [
    | inl e ↦ subst Ended (sym e) f
    | inr r ↦ ended_on x (moved s place old n x v) v r.free r.change
  ])

  ended : (n : ℕ) (moves : List (Move Q)) → Ended (seat_after s place old n moves)
  unfolding Ended
  ended n moves = ended_from n moves vacant (λ c h. absurd (none-some c h))

  module _ (moves : List (Move Q)) (honest : IsHonest s place old moves) where
    abbrev seat : ℕ → ℕ → Seat Q
    seat m n = seat_after s place old n (take m moves)

    abbrev at : Voters Q
    at m n = voter_of (seat m n)

    -- an offer that was held, and a vote
    was_offered : (m : ℕ) (o : Offer Q) → HeldOffer s place old (take m moves) o → WasOffered at m o
    unfolding Ended
    was_offered m o h =
        let b = beginning moves h.early h.late m h.split in
        let offer : offered (seat (length h.early) h.node).attempt ≡ Some o = ap (λ l. offered (seat_after s place old h.node l).attempt) b.0 ∙ h.offer in
        record { moment = length h.early; before = b.1; node = h.node; votes = voting (seat (length h.early) h.node).chosen refl offer; offer = offer }
      where
        voting : (c : Option Q) → (seat (length h.early) h.node).chosen ≡ c → offered (seat (length h.early) h.node).attempt ≡ Some o → (at (length h.early) h.node).votes ≡ true
        voting None e i = ap is_none e
        voting (Some c) e i = absurd (none-some o (sym (ap offered (ended h.node (take (length h.early) moves) c e).0) ∙ i))

    was_held : (m j : ℕ) (v : VoteState Q) → HeldVote s place old (take m moves) j v → WasHeld at m (record { from = j; vote = v })
    unfolding Ended seat_from
    was_held m j v h = go (seat (length h.early) j).chosen refl
      where
        there : (take (length h.early) moves ≡ h.early) × (length h.early ≤ m)
        there = beginning moves h.early h.late m h.split

        vote : (seat (length h.early) j).vote ≡ v
        vote = ap (λ l. (seat_after s place old j l).vote) there.0 ∙ h.vote

        go : (c : Option Q) → (seat (length h.early) j).chosen ≡ c → WasHeld at m (record { from = j; vote = v })
        go None e = record { moment = length h.early; before = there.1; votes = ap is_none e; vote = vote }
        go (Some c) e = record { moment = 0; before = omega arith; votes = refl; vote = sym (ended j (take (length h.early) moves) c e).1 ∙ vote }

    stay : (m n : ℕ) (b : Bool) → (at m n).votes ≡ b → at (suc m) n ≡ at m n → VoterTurn s.is_quorum old at m n (at m n) (at (suc m) n)
    stay m n true v e =
        let same : Voter Q = record { votes = true; vote = (at m n).vote; attempt = (at m n).attempt } in
        let is : at m n ≡ same = (λ i. record { votes = v i; vote = (at m n).vote; attempt = (at m n).attempt }) in
        hears None None (λ p h. absurd (none-some p h)) (λ u h. absurd (none-some u h)) v (e ∙ is)
    stay m n false v e = leaves (ap (λ y. y.votes) e ∙ v)

    turn_of : (m n : ℕ) (move : Move Q) (after : List (Move Q)) → moves ≡ take m moves ++ move ∷ after → mover move ≡ n → (seat m n).chosen ≡ None
        → OwnMove (seat m n) move (seat (suc m) n) → VoterTurn s.is_quorum old at m n (at m n) (at (suc m) n)
    turn_of m n move after l w f (no_change e) = stay m n true (ap is_none f) (ap voter_of e)
    turn_of m n move after l w f (opened' k wish i e) =
        let x = seat m n in
        let name : k ≡ n = sym (ap mover i) ∙ w in
        let begun : ℕ → Voter Q = λ k. record { votes = is_none x.chosen; vote = vote_opened x.vote k; attempt = Some (opened place wish x.vote k) } in
        let free : Bool → Voter Q = λ b. record { votes = b; vote = vote_opened x.vote n; attempt = Some (opened place wish x.vote n) } in
        opens place wish (ap is_none f) (ap voter_of e ∙ ap begun name ∙ ap free (ap is_none f))
    turn_of m n move after l w f (begun' a i e) =
        let x = seat m n in
        let free : Bool → Voter Q = λ b. record { votes = b; vote = vote_opened x.vote a.ballot.name; attempt = Some (rebid a x.vote) } in
        rebids a (ap is_none f) i (ap voter_of e ∙ ap free (ap is_none f))
    turn_of m n move after l w f (took' k o i e) =
        let x = seat m n in
        let taken_by : Voter Q = record { votes = true; vote = taken x.vote o; attempt = x.attempt } in
        let is : voter_of (record x { vote = taken x.vote o }) ≡ taken_by = (λ j. record { votes = is_none (f j); vote = taken x.vote o; attempt = x.attempt }) in
        let held = honest.takes (take m moves) after k o (l ∙ ap (λ z. take m moves ++ z ∷ after) i) in
        hears (Some o) None (λ p h. subst (WasOffered at m) (some_inj o p h) (was_offered m o held)) (λ u h. absurd (none-some u h)) (ap is_none f) (ap voter_of e ∙ is)
    turn_of m n move after l w f (heard' k j v i e) =
        let x = seat m n in
        let told : Told Q = record { from = j; vote = v } in
        let free : Bool → Voter Q = λ b. record { votes = b; vote = x.vote; attempt = heard_if x.attempt (Some told) } in
        let held = honest.hears (take m moves) after k j v (l ∙ ap (λ z. take m moves ++ z ∷ after) i) in
        hears None (Some told) (λ p h. absurd (none-some p h)) (λ u h. subst (WasHeld at m) (some_inj told u h) (was_held m j v held)) (ap is_none f) (ap voter_of e ∙ ap free (ap is_none f))
    turn_of m n move after l w f (proposed' a t i g q e) = proposes a t (ap is_none f) i g q (ap voter_of e)
    turn_of m n move after l w f (chose' a c i g q e) = leaves (ap (λ z. is_none z.chosen) e)

    -- the next moment is the same, or one move later
    turn : (m n : ℕ) → VoterTurn s.is_quorum old at m n (at m n) (at (suc m) n)
    turn m n = elim (next_entry moves m) [
      | inl e ↦ stay m n (at m n).votes refl (ap (λ l. voter_of (seat_after s place old n l)) e)
      | inr r ↦ (let later : seat (suc m) n ≡ moved s place old n (seat m n) r.entry = ap (seat_after s place old n) r.longer ∙ seat_last n vacant (take m moves) r.entry in
          elim (cases n (seat m n) r.entry) [
            | inl e ↦ stay m n (at m n).votes refl (ap voter_of (later ∙ e))
            | inr z ↦ turn_of m n r.entry r.after r.split z.own z.free (subst (OwnMove (seat m n) r.entry) (sym later) z.change)
          ])
    ]

    run : IsRun s.is_quorum old at
    unfolding seat_from
    run = record { first_vote = λ n. refl; first_attempt = λ n. refl; turn = turn }

    -- who has chosen chose at some moment
    Chose : ℕ → ℕ → Q → Type 0
    Chose m n c = (k : ℕ) × Chooses s.is_quorum old at k n c

    chose_by : (m n : ℕ) (c : Q) (move : Move Q) → (seat m n).chosen ≡ None → OwnMove (seat m n) move (seat (suc m) n) → (seat (suc m) n).chosen ≡ Some c → Chose m n c
    unfolding Chose
    chose_by m n c move f (no_change e) h = absurd (none-some c (sym f ∙ sym (ap (λ z. z.chosen) e) ∙ h))
    chose_by m n c move f (opened' k w i e) h = absurd (none-some c (sym f ∙ sym (ap (λ z. z.chosen) e) ∙ h))
    chose_by m n c move f (begun' a i e) h = absurd (none-some c (sym f ∙ sym (ap (λ z. z.chosen) e) ∙ h))
    chose_by m n c move f (took' k o i e) h = absurd (none-some c (sym f ∙ sym (ap (λ z. z.chosen) e) ∙ h))
    chose_by m n c move f (heard' k j v i e) h = absurd (none-some c (sym f ∙ sym (ap (λ z. z.chosen) e) ∙ h))
    chose_by m n c move f (proposed' a t i g q e) h = absurd (none-some c (sym (ap (λ z. z.chosen) e) ∙ h))
    chose_by m n c move f (chose' a d i g q e) h =
        let same : d ≡ c = some_inj d c (sym (ap (λ z. z.chosen) e) ∙ h) in
        (m, record { votes = ap is_none f; attempt = a; attempt_is = i; stage = g ∙ ap (λ z. stage.Propose z) same; quorum = q })

    chose_at : (m n : ℕ) (c : Q) → (seat m n).chosen ≡ Some c → Chose m n c
    unfolding seat_from Chose
    chose_at zero n c h = absurd (none-some c h)
    chose_at (suc m) n c h = elim (next_entry moves m) [
      | inl e ↦ chose_at m n c (sym (ap (λ l. (seat_after s place old n l).chosen) e) ∙ h)
      | inr r ↦ (let later : seat (suc m) n ≡ moved s place old n (seat m n) r.entry = ap (seat_after s place old n) r.longer ∙ seat_last n vacant (take m moves) r.entry in
          elim (cases n (seat m n) r.entry) [
            | inl e ↦ chose_at m n c (sym (ap (λ z. z.chosen) (later ∙ e)) ∙ h)
            | inr z ↦ chose_by m n c r.entry z.free (subst (OwnMove (seat m n) r.entry) (sym later) z.change) h
          ])
    ]

    one : Shares s.is_quorum old → (n k : ℕ) (c d : Q) → (seat_after s place old n moves).chosen ≡ Some c → (seat_after s place old k moves).chosen ≡ Some d → c ≡ d
    unfolding Chose
    one shares n k c d f g =
        let end : take (length moves) moves ≡ moves = take_all moves in
        let x = chose_at (length moves) n c (ap (λ l. (seat_after s place old n l).chosen) end ∙ f) in
        let y = chose_at (length moves) k d (ap (λ l. (seat_after s place old k l).chosen) end ∙ g) in
        one_choice s.is_quorum old at run shares x.0 n y.0 k c d x.1 y.1

pub one_configuration : {Q : Type 0} (s : QuorumSystem Q) → IsSound s → OneConfigurationIsChosen s
one_configuration s sound place old moves honest n k c d f g =
    one s place old moves honest (λ a b h i. let r = sound.share old a b h i in (r.0, r.2, r.3)) n k c d f g
