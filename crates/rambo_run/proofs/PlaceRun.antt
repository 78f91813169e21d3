-- What a place sees of a run is a run of votes and attempts
use Rattle.std.proofs.Common.{◌≡◌, ℕ, suc, ◌<◌, ◌≤◌, pred, true, false, nat_eq, nat_lt, Option, Some, None, refl, sym, ap, ◌∙◌, subst, inl, inr, ⊎_elim, arith, eq-or-lt_of_le, eq-eqb, eqb-true}
use Rattle.std.proofs.lemmas.Bool.{cases_lt, cond-true, cond-false, lt-ltb, le-ltb}
use Rattle.rambo_names.specs.Quorums.{QuorumSystem, IsSound}
use Rattle.rambo_config_map.specs.Maps.{end_of, top_of, active_at, merged_map}
use Rattle.rambo_config_map.specs.MapLaws.{merged_end}
use Rattle.rambo_gc.specs.CollectionLaws.{quorum_of}
use Rattle.rambo_paxos.specs.declared.offer.Offer.{Offer}
use Rattle.rambo_paxos.specs.declared.proposal.Proposal.{Proposal}
use Rattle.rambo_paxos.specs.Attempts.{AttemptState, offered, opened, rebid, heard_if_open, proposing, vote_opened, vote_proposed}
use Rattle.rambo_paxos.specs.Votes.{VoteState, empty_vote, taken_if}
use Rattle.rambo_paxos.specs.Voters.{Voter, Told, WasOffered, WasHeld, VoterTurn, hears, opens, rebids, proposes, leaves, IsRun, Chooses}
use Rattle.rambo_paxos.specs.VoterLaws.{one_choice}
use Rattle.rambo_node.specs.Nodes.{NodeState, first_node}
use Rattle.rambo_bids.specs.Hearing.{offer_for, is_level, vote_kept, heard_for}
use Rattle.rambo_node.specs.Letters.{gossip_for}
use Rattle.rambo_node.specs.Hearing.{heard_gossip}
use Rattle.rambo_run.proofs.Lists.{pick, some_inj, none-some}
use Rattle.rambo_run.proofs.Turn.{Moments, Telling, IsBacked, Run}
use Rattle.rambo_run.proofs.Formed.{IsFormed, backed_place, formed}
use Rattle.rambo_run.proofs.Held.{names, up}
use Rattle.rambo_run.proofs.Places.{HeldAt}
use Rattle.rambo_run.proofs.Origins.{ChosenAt}
use Rattle.rambo_run.proofs.VoteTurns.{VoteTurn, v_stays, v_hears, v_opens, v_rebids, v_proposes, v_learns, v_drops, vote_turn}
use Rattle.rambo_run.proofs.Voting.{attempt_for, voter, voters, voter_early, voter_now, voter_gone, same_offer, attempt_is_for, attempt_is_low, same_hearing, low_hearing}

opened_place : {Q : Type 0} (p : ℕ) (wish : Q) (v : VoteState Q) (n : ℕ) → (opened p wish v n).place ≡ p
unfolding opened
opened_place p wish v n = refl

proposed_place : {Q : Type 0} (a : AttemptState Q) (told : Option (Proposal Q)) (v : VoteState Q) → (proposing a told v).place ≡ a.place
unfolding proposing
proposed_place a told v = refl

-- no node's map ends at place 0
pub no_place : {Q : Type 0} (x : NodeState Q) → end_of x.map ≡ 0 → IsFormed x → ⊥
no_place x e f = omega (arith, e, f.active)

module _ {Q : Type 0} {T : Telling} (s : QuorumSystem Q) (founders : Q) (at : Moments Q) (run : Run s T founders at) (p : ℕ) (old : Q)
    (one : (c : Q) → HeldAt at p c → c ≡ old) where
  abbrev Moved : ℕ → ℕ → Voter Q → Voter Q → Type 0
  Moved m n x y = VoterTurn s.is_quorum old (voters at (suc p)) m n x y

  -- what two nodes are to the place decides
  between : (m n : ℕ) (x y : NodeState Q) (a b : Voter Q) → voter (suc p) x ≡ a → voter (suc p) y ≡ b → Moved m n a b → Moved m n (voter (suc p) x) (voter (suc p) y)
  between m n x y a b e f t = subst (λ a. Moved m n a (voter (suc p) y)) (sym e) (subst (Moved m n a) (sym f) t)

  -- nothing happens
  rests : (m n : ℕ) (a : Voter Q) → a.votes ≡ true → (b : Voter Q) → b ≡ record { votes = true; vote = a.vote; attempt = a.attempt } → Moved m n a b
  rests m n a v b e = hears None None (λ q i. absurd (none-some q i)) (λ u i. absurd (none-some u i)) v e

  was_offered : (m u j : ℕ) → u ≤ m → end_of (at u j).map ≡ suc p → (o : Offer Q) → offer_for (suc p) (at u j).attempt ≡ Some o → WasOffered (voters at (suc p)) m o
  was_offered m u j h e o i =
      let v = voter_now (suc p) (at u j) e in
      record { moment = u; before = h; node = j; votes = ap (λ v. v.votes) v; offer = ap (λ v. offered v.attempt) v ∙ same_offer (suc p) (at u j).attempt ∙ i }

  was_held : (m u j : ℕ) → u ≤ m → end_of (at u j).map ≡ suc p → WasHeld (voters at (suc p)) m (record { from = j; vote = (at u j).vote })
  was_held m u j h e =
      let v = voter_now (suc p) (at u j) e in record { moment = u; before = h; votes = ap (λ v. v.votes) v; vote = ap (λ v. v.vote) v }

  -- a node that goes on to the place by a letter
  arrives_hearing : (m n u j : ℕ) → u ≤ m → (y : NodeState Q) → y ≡ heard_gossip (at m n) j (gossip_for (at u j) n) → end_of (at m n).map < suc p → end_of y.map ≡ suc p
      → Moved m n (voter (suc p) (at m n)) (voter (suc p) y)
  unfolding heard_gossip
  arrives_hearing m n u j h y e l k =
      let x = at m n in
      let z = at u j in
      let g = gossip_for z n in
      let ends = merged_end x.map z.map (formed s founders at run m n).active (formed s founders at run u j).active in
      let there : end_of z.map ≡ suc p = omega (arith, ends, l, k, ap (λ y. end_of y.map) e) in
      let level : is_level x.map g.map ≡ true = eq-eqb (end_of z.map) (end_of (merged_map x.map z.map)) (omega (arith, there, k, ap (λ y. end_of y.map) e)) in
      let kept : vote_kept x.map x.vote g.map ≡ empty_vote = cond-true (nat_lt (end_of x.map) (end_of z.map)) empty_vote x.vote (lt-ltb (end_of x.map) (end_of z.map) (omega (arith, l, there))) in
      let offer = offer_for (suc p) z.attempt in
      let vote : y.vote ≡ taken_if empty_vote offer =
      ap (λ y. y.vote) e ∙ cond-true (is_level x.map g.map) (taken_if (vote_kept x.map x.vote g.map) g.offer) (vote_kept x.map x.vote g.map) level ∙ (λ i. taken_if (kept i) (offer_for (there i) z.attempt)) in
      let low : attempt_for (suc p) x.attempt ≡ None = attempt_is_low (suc p) x.attempt (λ a i. let b = (formed s founders at run m n).place a i in omega (arith, b, l)) in
      let attempt : attempt_for (suc p) y.attempt ≡ None =
      ap (attempt_for (suc p)) (ap (λ y. y.attempt) e ∙ cond-true (is_level x.map g.map) (heard_for (end_of z.map) x.attempt j z.vote) x.attempt level ∙ ap (λ k. heard_for k x.attempt j z.vote) there)
      ∙ low_hearing (suc p) x.attempt j z.vote low in
      between m n x y (record { votes = true; vote = empty_vote; attempt = None }) (record { votes = true; vote = taken_if empty_vote offer; attempt = None }) (voter_early (suc p) x l)
      (voter_now (suc p) y k ∙ (λ i. record { votes = true; vote = vote i; attempt = attempt i }))
      (hears offer None (was_offered m u j h there) (λ u i. absurd (none-some u i)) refl refl)

  -- a letter that comes to a node whose map ends at the place, and goes on ending there
  stays_hearing : (m n u j : ℕ) → u ≤ m → (y : NodeState Q) → y ≡ heard_gossip (at m n) j (gossip_for (at u j) n) → end_of (at m n).map ≡ suc p → end_of y.map ≡ suc p
      → Moved m n (voter (suc p) (at m n)) (voter (suc p) y)
  unfolding heard_gossip
  stays_hearing m n u j h y e l k =
      let x = at m n in
      let z = at u j in
      let g = gossip_for z n in
      let ends = merged_end x.map z.map (formed s founders at run m n).active (formed s founders at run u j).active in
      let merged : end_of (merged_map x.map z.map) ≡ suc p = omega (arith, k, ap (λ y. end_of y.map) e) in
      let low : end_of z.map ≤ suc p = omega (arith, ends, merged) in
      let kept : vote_kept x.map x.vote g.map ≡ x.vote = cond-false (nat_lt (end_of x.map) (end_of z.map)) empty_vote x.vote (le-ltb (end_of x.map) (end_of z.map) (omega (arith, l, low))) in
      let now : Voter Q = record { votes = true; vote = x.vote; attempt = attempt_for (suc p) x.attempt } in
      elim (pick (is_level x.map g.map) true false) [
        | inl q ↦
            (let there : end_of z.map ≡ suc p = eqb-true (end_of z.map) (end_of (merged_map x.map z.map)) q.0 ∙ merged in
            let offer = offer_for (suc p) z.attempt in
            let told : Told Q = record { from = j; vote = z.vote } in
            let vote : y.vote ≡ taken_if x.vote offer =
            ap (λ y. y.vote) e ∙ cond-true (is_level x.map g.map) (taken_if (vote_kept x.map x.vote g.map) g.offer) (vote_kept x.map x.vote g.map) q.0 ∙ (λ i. taken_if (kept i) (offer_for (there i) z.attempt)) in
            let attempt : attempt_for (suc p) y.attempt ≡ heard_if_open (attempt_for (suc p) x.attempt) j z.vote =
            ap (attempt_for (suc p)) (ap (λ y. y.attempt) e ∙ cond-true (is_level x.map g.map) (heard_for (end_of z.map) x.attempt j z.vote) x.attempt q.0 ∙ ap (λ k. heard_for k x.attempt j z.vote) there)
            ∙ same_hearing (suc p) x.attempt j z.vote in
            between m n x y now (record { votes = true; vote = taken_if x.vote offer; attempt = heard_if_open (attempt_for (suc p) x.attempt) j z.vote }) (voter_now (suc p) x l)
            (voter_now (suc p) y k ∙ (λ i. record { votes = true; vote = vote i; attempt = attempt i }))
            (hears offer (Some told) (was_offered m u j h there) (λ v i. subst (WasHeld (voters at (suc p)) m) (some_inj told v i) (was_held m u j h there)) refl refl))
        | inr q ↦
            (let vote : y.vote ≡ x.vote = ap (λ y. y.vote) e ∙ cond-false (is_level x.map g.map) (taken_if (vote_kept x.map x.vote g.map) g.offer) (vote_kept x.map x.vote g.map) q.0 ∙ kept in
            let attempt : attempt_for (suc p) y.attempt ≡ attempt_for (suc p) x.attempt =
            ap (attempt_for (suc p)) (ap (λ y. y.attempt) e ∙ cond-false (is_level x.map g.map) (heard_for (end_of z.map) x.attempt j z.vote) x.attempt q.0) in
            between m n x y now now (voter_now (suc p) x l) (voter_now (suc p) y k ∙ (λ i. record { votes = true; vote = vote i; attempt = attempt i })) (rests m n now refl now refl))
      ]

  -- the configuration below the place decides
  old_quorum : (m n : ℕ) (a : AttemptState Q) → IsBacked s (at m n) a → end_of (at m n).map ≡ suc p → s.is_quorum old a.repliers ≡ true
  old_quorum m n a b e =
      let x = at m n in
      let q = quorum_of s (active_at x.map (top_of x.map)) a.repliers b.quorum in
      let top : top_of x.map ≡ p = ap pred e in
      let same : q.0 ≡ old = one q.0 (record { moment = m; node = n; active = ap (active_at x.map) (sym top) ∙ q.1 }) in
      subst (λ c. s.is_quorum c a.repliers ≡ true) same q.2

  abbrev now : NodeState Q → Voter Q
  now x = record { votes = true; vote = x.vote; attempt = attempt_for (suc p) x.attempt }

  -- a node whose map ends at the place before and after
  stays_there : (m n : ℕ) (y : NodeState Q) → VoteTurn s at m n (at m n) y → end_of (at m n).map ≡ suc p → end_of y.map ≡ suc p → Moved m n (voter (suc p) (at m n)) (voter (suc p) y)
  stays_there m n y (v_stays e v a) l k =
      let x = at m n in
      between m n x y (now x) (now x) (voter_now (suc p) x l) (voter_now (suc p) y k ∙ (λ i. record { votes = true; vote = v i; attempt = attempt_for (suc p) (a i) })) (rests m n (now x) refl (now x) refl)
  stays_there m n y (v_hears u j h e) l k = stays_hearing m n u j h y e l k
  stays_there m n y (v_opens wish e v a) l k =
      let x = at m n in
      let me = names s founders at run m n in
      let b : AttemptState Q = opened (suc p) wish x.vote n in
      let attempt : attempt_for (suc p) y.attempt ≡ Some b = ap (attempt_for (suc p)) (a ∙ (λ i. Some (opened (l i) wish x.vote (me i)))) ∙ attempt_is_for (suc p) b (opened_place (suc p) wish x.vote n) in
      between m n x y (now x) (record { votes = true; vote = vote_opened x.vote n; attempt = Some b }) (voter_now (suc p) x l)
      (voter_now (suc p) y k ∙ (λ i. record { votes = true; vote = (v ∙ ap (vote_opened x.vote) me) i; attempt = attempt i }))
      (opens (suc p) wish refl refl)
  stays_there m n y (v_rebids b i q e v a) l k =
      let x = at m n in
      let place : b.place ≡ suc p = q ∙ l in
      let attempt : attempt_for (suc p) y.attempt ≡ Some (rebid b x.vote) =
      ap (attempt_for (suc p)) a ∙ attempt_is_for (suc p) (rebid b x.vote) (opened_place b.place b.wish x.vote b.ballot.name ∙ place) in
      between m n x y (now x) (record { votes = true; vote = vote_opened x.vote b.ballot.name; attempt = Some (rebid b x.vote) }) (voter_now (suc p) x l)
      (voter_now (suc p) y k ∙ (λ i. record { votes = true; vote = v i; attempt = attempt i }))
      (rebids b refl (ap (attempt_for (suc p)) i ∙ attempt_is_for (suc p) b place) refl)
  stays_there m n y (v_proposes b told w g e v a) l k =
      let x = at m n in
      let place : b.place ≡ suc p = backed_place s x b (formed s founders at run m n) w ∙ l in
      let attempt : attempt_for (suc p) y.attempt ≡ Some (proposing b told x.vote) =
      ap (attempt_for (suc p)) a ∙ attempt_is_for (suc p) (proposing b told x.vote) (proposed_place b told x.vote ∙ place) in
      between m n x y (now x) (record { votes = true; vote = vote_proposed b told x.vote; attempt = Some (proposing b told x.vote) }) (voter_now (suc p) x l)
      (voter_now (suc p) y k ∙ (λ i. record { votes = true; vote = v i; attempt = attempt i }))
      (proposes b told refl (ap (attempt_for (suc p)) w.is_open ∙ attempt_is_for (suc p) b place) g (old_quorum m n b w l) refl)
  stays_there m n y (v_learns e v a) l k = absurd (omega (arith, e, l, k))
  stays_there m n y (v_drops b i q e v a) l k =
      let x = at m n in
      let low : attempt_for (suc p) x.attempt ≡ None =
      attempt_is_low (suc p) x.attempt (λ c j. let same : b ≡ c = some_inj b c (sym i ∙ j) in omega (arith, ap (λ a. a.place) same, q, l)) in
      between m n x y (now x) (now x) (voter_now (suc p) x l)
      (voter_now (suc p) y k ∙ (λ i. record { votes = true; vote = v i; attempt = (ap (attempt_for (suc p)) a ∙ sym low) i })) (rests m n (now x) refl (now x) refl)

  abbrev early : Voter Q
  early = record { votes = true; vote = empty_vote; attempt = None }

  -- a node whose map comes to end at the place
  arrives : (m n : ℕ) (y : NodeState Q) → VoteTurn s at m n (at m n) y → end_of (at m n).map < suc p → end_of y.map ≡ suc p → Moved m n (voter (suc p) (at m n)) (voter (suc p) y)
  arrives m n y (v_stays e v a) l k = absurd (omega (arith, e, l, k))
  arrives m n y (v_hears u j h e) l k = arrives_hearing m n u j h y e l k
  arrives m n y (v_opens wish e v a) l k = absurd (omega (arith, e, l, k))
  arrives m n y (v_rebids b i q e v a) l k = absurd (omega (arith, e, l, k))
  arrives m n y (v_proposes b told w g e v a) l k = absurd (omega (arith, e, l, k))
  arrives m n y (v_learns e v a) l k =
      between m n (at m n) y early early (voter_early (suc p) (at m n) l) (voter_now (suc p) y k ∙ (λ i. record { votes = true; vote = v i; attempt = attempt_for (suc p) (a i) })) (rests m n early refl early refl)
  arrives m n y (v_drops b i q e v a) l k = absurd (omega (arith, e, l, k))

  voter_turn : (m n : ℕ) → Moved m n (voter (suc p) (at m n)) (voter (suc p) (at (suc m) n))
  voter_turn m n =
      let x = at m n in
      let y = at (suc m) n in
      let t = vote_turn s at m n x y (formed s founders at run m n) (run.turn m n) in
      let grows = (up s founders at run m (suc m) n (omega arith)).top in
      elim (cases_lt (suc p) (end_of y.map)) [
        | inl gone ↦ leaves (voter_gone (suc p) y gone)
        | inr here ↦ ⊎_elim
            (λ k. ⊎_elim (λ l. stays_there m n y t l k) (λ l. arrives m n y t l k) (eq-or-lt_of_le (omega (arith, grows, k))))
            (λ k. between m n x y early early (voter_early (suc p) x (omega (arith, grows, k))) (voter_early (suc p) y k) (rests m n early refl early refl))
            (eq-or-lt_of_le here)
      ]

  first_voter : (n : ℕ) → (end_of (at 0 n).map ≡ 1) × ((at 0 n).vote ≡ empty_vote) × ((at 0 n).attempt ≡ None)
  unfolding first_node
  first_voter n = let e = run.first n in (ap (λ x. end_of x.map) e, ap (λ x. x.vote) e, ap (λ x. x.attempt) e)

  vote_run : IsRun s.is_quorum old (voters at (suc p))
  vote_run = record {
    first_vote = λ n. let e = (first_voter n).1 in elim (pick (nat_eq (end_of (at 0 n).map) (suc p)) (at 0 n).vote empty_vote) [ inl q ↦ q.1 ∙ e | inr q ↦ q.1 ];
    first_attempt = λ n. let e = (first_voter n).2 in elim (pick (nat_eq (end_of (at 0 n).map) (suc p)) (attempt_for (suc p) (at 0 n).attempt) None) [ inl q ↦ q.1 ∙ ap (attempt_for (suc p)) e | inr q ↦ q.1 ];
    turn = voter_turn;
  }

  chooses_there : (c : Q) (h : ChosenAt s at (suc p) c) → Chooses s.is_quorum old (voters at (suc p)) h.moment h.node c
  chooses_there c h =
      let x = at h.moment h.node in
      let v = voter_now (suc p) x h.end in
      let place : h.attempt.place ≡ suc p = backed_place s x h.attempt (formed s founders at run h.moment h.node) h.backed ∙ h.end in
      record {
        votes = ap (λ v. v.votes) v;
        attempt = h.attempt;
        attempt_is = ap (λ v. v.attempt) v ∙ ap (attempt_for (suc p)) h.backed.is_open ∙ attempt_is_for (suc p) h.attempt place;
        stage = h.stage;
        quorum = old_quorum h.moment h.node h.attempt h.backed h.end;
      }

  -- what is chosen for the place is one configuration
  pub chosen_once : IsSound s → (c d : Q) → ChosenAt s at (suc p) c → ChosenAt s at (suc p) d → c ≡ d
  chosen_once law c d h k =
      one_choice s.is_quorum old (voters at (suc p)) vote_run (λ a b i j. let r = law.share old a b i j in (r.0, r.2, r.3)) h.moment h.node k.moment k.node c d (chooses_there c h) (chooses_there d k)
