-- A run of whole worlds is a run of nodes
use Rattle.std.proofs.Common.{◌≡◌, ℕ, zero, suc, ◌+◌, ◌⊎◌, if◌then◌else◌, nat_eq, length, Some, refl, sym, ap, ◌∙◌, subst, inl, inr, arith, eqb-true}
use Rattle.rambo_names.specs.Quorums.{QuorumSystem}
use Rattle.rambo_gossip.specs.Letters.{LetterState}
use Rattle.rambo_node.specs.Nodes.{NodeState, first_node}
use Rattle.rambo_node.specs.Letters.{letter_for}
use Rattle.rambo_node.specs.Operations.{called, query_answered, call_closed}
use Rattle.rambo_node.specs.Steps.{Step}
use Rattle.rambo_node.specs.declared.step.StepOf.TheVariants as step
use Rattle.rambo_run.specs.Worlds.{WorldState, node_at, letter_at, first_world}
use Rattle.rambo_run.proofs.Lists.{pick, none-some}
use Rattle.rambo_run.proofs.Turn.{Moments, Telling, Turn, stays, calls, queried, answers, Run}
use Rattle.rambo_run.proofs.Held.{name_turn}
use Rattle.rambo_run.proofs.Numbers.{Numbered, numbered_turn, numbered_first}
use Rattle.rambo_run.proofs.Seen.{Seen, seen_at, WorldTurn, t_still, t_node, t_calls, t_queries, t_answers, named_some}
use Rattle.rambo_run.proofs.Steps.{letter_more, OneMore, letters_after}
use Rattle.rambo_run.proofs.Sights.{Worlds, at as at_of, view as view_of, Happens as HappensIn, Came as CameIn, LetterFrom as LetterIn, Sound as SoundIn, To as ToIn, is_at as is_there}
use Rattle.rambo_run.proofs.FirstWorlds.{first_seen}
use Rattle.rambo_run.proofs.Doings.{step_of as step_seen}

module _ {Q : Type 0} (s : QuorumSystem Q) (founders : Q) (world : ℕ → WorldState Q) (worlds : Worlds s founders world) where
  abbrev at : Moments Q
  at m n = at_of s founders world worlds m n

  abbrev view : ℕ → Seen Q
  view m = view_of s founders world worlds m

  abbrev Happens : ℕ → Step Q → Type 0
  Happens m st = HappensIn s founders world worlds m st

  abbrev Came : Telling
  Came m n u j = CameIn s founders world worlds m n u j

  abbrev LetterFrom : ℕ → ℕ → LetterState Q → Type 0
  LetterFrom m i l = LetterIn s founders world worlds m i l

  abbrev Sound : ℕ → Type 0
  Sound m = SoundIn s founders world worlds m

  abbrev To : ℕ → WorldState Q → Type 0
  To m z = ToIn s founders world worlds m z

  is_at : (m n : ℕ) (x : NodeState Q) → node_at (world m) n ≡ Some x → x ≡ at m n
  is_at m n x e = is_there s founders world worlds m n x e

  -- one node changed
  one_changed : (m n k : ℕ) (y z : NodeState Q) → z ≡ (if nat_eq k n then y else at m k) → Turn s Came at m n (at m n) y → Turn s Came at m k (at m k) z
  one_changed m n k y z e t = elim (pick (nat_eq k n) y (at m k)) [
    | inl p ↦ (let same : n ≡ k = sym (eqb-true k n p.0) in subst (Turn s Came at m k (at m k)) (sym (e ∙ p.1)) (subst (λ k. Turn s Came at m k (at m k) y) same t))
    | inr p ↦ stays (e ∙ p.1)
  ]

  seen_turn : (m k : ℕ) → WorldTurn s Came at m (view m) (view (suc m)) → Turn s Came at m k (at m k) (at (suc m) k)
  seen_turn m k (t_still e) = stays (ap (λ v. v.node k) e)
  seen_turn m k (t_node n y t h g e) = one_changed m n k y (at (suc m) k) (ap (λ v. v.node k) e) t
  seen_turn m k (t_calls n o e) = one_changed m n k (called (at m n) o) (at (suc m) k) (ap (λ v. v.node k) e) (calls o refl)
  seen_turn m k (t_queries n c a b d e) = one_changed m n k (query_answered (at m n) c) (at (suc m) k) (ap (λ v. v.node k) e) (queried c a b d refl)
  seen_turn m k (t_answers n c a b d e) = one_changed m n k (call_closed (at m n) c) (at (suc m) k) (ap (λ v. v.node k) e) (answers c a b d refl)

  -- the letters of a moment, and at most one more
  letters_turn : (m : ℕ) → ((world (suc m)).letters ≡ (world m).letters) ⊎ ((st : Step Q) × Happens m st × OneMore (world m) st (world (suc m)))
  letters_turn m = elim (worlds.next m) [
    | inl e ↦ inl (ap (λ w. w.letters) e)
    | inr r ↦ inr (r.0, (r.3, r.1), subst (OneMore (world m) r.0) (sym r.2) (letters_after (world m) r.0))
  ]

  old_letter : (m i : ℕ) (l : LetterState Q) → LetterFrom m i l → LetterFrom (suc m) i l
  old_letter m i l f = record { moment = f.moment; before = omega (arith, f.before); sender = f.sender; addressee = f.addressee; sent = f.sent; content = f.content }

  new_letter : (m i n to : ℕ) (x : NodeState Q) → (at m n).name ≡ n → node_at (world m) n ≡ Some x → Happens m (step.Send n to) → i ≡ length (world m).letters + 1 → LetterFrom (suc m) i (letter_for x to)
  new_letter m i n to x named h d e = record {
    moment = m;
    before = omega arith;
    sender = n;
    addressee = to;
    sent = record { number = e; happens = d; named = named; there = named_some (world m) n x h };
    content = ap (λ x. letter_for x to) (sym (is_at m n x h));
  }

  letters_next : (m i : ℕ) (l : LetterState Q) → Sound m → letter_at (world (suc m)).letters i ≡ Some l → LetterFrom (suc m) i l
  letters_next m i l f e =
      let same : (world (suc m)).letters ≡ (world m).letters → LetterFrom (suc m) i l = λ q. old_letter m i l (f.letters i l (ap (λ ls. letter_at ls i) (sym q) ∙ e)) in
      elim (letters_turn m) [
        | inl q ↦ same q
        | inr r ↦ elim r.2 [
          | inl q ↦ same q
          | inr d ↦ elim (letter_more (world m).letters (letter_for d.2 d.1) l i (ap (λ ls. letter_at ls i) (sym d.5) ∙ e)) [
            | inl o ↦ old_letter m i l (f.letters i l o)
            | inr n ↦ subst (LetterFrom (suc m) i) n.1 (new_letter m i d.0 d.1 d.2 (f.names d.0) d.3 (subst (Happens m) d.4 r.1) n.0)
          ]
        ]
      ]

  no_letter : (i : ℕ) (l : LetterState Q) → letter_at (first_world s founders).letters i ≡ Some l → ⊥
  unfolding first_world
  no_letter zero l e = none-some l e
  no_letter (suc i) l e = none-some l e

  sound_first : Sound 0
  unfolding first_world first_node
  sound_first = record {
    letters = λ i l e. absurd (no_letter i l (ap (λ w. letter_at w.letters i) (sym worlds.first) ∙ e));
    names = λ n. ap (λ w. (seen_at s founders w n).name) worlds.first ∙ ap (λ x. x.name) (first_seen s founders n);
    numbered = λ n. subst (λ w. Numbered (seen_at s founders w n)) (sym worlds.first) (subst Numbered (sym (first_seen s founders n)) (numbered_first s founders n));
  }

  sound_next : (m : ℕ) → Sound m → Sound (suc m)
  sound_next m f = record {
    letters = λ i l e. letters_next m i l f e;
    names = λ n. name_turn s at m n (at m n) (at (suc m) n) (seen_turn m n (step_seen s founders world worlds m f)) ∙ f.names n;
    numbered = λ n. numbered_turn s at m n (at m n) (at (suc m) n) (f.numbered n) (seen_turn m n (step_seen s founders world worlds m f));
  }

  pub sound : (m : ℕ) → Sound m
  sound zero = sound_first
  sound (suc m) = sound_next m (sound m)

  -- each step is a turn of the seen world
  pub steps : (m : ℕ) → WorldTurn s Came at m (view m) (view (suc m))
  steps m = step_seen s founders world worlds m (sound m)

  pub run_of : Run s Came founders at
  run_of = record {
    first = λ n. ap (λ w. seen_at s founders w n) worlds.first ∙ first_seen s founders n;
    turn = λ m n. seen_turn m n (steps m);
  }
