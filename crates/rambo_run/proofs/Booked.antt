-- The book of each moment of a run
use Rattle.std.proofs.Common.{◌≡◌, ℕ, zero, suc, nat_eq, [], sym, ap, ◌∙◌, subst, inl, inr, arith, eqb-true}
use Rattle.rambo_names.specs.Quorums.{QuorumSystem}
use Rattle.rambo_history.specs.Histories.{call_in, answer_in}
use Rattle.rambo_calls.specs.Calls.{CallState}
use Rattle.rambo_node.specs.Nodes.{first_node}
use Rattle.rambo_run.specs.Worlds.{WorldState, first_world}
use Rattle.rambo_run.proofs.Deeds.{id_of}
use Rattle.rambo_run.proofs.Lists.{pick, none-some, Member}
use Rattle.rambo_run.proofs.Numbers.{Numbered, numbered_at}
use Rattle.rambo_run.proofs.Seen.{same_refl, WorldTurn, t_still, t_node, t_calls, t_queries, t_answers}
use Rattle.rambo_run.proofs.Sights.{Worlds, Came, at, view}
use Rattle.rambo_run.proofs.Worlds.{steps, run_of}
use Rattle.rambo_run.proofs.Books.{Apart, Book, book_same, book_calls, book_queries, book_answers}

module _ {Q : Type 0} (s : QuorumSystem Q) (founders : Q) (world : ℕ → WorldState Q) (worlds : Worlds s founders world) where
  pub numbers : (m n : ℕ) → Numbered (at s founders world worlds m n)
  numbers m n = numbered_at s founders (at s founders world worlds) (run_of s founders world worlds) m n

  no_calls : (n : ℕ) (c : CallState Q) → Member c (at s founders world worlds 0 n).calls → ⊥
  unfolding first_node
  no_calls n c i = subst (λ x. Member c x.calls) ((run_of s founders world worlds).first n) i

  none_made : (n : ℕ) → (at s founders world worlds 0 n).made ≡ 0
  unfolding first_node
  none_made n = ap (λ x. x.made) ((run_of s founders world worlds).first n)

  book_first : Book (view s founders world worlds 0)
  unfolding first_world
  book_first =
      let h : (world 0).history ≡ [] = ap (λ w. w.history) worlds.first in
      let m : (world 0).marks ≡ [] = ap (λ w. w.marks) worlds.first in
      record {
        called = λ n c i. absurd (no_calls n c i);
        unanswered = λ n c i. absurd (no_calls n c i);
        unmarked = λ n c i. absurd (no_calls n c i);
        marked = λ n c i. absurd (no_calls n c i);
        low = λ n i o k. absurd (none-some o (ap (λ h. call_in h (id_of n i)) (sym h) ∙ k));
        mark_called = λ k i. absurd (subst (Member k) m i);
        mark_answered = λ k i. absurd (subst (Member k) m i);
        answered_mark = λ c a k. absurd (none-some a (ap (λ h. answer_in h c) (sym h) ∙ k));
        all_called = λ n i p k. absurd (omega (arith, p, k, none_made n));
        apart = subst Apart (sym m) tt;
        positive = λ n c i. absurd (no_calls n c i);
      }

  book_on : (m : ℕ) → Book (view s founders world worlds m) → WorldTurn s (Came s founders world worlds) (at s founders world worlds) m (view s founders world worlds m) (view s founders world worlds (suc m)) → Book (view s founders world worlds (suc m))
  book_on m b (t_still e) = subst Book (sym e) b
  book_on m b (t_node n y t k g e) =
      let v = view s founders world worlds m in
      let z = view s founders world worlds (suc m) in
      book_same v z b (ap (λ z. z.history) e) (ap (λ z. z.marks) e)
      (λ j. ap (λ z. (z.node j).made) e ∙ elim (pick (nat_eq j n) y (v.node j)) [ inl p ↦ ap (λ x. x.made) p.1 ∙ k.made ∙ ap (λ j. (v.node j).made) (sym (eqb-true j n p.0)) | inr p ↦ ap (λ x. x.made) p.1 ])
      (λ j d i. let h = subst (λ z. Member d (z.node j).calls) e i in elim (pick (nat_eq j n) y (v.node j)) [
        | inl p ↦ (let r = k.kept d (subst (λ x. Member d x.calls) p.1 h) in (r.0, subst (λ j. Member r.0 (v.node j).calls) (sym (eqb-true j n p.0)) r.1, r.2))
        | inr p ↦ (d, subst (λ x. Member d x.calls) p.1 h, same_refl d)
      ])
  book_on m b (t_calls n o e) = subst Book (sym e) (book_calls (view s founders world worlds m) n o b)
  book_on m b (t_queries n c i p h e) = subst Book (sym e) (book_queries (view s founders world worlds m) n c (numbers m n) i p b)
  book_on m b (t_answers n c i p h e) = subst Book (sym e) (book_answers (view s founders world worlds m) n c (numbers m n) i p b)

  pub book : (m : ℕ) → Book (view s founders world worlds m)
  book zero = book_first
  book (suc m) = book_on m (book m) (steps s founders world worlds m)
