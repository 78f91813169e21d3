-- The numbers of a node's open calls
use Rattle.std.proofs.Common.{ℕ, zero, suc, ◌≤◌, refl, sym, ap, subst, ⊎_elim, arith}
use Rattle.rambo_names.specs.Quorums.{QuorumSystem}
use Rattle.rambo_calls.specs.Calls.{CallState}
use Rattle.rambo_node.specs.Nodes.{NodeState, first_node}
use Rattle.rambo_node.specs.Letters.{gossip_for}
use Rattle.rambo_calls.specs.Hearing.{heard_call}
use Rattle.rambo_node.specs.Hearing.{number_after, heard_gossip}
use Rattle.rambo_node.specs.Operations.{called, query_answered, call_closed, called_again}
use Rattle.rambo_run.proofs.Lists.{Member, Single, member_more, member_map, member_put, member_out, single_put, single_out, single_map, single_more}
use Rattle.rambo_run.proofs.Turn.{Moments, Telling, Turn, stays, knows, calls, hears, queried, answers, agains, alters, Run}
use Rattle.rambo_run.proofs.Altering.{altered_rest}

-- no two open calls of a node have one number, nor one that is still to come
pub record Numbered {Q : Type 0} (x : NodeState Q) : Type 0 where
  pub single : Single x.calls
  pub low : (c : CallState Q) → Member c x.calls → c.number ≤ x.made

pub numbered_turn : {Q : Type 0} {T : Telling} (s : QuorumSystem Q) (at : Moments Q) (m n : ℕ) (x y : NodeState Q) → Numbered x → Turn s T at m n x y → Numbered y
unfolding called query_answered call_closed called_again heard_gossip
numbered_turn s at m n x y o (stays e) = subst Numbered (sym e) o
numbered_turn s at m n x y o (knows st known e) = subst Numbered (sym e) (record { single = o.single; low = o.low })
numbered_turn s at m n x y o (calls op e) = subst Numbered (sym e) (record {
  single = single_more _ x.calls o.single (λ d i q. omega (arith, o.low d i, q));
  low = λ c i. ⊎_elim (λ k. omega (arith, o.low c k)) (λ k. omega (arith, ap (λ c. c.number) k)) (member_more c _ x.calls i);
})
numbered_turn s at m n x y o (hears u j h b k t e) =
    let g = gossip_for (at u j) n in
    let f = heard_call g.heard j g.map (number_after x g) (heard_gossip x j g).map x.name in
    subst Numbered (sym e) (record {
      single = single_map f (λ c. refl) x.calls o.single;
      low = λ c i. let r = member_map f c x.calls i in omega (arith, o.low r.0 r.1, ap (λ c. c.number) r.2);
    })
numbered_turn s at m n x y o (queried c i p h e) = subst Numbered (sym e) (record {
  single = single_put c.number _ x.calls refl o.single;
  low = λ d k. ⊎_elim (λ r. o.low d r.0) (λ r. omega (arith, o.low c i, ap (λ c. c.number) r)) (member_put c.number _ d x.calls o.single k);
})
numbered_turn s at m n x y o (answers c i p h e) = subst Numbered (sym e) (record {
  single = single_out c.number x.calls o.single;
  low = λ d k. o.low d (member_out c.number d x.calls o.single k).0;
})
numbered_turn s at m n x y o (agains c i e) = subst Numbered (sym e) (record {
  single = single_put c.number _ x.calls refl o.single;
  low = λ d k. ⊎_elim (λ r. o.low d r.0) (λ r. omega (arith, o.low c i, ap (λ c. c.number) r)) (member_put c.number _ d x.calls o.single k);
})
numbered_turn s at m n x y o (alters a) =
    let k = altered_rest s x y a in
    record { single = subst Single (sym k.calls) o.single; low = λ c i. omega (arith, o.low c (subst (Member c) k.calls i), k.made) }

pub numbered_first : {Q : Type 0} (s : QuorumSystem Q) (founders : Q) (n : ℕ) → Numbered (first_node s founders n)
unfolding first_node
numbered_first s founders n = record { single = tt; low = λ c i. absurd i }

pub numbered_at : {Q : Type 0} {T : Telling} (s : QuorumSystem Q) (founders : Q) (at : Moments Q) → Run s T founders at → (m n : ℕ) → Numbered (at m n)
numbered_at s founders at run zero n = subst Numbered (sym (run.first n)) (numbered_first s founders n)
numbered_at s founders at run (suc m) n = numbered_turn s at m n (at m n) (at (suc m) n) (numbered_at s founders at run m n) (run.turn m n)
