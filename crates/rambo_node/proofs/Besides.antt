-- What a node keeps beside, after each kind of act
use Rattle.std.proofs.Common.{◌≡◌, ℕ, ◌-◌, max, List, Option, None, Some, slice_set, refl, sym, ap, ◌∙◌, arith}
use Rattle.std.specs.FinMap as map
use Rattle.std.proofs.lemmas.List.{set-get_or}
use Rattle.std.proofs.lemmas.Option.{none-some}
use Rattle.rambo_tag.specs.Copies.{Copies}
use Rattle.rambo_tag.specs.Stamps.{AreStampedAlike}
use Rattle.rambo_tag.specs.declared.keyed_version.KeyedVersion.{KeyedVersion}
use Rattle.rambo_history.specs.declared.event.CallId.{CallId}
use Rattle.rambo_history.specs.declared.operation.Op.{Op}
use Rattle.rambo_gossip.specs.Kinds.{Kind}
use Rattle.rambo_gossip.specs.Kinds as kind
use Rattle.rambo_gossip.specs.Letters.{kind_with}
use Rattle.rambo_gossip.specs.Short.{copies_in}
use Rattle.rambo_calls.specs.Calls.{CallState, query_in, asked_in}
use Rattle.rambo_calls.specs.declared.stage.Stage.{Stage}
use Rattle.rambo_calls.specs.declared.stage.Stage.TheVariants.{Query, Propagation}
use Rattle.rambo_node.specs.Acts.{Act}
use Rattle.rambo_node.specs.Changes.{made_by, advanced, stage_met}
use Rattle.rambo_node.specs.FullNodes.{beside_after, beside_heard, full, full_after, stamp_put}
use Rattle.rambo_node.specs.Nodes.{NodeState, Beside, RoomyNode, heard_from, raised, open_call}
use Rattle.rambo_node.specs.Prepared.{put_by}
use Rattle.rambo_node.proofs.Advances.{query_moves}
use Rattle.rambo_node.specs.Acts as act

-- the number 0 raises nothing
pub raised_zero : (b : List ℕ) (j : ℕ) → raised b j 0 ≡ b
raised_zero b j = ap (slice_set b (j - 1)) (most (heard_from b j)) ∙ set-get_or b (j - 1) 0
  where
    most : (n : ℕ) → max n 0 ≡ n
    most n = omega (arith)

-- nor does the wish to join, which carries none
pub join_beside : {Q : Type 0} (x : NodeState Q) (b : Beside) (j : ℕ) → beside_heard x b j kind.Join ≡ b
join_beside x b j = λ i. record { stamps = b.stamps; bases = raised_zero b.bases j i }

-- copies that are stamped alike
pub alike_beside : {Q : Type 0} (x : NodeState Q) (b : Beside) (j : ℕ) (k : Kind Q) (other : Copies) → AreStampedAlike x.registers other (copies_in k)
    → beside_heard x b j (kind_with (kind_with k map.empty) other) ≡ beside_heard x b j k
alike_beside x b j kind.Join other alike = refl
alike_beside x b j (kind.Gossip g) other alike = λ i. record { stamps = alike x.number b.stamps i; bases = raised b.bases j g.heard }

-- a met query stamps what it puts
pub query_beside : {Q : Type 0} (x : NodeState Q) (b : Beside) (id : CallId) (o : Op) (put : Option KeyedVersion) → query_in (open_call x id) ≡ Some o → put ≡ put_by x (Some o)
    → record b { stamps = stamp_put x.number b.stamps put } ≡ beside_after x b (act.Advance id)
query_beside x b id o put asked is = ap (λ c. record b { stamps = stamp_put x.number b.stamps c }) (is ∙ ap (λ d. d.copy) (query_moves x id o asked).1)

-- and a met propagation puts nothing
pub answer_beside : {Q : Type 0} (x : NodeState Q) (b : Beside) (id : CallId) → query_in (open_call x id) ≡ None → beside_after x b (act.Advance id) ≡ b
answer_beside x b id told = ap (λ c. record b { stamps = stamp_put x.number b.stamps c }) (nothing x id (open_call x id) told)
  where
    of_stage : {Q : Type 0} (x : NodeState Q) (id : CallId) (c : CallState Q) (s : Stage) → asked_in c.op s ≡ None → (stage_met x id c s).deed.copy ≡ None
    of_stage x id c Query e = absurd (none-some c.op (sym e))
    of_stage x id c (Propagation kept) e = refl

    nothing : {Q : Type 0} (x : NodeState Q) (id : CallId) (o : Option (CallState Q)) → query_in o ≡ None → (advanced x id o).deed.copy ≡ None
    nothing x id None e = refl
    nothing x id (Some c) e = of_stage x id c c.stage e

-- a node and what it keeps beside, after an act
pub full_after_is : {Q : Type 0} (v w : RoomyNode Q) (c : Act Q) → w.state ≡ (made_by v.state c).node → w.beside ≡ beside_after v.state v.beside c → full w ≡ full_after (full v) c
unfolding full_after
full_after_is v w c state beside = λ i. record { state = state i; stamps = (beside i).stamps; bases = (beside i).bases }
