-- What one change does to a key and its stamp
use Rattle.std.proofs.Common.{◌≡◌, ◌≢◌, ◌⊎◌, ℕ, true, false, cond, if◌then◌else◌, List, Option, Some, None, refl, sym, ap, ◌∙◌, subst, inl, inr, arith}
use Rattle.std.specs.FinMap as map
use Rattle.std.specs.FinMap.{get-insert}
use Rattle.std.proofs.lemmas.Cmp.{nat_list_cmp_total}
use Rattle.rambo_tag.specs.declared.version.Version.{Version}
use Rattle.rambo_tag.specs.Tags.{is_newer, greater}
use Rattle.rambo_tag.proofs.CopyOrder.{is_newer-from_lt}
use Rattle.rambo_tag.proofs.Joins.{get-joined, get-put}
use Rattle.rambo_tag.proofs.Keys.{same_key, same_key-true}
use Rattle.rambo_history.specs.declared.event.CallId.{CallId}
use Rattle.rambo_history.specs.declared.operation.Op.{Op}
use Rattle.rambo_history.specs.declared.operation.Op.TheVariants as op
use Rattle.rambo_calls.specs.declared.stage.Stage.{Stage}
use Rattle.rambo_calls.specs.declared.stage.Stage.TheVariants.{Query, Propagation}
use Rattle.rambo_calls.specs.Calls.{CallState}
use Rattle.rambo_gossip.specs.Kinds.{Kind}
use Rattle.rambo_gossip.specs.Kinds as kind
use Rattle.rambo_node.specs.Acts.{Act}
use Rattle.rambo_node.specs.Changes.{quieted, made_by, advanced, stage_met}
use Rattle.rambo_node.specs.Hearing.{heard_gossip, heard_join, heard_kind}
use Rattle.rambo_node.specs.Nodes.{NodeState, open_call}
use Rattle.rambo_node.specs.Operations.{called, new_copy, query_answered, call_closed}
use Rattle.rambo_run.proofs.Lists.{pick}
use Rattle.rambo_run.proofs.QuietKeeps.{quiet_keeps}
use Rattle.rambo_tag.specs.Stamps.{Stamps, stamps_merged}
use Rattle.rambo_node.specs.FullNodes.{stamp_put, stamps_heard, stamps_after}
use Rattle.rambo_node.specs.Acts as act
use Rattle.rambo_tag.proofs.StampLaws.{get-merged, changed_at, same_at, stamp_after, newer_differs}

-- ---- what one change does to a key
abbrev pub Effect : ℕ → Option Version → Option Version → Option ℕ → Option ℕ → Type 0
Effect now old new s t = ((new ≡ old) × (t ≡ s)) ⊎ ((new ≢ old) × (t ≡ Some now))

merged_effect : (now : ℕ) (o : Option Version) (s : Option ℕ) (c : Option Version) → Effect now o (greater o c) s (stamp_after now o s c)
merged_effect now o s None = inl (refl, refl)
merged_effect now o s (Some v) = elim (pick (is_newer o v) (Some v) o) [
  | inl p ↦ (
      let d : greater o (Some v) ≢ o = λ e. newer_differs o v p.0 (sym e ∙ p.1) in
      inr (d, changed_at now o s (Some v) d)
      )
  | inr p ↦ inl (p.1, same_at now o s (Some v) p.1)
]

abbrev pub Touches : {Q : Type 0} → NodeState Q → Stamps → NodeState Q → Stamps → List ℕ → Type 0
Touches x s y t key = Effect x.number (map.get x.registers key) (map.get y.registers key) (map.get s key) (map.get t key)

untouched : {Q : Type 0} (x y : NodeState Q) (s t : Stamps) (key : List ℕ) → y.registers ≡ x.registers → t ≡ s → Touches x s y t key
untouched x y s t key e f = inl (ap (λ r. map.get r key) e, ap (λ s. map.get s key) f)

hearing : {Q : Type 0} (x : NodeState Q) (s : Stamps) (j : ℕ) (k : Kind Q) (key : List ℕ) → Touches x s (heard_kind x j k) (stamps_heard x s k) key
unfolding heard_gossip heard_join
hearing x s j kind.Join key = inl (refl, refl)
hearing x s j (kind.Gossip g) key =
    let P : Option Version → Option ℕ → Type 0 = λ new t. Effect x.number (map.get x.registers key) new (map.get s key) t in
    subst (λ new. P new (map.get (stamps_merged x.number x.registers s g.copies) key)) (sym (get-joined x.registers g.copies key))
    (subst (P (greater (map.get x.registers key) (map.get g.copies key))) (sym (get-merged x.number x.registers s g.copies key))
    (merged_effect x.number (map.get x.registers key) (map.get s key) (map.get g.copies key)))

newer_copy : {Q : Type 0} (x : NodeState Q) (key value : List ℕ) → is_newer (map.get x.registers key) (new_copy x key value) ≡ true
newer_copy x key value = is_newer-from_lt (map.get x.registers key) (new_copy x key value) (inl (omega arith))

putting : {Q : Type 0} (x : NodeState Q) (s : Stamps) (k value key : List ℕ)
    → Effect x.number (map.get x.registers key) (map.get (map.insert x.registers k (new_copy x k value)) key) (map.get s key) (map.get (map.insert s k x.number) key)
putting x s k value key =
    let P : Option Version → Option ℕ → Type 0 = λ new t. Effect x.number (map.get x.registers key) new (map.get s key) t in
    subst (λ new. P new (map.get (map.insert s k x.number) key)) (sym (get-put x.registers k (new_copy x k value) key))
    (subst (P (cond (same_key key k) (Some (new_copy x k value)) (map.get x.registers key))) (sym (get-insert nat_list_cmp_total s k x.number key))
    (elim (same_key key k) as (λ c. same_key key k ≡ c → P (cond c (Some (new_copy x k value)) (map.get x.registers key)) (cond c (Some x.number) (map.get s key))) [
      | true ↦ λ tie. inr ((λ e. newer_differs (map.get x.registers k) (new_copy x k value) (newer_copy x k value) (sym (e ∙ ap (map.get x.registers) (same_key-true key k tie)))), refl)
      | false ↦ λ _. inl (refl, refl)
    ] refl))

querying : {Q : Type 0} (x : NodeState Q) (s : Stamps) (id : CallId) (c : CallState Q) (o : Op) (key : List ℕ) → c.op ≡ o → Touches x s (stage_met x id c Query).node (stamp_put x.number s (stage_met x id c Query).deed.copy) key
unfolding query_answered
querying x s id c (op.Get k) key e =
    let P : Op → Type 0 = λ o. Touches x s (stage_met x id (record c { op = o }) Query).node (stamp_put x.number s (stage_met x id (record c { op = o }) Query).deed.copy) key in
    subst P (sym e) (inl (refl, refl))
querying x s id c (op.Set k value) key e =
    let P : Op → Type 0 = λ o. Touches x s (stage_met x id (record c { op = o }) Query).node (stamp_put x.number s (stage_met x id (record c { op = o }) Query).deed.copy) key in
    subst P (sym e) (putting x s k value key)

meeting : {Q : Type 0} (x : NodeState Q) (s : Stamps) (id : CallId) (c : CallState Q) (stage : Stage) (key : List ℕ) → Touches x s (stage_met x id c stage).node (stamp_put x.number s (stage_met x id c stage).deed.copy) key
unfolding call_closed
meeting x s id c Query key = querying x s id c c.op key refl
meeting x s id c (Propagation kept) key = inl (refl, refl)

advancing : {Q : Type 0} (x : NodeState Q) (s : Stamps) (id : CallId) (o : Option (CallState Q)) (key : List ℕ) → Touches x s (advanced x id o).node (stamp_put x.number s (advanced x id o).deed.copy) key
advancing x s id None key = inl (refl, refl)
advancing x s id (Some c) key = meeting x s id c c.stage key

pub touches : {Q : Type 0} (x : NodeState Q) (s : Stamps) (a : Act Q) (key : List ℕ) → Touches x s (made_by x a).node (stamps_after x s a) key
unfolding made_by called
touches x s (act.Hear l) key = hearing x s l.sender l.kind key
touches x s (act.Advance id) key = advancing x s id (open_call x id) key
touches x s (act.Quietly q) key = untouched x (quieted x q).node s s key (quiet_keeps x q).registers refl
touches x s a key = untouched x (made_by x a).node s s key refl refl
