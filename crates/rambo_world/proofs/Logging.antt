-- The logs of nodes: what a change puts into a log, and what stays of logs, letters and counts as logs grow
use Rattle.std.proofs.Common.{◌≡◌, ℕ, ◌+◌, ◌<◌, true, List, ◌++◌, Option, Some, None, refl, sym, ap, ◌∙◌, inl, arith, append-nil}
use Rattle.std.specs.Prelude.{if◌then◌else◌}
use Rattle.std.specs.FinMap.{get, insert}
use Rattle.rambo_tag.specs.declared.version.Version.{Version}
use Rattle.rambo_tag.specs.declared.keyed_version.KeyedVersion.{KeyedVersion}
use Rattle.rambo_tag.specs.Tags.{is_newer, tag_of}
use Rattle.rambo_tag.specs.Copies.{Copies, with_newer, joined}
use Rattle.rambo_tag.specs.Logs.{greatest_after, greatest_of}
use Rattle.rambo_tag.proofs.CopyOrder.{is_newer-from_lt}
use Rattle.rambo_tag.proofs.Joins.{joined-empty}
use Rattle.rambo_tag.proofs.Logged.{greatest_after-append, greatest_of-append, joined-greatest_of}
use Rattle.rambo_history.specs.declared.event.CallId.{CallId}
use Rattle.rambo_history.specs.declared.operation.Op.{Op}
use Rattle.rambo_history.specs.declared.operation.Op.TheVariants as op
use Rattle.rambo_gossip.specs.Letters.{LetterState}
use Rattle.rambo_gossip.specs.Kinds.{Kind}
use Rattle.rambo_gossip.specs.Kinds as kind
use Rattle.rambo_node.specs.Acts.{Act}
use Rattle.rambo_calls.specs.declared.stage.Stage.{Stage}
use Rattle.rambo_calls.specs.declared.stage.Stage.TheVariants.{Query, Propagation}
use Rattle.rambo_calls.specs.Calls.{CallState}
use Rattle.rambo_node.specs.Nodes.{NodeState, open_call}
use Rattle.rambo_node.specs.Hearing.{heard_kind, heard_join, heard_gossip}
use Rattle.rambo_node.specs.Operations.{called, query_answered, call_closed, with_copy, taken, new_copy}
use Rattle.rambo_node.specs.Changes.{made_by, stage_met, advanced, copy_put}
use Rattle.rambo_node.specs.Acts as act
use Rattle.rambo_run.proofs.QuietKeeps.{quiet_keeps}
use Rattle.rambo_world.specs.Logging.{copies_in, copies_brought, listed}

-- the copy that a set makes is newer than the present one
newer_tag : (held : Option Version) (name : ℕ) (value : Option (List ℕ)) → is_newer held (record { tag = record { sequence = (tag_of held).sequence + 1; name = name }; value = value }) ≡ true
newer_tag held name value = let more : (tag_of held).sequence < (tag_of held).sequence + 1 = omega arith in is_newer-from_lt held _ (inl more)

put_newer : (r : Copies) (key : List ℕ) (v : Version) → is_newer (get r key) v ≡ true → insert r key v ≡ with_newer r key v
put_newer r key v newer = ap (λ t. if t then insert r key v else r) (sym newer)

module _ {Q : Type 0} (x : NodeState Q) where
  copy_logged : (o : Op) → with_copy x.registers o (taken x o) ≡ greatest_after x.registers (listed (copy_put o (taken x o)))
  copy_logged (op.Get key) = refl
  copy_logged (op.Set key value) = put_newer x.registers key (new_copy x key value) (newer_tag (get x.registers key) x.name (Some value))

  stage_name : (id : CallId) (c : CallState Q) (stage : Stage) → (stage_met x id c stage).node.name ≡ x.name
  unfolding query_answered call_closed
  stage_name id c Query = refl
  stage_name id c (Propagation kept) = refl

  stage_logged : (id : CallId) (c : CallState Q) (stage : Stage) → (stage_met x id c stage).node.registers ≡ greatest_after x.registers (listed (stage_met x id c stage).deed.copy)
  unfolding query_answered call_closed
  stage_logged id c Query = copy_logged c.op
  stage_logged id c (Propagation kept) = refl

  advanced_name : (id : CallId) (c : Option (CallState Q)) → (advanced x id c).node.name ≡ x.name
  advanced_name id None = refl
  advanced_name id (Some c) = stage_name id c c.stage

  advanced_logged : (id : CallId) (c : Option (CallState Q)) → (advanced x id c).node.registers ≡ greatest_after x.registers (listed (advanced x id c).deed.copy)
  advanced_logged id None = refl
  advanced_logged id (Some c) = stage_logged id c c.stage

  heard_name : (j : ℕ) (k : Kind Q) → (heard_kind x j k).name ≡ x.name
  unfolding heard_join heard_gossip
  heard_name j kind.Join = refl
  heard_name j (kind.Gossip g) = refl

  heard_joined : (j : ℕ) (k : Kind Q) → (heard_kind x j k).registers ≡ joined x.registers (copies_in k)
  unfolding heard_join heard_gossip
  heard_joined j kind.Join = sym (joined-empty x.registers)
  heard_joined j (kind.Gossip g) = refl

  -- a node keeps its name
  pub made_name : (c : Act Q) → (made_by x c).node.name ≡ x.name
  unfolding made_by called
  made_name (act.Hear l) = heard_name l.sender l.kind
  made_name (act.Advance id) = advanced_name id (open_call x id)
  made_name (act.Quietly q) = (quiet_keeps x q).name
  made_name _ = refl

  -- it takes on the copies that are brought to it, and the one that it puts
  pub made_registers : (c : Act Q) → (made_by x c).node.registers ≡ greatest_after (joined x.registers (copies_brought c)) (listed (made_by x c).deed.copy)
  unfolding made_by called
  made_registers (act.Hear l) = heard_joined l.sender l.kind
  made_registers (act.Advance id) =
      advanced_logged id (open_call x id) ∙ ap (λ r. greatest_after r (listed (advanced x id (open_call x id)).deed.copy)) (sym (joined-empty x.registers))
  made_registers (act.Quietly q) = (quiet_keeps x q).registers ∙ sym (joined-empty x.registers)
  made_registers _ = sym (joined-empty x.registers)

greatest_of-more : (log more : List KeyedVersion) → greatest_of (log ++ more) ≡ greatest_after (greatest_of log) more
greatest_of-more log more = greatest_of-append log more ∙ joined-greatest_of (greatest_of log) more

-- what is logged with a change: what it brings that was lacking, and the copy that was put
pub made_recorded : {Q : Type 0} (x : NodeState Q) (log more : List KeyedVersion) (c : Act Q)
    → x.registers ≡ greatest_of log → joined x.registers (greatest_of more) ≡ joined x.registers (copies_brought c)
    → (made_by x c).node.registers ≡ greatest_of (log ++ (more ++ listed (made_by x c).deed.copy))
made_recorded x log more c recorded brought =
    let own = listed (made_by x c).deed.copy in
    made_registers x c
    ∙ ap (λ r. greatest_after r own) (sym brought ∙ joined-greatest_of x.registers more)
    ∙ sym (greatest_after-append x.registers more own)
    ∙ ap (λ r. greatest_after r (more ++ own)) recorded
    ∙ sym (greatest_of-more log (more ++ own))

-- what is logged with a letter
pub heard_recorded : {Q : Type 0} (x : NodeState Q) (log more : List KeyedVersion) (l : LetterState Q)
    → x.registers ≡ greatest_of log → joined x.registers (greatest_of more) ≡ joined x.registers (copies_in l.kind)
    → (made_by x (act.Hear l)).node.registers ≡ greatest_of (log ++ more)
unfolding made_by
heard_recorded x log more l recorded brought = made_recorded x log more (act.Hear l) recorded brought ∙ ap (λ m. greatest_of (log ++ m)) (append-nil more)
