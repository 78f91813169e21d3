-- An act of one node: why it is refused, and what it makes of the node and of the rest. Each step of a world is one
use Rattle.std.specs.Prelude.{ℕ, ◌+◌, nat_lt, if◌then◌else◌, List, [], ◌∷◌, Option, None, Some}
use Rattle.rambo_names.specs.declared.refusal.Refusal.{Refusal}
use Rattle.rambo_names.specs.Quorums.{QuorumSystem}
use Rattle.rambo_names.specs.Refusals.{Cause, least}
use Rattle.rambo_tag.specs.declared.keyed_version.KeyedVersion.{KeyedVersion}
use Rattle.rambo_tag.specs.declared.version.Version.{Version}
use Rattle.rambo_history.specs.declared.event.CallId.{CallId}
use Rattle.rambo_history.specs.declared.event.Event.TheVariants as event
use Rattle.rambo_history.specs.declared.operation.Answer.{Answer}
use Rattle.rambo_history.specs.declared.operation.Op.{Op}
use Rattle.rambo_history.specs.declared.operation.Op.TheVariants as op
use Rattle.rambo_config_map.specs.Maps.{active_at, end_of}
use Rattle.rambo_gc.specs.declared.gc_move.GcMove.{GcMove}
use Rattle.rambo_gc.specs.declared.gc_move.GcMove.TheVariants.{Propagating, Done}
use Rattle.rambo_gc.specs.Collections.{CollectionState}
use Rattle.rambo_gossip.specs.Letters.{LetterState}
use Rattle.rambo_paxos.specs.declared.bid.Bid.{Bid}
use Rattle.rambo_paxos.specs.declared.bid.Bid.TheVariants as bid
use Rattle.rambo_paxos.specs.Attempts.{AttemptState, bid_of}
use Rattle.rambo_sequence.specs.declared.mark.Mark.{Mark}
use Rattle.rambo_node.specs.Acts.{Act}
use Rattle.rambo_node.specs.Acts as act
use Rattle.rambo_node.specs.declared.prepared.Quiet.{Quiet}
use Rattle.rambo_node.specs.declared.prepared.Quiet.TheVariants as quiet
use Rattle.rambo_node.specs.declared.decided.Decided.{Decided}
use Rattle.rambo_node.specs.declared.deed.Deed.{Deed}
use Rattle.rambo_node.specs.declared.effect.Effect.{Effect}
use Rattle.rambo_node.specs.declared.effect.Effect.TheVariants as effect
use Rattle.rambo_calls.specs.declared.stage.Stage.{Stage}
use Rattle.rambo_calls.specs.declared.stage.Stage.TheVariants.{Query, Propagation}
use Rattle.rambo_calls.specs.Calls.{CallState}
use Rattle.rambo_node.specs.Nodes.{NodeState, open_call}
use Rattle.rambo_node.specs.Letters.{letter_for}
use Rattle.rambo_node.specs.Hearing.{heard_letter}
use Rattle.rambo_node.specs.Operations.{called, taken, query_answered, call_closed, answer_of, called_again, joined_by, stopped}
use Rattle.rambo_node.specs.Reconfigurations.{attempt_opened, attempt_rebid, attempt_moved, config_learnt, attempt_ended, collection_opened, collection_move, collection_moved, collection_ended}
use Rattle.rambo_node.specs.Refusals.{join_causes, call_causes, send_causes, hear_causes, advance_causes, again_causes, stop_causes, collect_causes, advance_collect_causes, recon_causes, rebid_causes, advance_recon_causes}

-- the causes of refusal of a quiet act, in ascending order of number
abbrev pub quiet_causes : {Q : Type 0} → QuorumSystem Q → NodeState Q → Quiet Q → List Cause
quiet_causes s x (quiet.Join contacts) = join_causes x contacts
quiet_causes s x (quiet.Again id) = again_causes x id
quiet_causes s x quiet.Collect = collect_causes x
quiet_causes s x quiet.AdvanceCollect = advance_collect_causes s x
quiet_causes s x (quiet.Recon wish) = recon_causes s x wish
quiet_causes s x quiet.Rebid = rebid_causes x
quiet_causes s x quiet.AdvanceRecon = advance_recon_causes s x
quiet_causes s x quiet.Stop = stop_causes x

-- those of an act
abbrev pub causes : {Q : Type 0} → QuorumSystem Q → NodeState Q → Act Q → List Cause
causes s x (act.Call o) = call_causes x o
causes s x (act.Send to) = send_causes x to
causes s x (act.Hear l) = hear_causes x l.kind
causes s x (act.Advance id) = advance_causes s x id
causes s x (act.Quietly q) = quiet_causes s x q

-- the least refusal whose cause holds
abbrev pub refusal_of : {Q : Type 0} → QuorumSystem Q → NodeState Q → Act Q → Option Refusal
refusal_of s x a = least (causes s x a)

-- a node after an act, what the act did, and the letter that was sent
pub record Made (Q : Type 0) : Type 0 where
  pub node : NodeState Q
  pub deed : Deed Q
  pub letter : Option (LetterState Q)

-- the deed of an act that has this effect and nothing else
abbrev pub told : {Q : Type 0} → Effect Q → Deed Q
told e = record { effect = e; event = None; mark = None; copy = None }

abbrev pub quiet_deed : {Q : Type 0} → Deed Q
quiet_deed = told effect.Done

-- the node changes, and nothing is told
abbrev pub alone : {Q : Type 0} → NodeState Q → Made Q
alone x = record { node = x; deed = quiet_deed; letter = None }

-- a call goes into the history
abbrev pub call_made : {Q : Type 0} → NodeState Q → CallId → Op → Made Q
call_made x id o = record { node = called x o; deed = record { effect = effect.Called id; event = Some (event.Call id o); mark = None; copy = None }; letter = None }

-- a set is marked when it takes its tag
abbrev pub set_mark : CallId → Op → Option Version → Option Mark
set_mark id (op.Get key) kept = None
set_mark id (op.Set key value) kept = Some (record { id = id; op = op.Set key value; kept = kept })

-- and a get when it is answered
abbrev pub get_mark : CallId → Op → Option Version → Option Mark
get_mark id (op.Set key value) kept = None
get_mark id (op.Get key) kept = Some (record { id = id; op = op.Get key; kept = kept })

-- the copy that a set puts
abbrev pub copy_put : Op → Option Version → Option KeyedVersion
copy_put (op.Get key) kept = None
copy_put (op.Set key value) None = None
copy_put (op.Set key value) (Some v) = Some (record { key = key; version = v })

-- a met phase: of a query the propagation begins, and of a propagation the answer goes into the history
abbrev pub stage_met : {Q : Type 0} → NodeState Q → CallId → CallState Q → Stage → Made Q
stage_met x id c Query = record {
  node = query_answered x c;
  deed = record { effect = effect.Moved; event = None; mark = set_mark id c.op (taken x c.op); copy = copy_put c.op (taken x c.op) };
  letter = None;
}
stage_met x id c (Propagation kept) = record {
  node = call_closed x c;
  deed = record { effect = effect.Answered id (answer_of c.op kept); event = Some (event.Answer id (answer_of c.op kept)); mark = get_mark id c.op kept; copy = None };
  letter = None;
}

abbrev pub advanced : {Q : Type 0} → NodeState Q → CallId → Option (CallState Q) → Made Q
advanced x id None = alone x
advanced x id (Some c) = stage_met x id c c.stage

-- the answer that a call got
abbrev pub answer_in : {Q : Type 0} → Effect Q → Option Answer
answer_in (effect.Answered id answer) = Some answer
answer_in _ = None

-- the place whose collection ended
abbrev pub collected_in : {Q : Type 0} → Effect Q → Option ℕ
collected_in (effect.Collected n place) = Some place
collected_in _ = None

-- what an attempt that ended came to
abbrev pub decided_in : {Q : Type 0} → Effect Q → Option (Decided Q)
decided_in (effect.Decided n d) = Some d
decided_in _ = None

-- a node after a quiet act, and what is reported: nothing goes to the history, the marks, the letters or the registers' logs
pub record Quieted (Q : Type 0) : Type 0 where
  pub node : NodeState Q
  pub effect : Effect Q

abbrev pub done : {Q : Type 0} → NodeState Q → Quieted Q
done x = record { node = x; effect = effect.Done }

abbrev pub begun_again : {Q : Type 0} → NodeState Q → Option (CallState Q) → Quieted Q
begun_again x None = done x
begun_again x (Some c) = done (called_again x c)

-- an advance of a collection: its first quorum leads to a second question, and then the place is removed
abbrev pub collection_turned : {Q : Type 0} → NodeState Q → CollectionState → GcMove → Quieted Q
collection_turned x g Propagating = record { node = collection_moved x g; effect = effect.Moved }
collection_turned x g Done = record { node = collection_ended x g; effect = effect.Collected x.name g.place }

abbrev pub collection_advanced : {Q : Type 0} → NodeState Q → Option CollectionState → Quieted Q
collection_advanced x None = done x
collection_advanced x (Some g) = collection_turned x g (collection_move x.map g)

abbrev pub rebid_made : {Q : Type 0} → NodeState Q → Option (AttemptState Q) → Quieted Q
rebid_made x None = done x
rebid_made x (Some a) = done (attempt_rebid x a)

-- an attempt ended for its place: what is there now is reported
abbrev pub decided : {Q : Type 0} → NodeState Q → AttemptState Q → Option Q → Effect Q
decided x a c = effect.Decided x.name (record { place = a.place; config = c })

-- an advance of an attempt: promises lead to a proposal, and acceptances to a chosen configuration
abbrev pub bid_made : {Q : Type 0} → NodeState Q → AttemptState Q → Bid Q → Quieted Q
bid_made x a bid.Propose = record { node = attempt_moved x a; effect = effect.Moved }
bid_made x a (bid.Chosen c) = record { node = config_learnt x a c; effect = decided x a (Some c) }

-- where its place has become known by another's letter, it ends
abbrev pub attempt_advanced : {Q : Type 0} → NodeState Q → Option (AttemptState Q) → Quieted Q
attempt_advanced x None = done x
attempt_advanced x (Some a) =
    if nat_lt a.place (end_of x.map)
    then record { node = attempt_ended x; effect = decided x a (active_at x.map a.place) }
    else bid_made x a (bid_of a)

-- what a quiet act makes that isn't refused
abbrev pub quieted : {Q : Type 0} → NodeState Q → Quiet Q → Quieted Q
quieted x (quiet.Join contacts) = done (joined_by x contacts)
quieted x (quiet.Again id) = begun_again x (open_call x id)
quieted x quiet.Collect = done (collection_opened x)
quieted x quiet.AdvanceCollect = collection_advanced x x.collection
quieted x (quiet.Recon wish) = done (attempt_opened x wish)
quieted x quiet.Rebid = rebid_made x x.attempt
quieted x quiet.AdvanceRecon = attempt_advanced x x.attempt
quieted x quiet.Stop = done (stopped x)

-- what an act makes that isn't refused: the sender of a letter is unchanged
unfoldable pub made_by : {Q : Type 0} → NodeState Q → Act Q → Made Q
made_by x (act.Call o) = call_made x (record { name = x.name; number = x.made + 1 }) o
made_by x (act.Send to) = record { node = x; deed = quiet_deed; letter = Some (letter_for x to) }
made_by x (act.Hear l) = alone (heard_letter x l)
made_by x (act.Advance id) = advanced x id (open_call x id)
made_by x (act.Quietly q) = record { node = (quieted x q).node; deed = told (quieted x q).effect; letter = None }

-- a node after a list of acts, none of which was refused
abbrev pub replayed : {Q : Type 0} → NodeState Q → List (Act Q) → NodeState Q
replayed x [] = x
replayed x (a ∷ later) = replayed (made_by x a).node later
