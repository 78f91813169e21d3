-- What the calls of a node do: both gets and sets ask a quorum, then tell a quorum (Attiya, Bar-Noy and Dolev, "Sharing
-- Memory Robustly in Message-Passing Systems", JACM 1995)
use Rattle.std.specs.Prelude.{ℕ, ◌+◌, List, [], ◌∷◌, ◌++◌, Option, None, Some, slice_set, remove}
use Rattle.std.specs.FinSet as set
use Rattle.std.specs.FinMap as map
use Rattle.rambo_names.specs.Names.{NameSet}
use Rattle.rambo_tag.specs.declared.version.Version.{Version}
use Rattle.rambo_tag.specs.Tags.{tag_of, value_of}
use Rattle.rambo_tag.specs.Copies.{Copies}
use Rattle.rambo_history.specs.declared.operation.Op.{Op}
use Rattle.rambo_history.specs.declared.operation.Op.TheVariants as op
use Rattle.rambo_history.specs.declared.operation.Answer.{Answer}
use Rattle.rambo_history.specs.declared.operation.Answer.TheVariants as answer
use Rattle.rambo_history.specs.Calls.{answer_for}
use Rattle.rambo_phase.specs.Phases.{started}
use Rattle.rambo_joiner.specs.declared.status.Status.TheVariants.{Joining, Stopped}
use Rattle.rambo_calls.specs.declared.stage.Stage.TheVariants.{Query, Propagation}
use Rattle.rambo_calls.specs.Calls.{CallState, place_of}
use Rattle.rambo_calls.specs.Hearing.{restarted}
use Rattle.rambo_node.specs.Nodes.{NodeState}

-- a call raises the phase number and opens a query phase
unfoldable pub called : {Q : Type 0} → NodeState Q → Op → NodeState Q
called x o = record x {
  number = x.number + 1;
  made = x.made + 1;
  calls = x.calls ++ record { number = x.made + 1; op = o; stage = Query; phase = started (x.number + 1) x.map x.name } ∷ [];
}

-- the copy that a set makes: under the next tag of the key
abbrev pub new_copy : {Q : Type 0} → NodeState Q → List ℕ → List ℕ → Version
new_copy x key value = record { tag = record { sequence = (tag_of (map.get x.registers key)).sequence + 1; name = x.name }; value = Some value }

-- the copy that a met query keeps: a set's new one, or the present one
abbrev pub taken : {Q : Type 0} → NodeState Q → Op → Option Version
taken x (op.Get key) = map.get x.registers key
taken x (op.Set key value) = Some (new_copy x key value)

-- a set puts its new copy
abbrev pub with_copy : Copies → Op → Option Version → Copies
with_copy r (op.Get key) kept = r
with_copy r (op.Set key value) None = r
with_copy r (op.Set key value) (Some v) = map.insert r key v

-- a met query phase is answered: the number rises by one, and a propagation phase opens
unfoldable pub query_answered : {Q : Type 0} → NodeState Q → CallState Q → NodeState Q
query_answered x c = record x {
  registers = with_copy x.registers c.op (taken x c.op);
  number = x.number + 1;
  calls = slice_set x.calls (place_of c.number x.calls) (record { number = c.number; op = c.op; stage = Propagation (taken x c.op); phase = started (x.number + 1) x.map x.name });
}

-- a met propagation phase closes the call
unfoldable pub call_closed : {Q : Type 0} → NodeState Q → CallState Q → NodeState Q
call_closed x c = record x { calls = remove x.calls (place_of c.number x.calls) }

-- and answers it
abbrev pub answer_of : Op → Option Version → Answer
answer_of (op.Set key value) kept = answer.Ok
answer_of (op.Get key) kept = answer_for (value_of kept)

-- the current phase of a call restarts, under a new number
unfoldable pub called_again : {Q : Type 0} → NodeState Q → CallState Q → NodeState Q
called_again x c = record x {
  number = x.number + 1;
  calls = slice_set x.calls (place_of c.number x.calls) (restarted (x.number + 1) x.map x.name c);
}

-- an idle node joins: it knows itself and its contacts
unfoldable pub joined_by : {Q : Type 0} → NodeState Q → NameSet → NodeState Q
joined_by x contacts = record x {
  status = Joining;
  known = set.insert contacts x.name;
}

-- a stopped node never changes again
unfoldable pub stopped : {Q : Type 0} → NodeState Q → NodeState Q
stopped x = record x { status = Stopped }
