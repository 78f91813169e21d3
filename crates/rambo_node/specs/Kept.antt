-- How a call advances
use Rattle.std.specs.Prelude.{ℕ, ◌+◌, Option, None, Some, slice_get}
use Rattle.rambo_phase.specs.Phases.{started}
use Rattle.rambo_tag.specs.declared.version.Version.{Version}
use Rattle.rambo_history.specs.declared.event.CallId.{CallId}
use Rattle.rambo_history.specs.declared.event.Event.TheVariants as event
use Rattle.rambo_history.specs.declared.operation.Op.{Op}
use Rattle.rambo_calls.specs.declared.stage.Stage.{Stage}
use Rattle.rambo_calls.specs.declared.stage.Stage.TheVariants.{Query, Propagation}
use Rattle.rambo_calls.specs.Calls.{CallState}
use Rattle.rambo_calls.specs.Kept.{with_call, propagating}
use Rattle.rambo_node.specs.declared.deed.Deed.{Deed}
use Rattle.rambo_node.specs.declared.effect.Effect.TheVariants as effect
use Rattle.rambo_node.specs.Changes.{quiet_deed, set_mark, get_mark, copy_put}
use Rattle.rambo_node.specs.Nodes.{NodeState}
use Rattle.rambo_node.specs.Operations.{answer_of}

-- the propagation of the call at a place begins, under a new phase number
abbrev pub propagation_begun : {Q : Type 0} → NodeState Q → ℕ → Option Version → NodeState Q
propagation_begun x place kept = record x {
  number = x.number + 1;
  calls = with_call place (slice_get x.calls place) (propagating kept (started (x.number + 1) x.map x.name)) x.calls;
}

-- what a met query does, which keeps a copy
abbrev pub move_deed : {Q : Type 0} → CallId → Op → Option Version → Deed Q
move_deed id o kept = record { effect = effect.Moved; event = None; mark = set_mark id o kept; copy = copy_put o kept }

-- what a met propagation does, which propagated a copy
abbrev pub answer_deed : {Q : Type 0} → CallId → Op → Option Version → Deed Q
answer_deed id o kept = record { effect = effect.Answered id (answer_of o kept); event = Some (event.Answer id (answer_of o kept)); mark = get_mark id o kept; copy = None }

-- and what it does if the call is in it
abbrev pub answered_in : {Q : Type 0} → CallId → Op → Stage → Deed Q
answered_in id o Query = quiet_deed
answered_in id o (Propagation kept) = answer_deed id o kept

abbrev pub answered_from : {Q : Type 0} → CallId → Option (CallState Q) → Deed Q
answered_from id None = quiet_deed
answered_from id (Some c) = answered_in id c.op c.stage
