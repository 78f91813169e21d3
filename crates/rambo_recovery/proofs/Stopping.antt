-- A node that has stopped takes no step more
use Rattle.std.proofs.Common.{◌≡◌, ℕ, zero, suc, Bool, true, false, not, if◌then◌else◌, List, ◌∷◌, [], slice_get, Option, None, Some, true≢false, refl, sym, ap, ◌∙◌}
use Rattle.rambo_names.specs.declared.refusal.Refusal.{Refusal}
use Rattle.rambo_names.specs.declared.refusal.Refusal.TheVariants.{NameUsed, Stopped}
use Rattle.rambo_names.specs.Quorums.{QuorumSystem}
use Rattle.rambo_names.specs.Refusals.{Cause, cause, least}
use Rattle.rambo_joiner.specs.declared.status.Status.{Status}
use Rattle.rambo_joiner.specs.declared.status.Status.TheVariants as status
use Rattle.rambo_joiner.specs.Statuses.{is_idle, is_stopped}
use Rattle.rambo_node.specs.Acts.{Act}
use Rattle.rambo_node.specs.Changes.{refusal_of, causes as causes_in, quiet_causes}
use Rattle.rambo_node.specs.Nodes.{NodeState}
use Rattle.rambo_node.specs.Acts as act
use Rattle.rambo_node.specs.declared.prepared.Quiet.{Quiet}
use Rattle.rambo_node.specs.declared.prepared.Quiet.TheVariants as quiet
use Rattle.rambo_node.specs.Steps.{Step}
use Rattle.rambo_run.specs.Worlds.{WorldState, node_at}
use Rattle.rambo_run.specs.Steps.{meant, causes_at, causes_of, causes, refusal, turn}
use Rattle.rambo_run.proofs.GoingOn.{else_stays}
use Rattle.rambo_run.proofs.Lists.{none-some, some_inj}
use Rattle.rambo_pass.specs.Passes.{HasStopped}

unless_none : (holds : Bool) (r : Refusal) (rest : Option Refusal) → (if holds then Some r else rest) ≡ None → (holds ≡ false) × (rest ≡ None)
unless_none true r rest e = absurd (none-some r (sym e))
unless_none false r rest e = (refl, e)

-- where there is no refusal no cause holds
no_cause : (cs : List Cause) → least cs ≡ None → (place : ℕ) (c : Cause) → slice_get cs place ≡ Some c → c.holds ≡ false
no_cause [] e place c found = absurd (none-some c found)
no_cause (d ∷ cs) e zero c found = ap (λ (c : Cause). c.holds) (sym (some_inj d c found)) ∙ (unless_none d.holds d.refusal (least cs) e).0
no_cause (d ∷ cs) e (suc i) c found = no_cause cs (unless_none d.holds d.refusal (least cs) e).1 i c found

idle_goes : (t : Status) → not (is_idle t) ≡ false → is_stopped t ≡ false
idle_goes status.Idle e = refl
idle_goes status.Joining e = absurd (true≢false e)
idle_goes status.Active e = absurd (true≢false e)
idle_goes status.Stopped e = absurd (true≢false e)

-- a node that takes a step hasn't stopped
quiet_goes : {Q : Type 0} (s : QuorumSystem Q) (x : NodeState Q) (q : Quiet Q) → least (quiet_causes s x q) ≡ None → is_stopped x.status ≡ false
quiet_goes s x (quiet.Join contacts) e = idle_goes x.status (no_cause (quiet_causes s x (quiet.Join contacts)) e 0 (cause NameUsed (not (is_idle x.status))) refl)
quiet_goes s x q e = no_cause (quiet_causes s x q) e 1 (cause Stopped (is_stopped x.status)) refl

going : {Q : Type 0} (s : QuorumSystem Q) (x : NodeState Q) (a : Act Q) → refusal_of s x a ≡ None → is_stopped x.status ≡ false
going s x (act.Quietly q) e = quiet_goes s x q e
going s x a e = no_cause (causes_in s x a) e 1 (cause Stopped (is_stopped x.status)) refl

judged_by : {Q : Type 0} (s : QuorumSystem Q) (w : WorldState Q) (st : Step Q) → refusal s w st ≡ least (causes_of s w (meant w st))
unfolding refusal causes
judged_by s w st = refl

-- and one that has stopped is as it was after a step that isn't refused
pub stays : {Q : Type 0} (s : QuorumSystem Q) (w : WorldState Q) (st : Step Q) (n : ℕ) → refusal s w st ≡ None → HasStopped w n → HasStopped (turn w st).world n
stays s w st n accepted h = (
  h.0,
  (
    else_stays w st n
        (λ m is named.
        let here : node_at w m.name ≡ Some h.0 = ap (node_at w) named ∙ h.1.0 in
        let free : refusal_of s h.0 m.act ≡ None = sym (ap (λ o. least (causes_at s o m.act)) here) ∙ ap (λ o. least (causes_of s w o)) (sym is) ∙ sym (judged_by s w st) ∙ accepted in
        true≢false (sym h.1.1 ∙ going s h.0 m.act free))
        ∙ h.1.0,
    h.1.1,
  ),
)
