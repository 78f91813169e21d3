-- What is said of an act holds of the step that means it
use Rattle.std.proofs.lemmas.Bool.{true≢false}
use Rattle.std.proofs.lemmas.Option.{same_Some}
use Rattle.std.proofs.lemmas.Result.{IfErr-weaker}
use Rattle.std.proofs.Common.{◌≡◌, ℕ, true, false, Option, None, Some, Result, Ok, Err, OnOk, IfOk, IfErr, refl, sym, ap, ◌∙◌, subst}
use Rattle.rambo_names.specs.declared.refusal.Refusal.{Refusal}
use Rattle.rambo_names.specs.Quorums.{QuorumSystem}
use Rattle.rambo_names.specs.Refusals.{IsRefusal}
use Rattle.rambo_gossip.specs.Letters.{LetterState}
use Rattle.rambo_node.specs.Acts.{Act, Meant, delivery, meant_by}
use Rattle.rambo_node.specs.declared.prepared.Quiet.{Quiet}
use Rattle.rambo_node.specs.Changes.{refusal_of}
use Rattle.rambo_node.specs.Nodes.{NodeState, RoomyNode}
use Rattle.rambo_node.specs.Acts as act
use Rattle.rambo_node.specs.declared.half.Half.{Half}
use Rattle.rambo_node.specs.declared.step.StepOf.{StepOf}
use Rattle.rambo_node.specs.Halves.{judged, outline_of, IsReadyStep}
use Rattle.rambo_node.specs.Memory.{needs_memory}
use Rattle.rambo_node.specs.Steps.{quiet_of}
use Rattle.rambo_node.proofs.FirstHalves.{ready_apart}
use Rattle.rambo_node.proofs.QuietSteps.{quiet_means}

-- the step means this act of some node
abbrev pub Means : {Q L : Type 0} → Option (LetterState Q) → StepOf Q L → Act Q → Type 0
Means o st c = (n : ℕ) × (meant_by o st ≡ Some (record { name = n; act = c }))

-- x is how the node is kept, and y how it is seen
module _ {Q L : Type 0} (s : QuorumSystem Q) (x y : NodeState Q) (same : x ≡ y) (o : Option (LetterState Q)) (st : StepOf Q L) where
  pub verdict : (c : Act Q) → Means o st c → judged s y (meant_by o st) ≡ refusal_of s x c
  verdict c m = ap (judged s y) m.1 ∙ ap (λ x. refusal_of s x c) (sym same)

  pub cleared : {A B : Type 0} (c : Act Q) (r : Result A B) → Means o st c → OnOk r (refusal_of s x c ≡ None) → OnOk r (judged s y (meant_by o st) ≡ None)
  cleared c r m h = subst (λ o. OnOk r (o ≡ None)) (sym (verdict c m)) h

  pub refused : {A : Type 0} (c : Act Q) (r : Result A Refusal) → Means o st c → IfErr r (λ f. refusal_of s x c ≡ Some f) → IfErr r (λ f. judged s y (meant_by o st) ≡ Some f)
  refused c r m h = subst (λ o. IfErr r (λ f. o ≡ Some f)) (sym (verdict c m)) h

  pub told : {A : Type 0} (c : Act Q) (r : Result A Refusal) → Means o st c → IfErr r (IsRefusal (refusal_of s x c)) → IfErr r (IsRefusal (judged s y (meant_by o st)))
  told c r m h = subst (λ o. IfErr r (IsRefusal o)) (sym (verdict c m)) h

  -- of an act that is refused by its causes alone
  pub told_alone : {A : Type 0} (c : Act Q) (r : Result A Refusal) → Means o st c → IfErr r (λ f. refusal_of s x c ≡ Some f) → IfErr r (IsRefusal (judged s y (meant_by o st)))
  told_alone c r m h = told c r m (IfErr-weaker r _ _ (λ f is. subst (λ o. IsRefusal o f) (sym is) refl) h)

-- whether memory is needed
module _ {Q L : Type 0} (s : QuorumSystem Q) (x : NodeState Q) (o : Option (LetterState Q)) (st : StepOf Q L) where
  act_is : (c : Act Q) → Means o st c → (m : Meant Q) → meant_by o st ≡ Some m → c ≡ m.act
  act_is c m other e = ap (λ (m : Meant _). m.act) (same_Some _ other (sym m.1 ∙ e))

  pub memory_used : {A : Type 0} (c : Act Q) (r : Result A Refusal) → Means o st c → needs_memory c ≡ true
      → (m : Meant Q) → meant_by o st ≡ Some m → needs_memory m.act ≡ false → IfErr r (λ f. refusal_of s x m.act ≡ Some f)
  memory_used c r m used other e none = absurd (true≢false (sym used ∙ ap needs_memory (act_is c m other e) ∙ none))

  pub none_used : {A : Type 0} (c : Act Q) (r : Result A Refusal) → Means o st c → IfErr r (λ f. refusal_of s x c ≡ Some f)
      → (m : Meant Q) → meant_by o st ≡ Some m → needs_memory m.act ≡ false → IfErr r (λ f. refusal_of s x m.act ≡ Some f)
  none_used c r m h other e none = subst (λ a. IfErr r (λ f. refusal_of s x a ≡ Some f)) (act_is c m other e) h

  pub room_as : {A : Type 0} (new : StepOf Q L) (r : Result A Refusal) → st ≡ new
      → ((m : Meant Q) → meant_by o new ≡ Some m → needs_memory m.act ≡ false → IfErr r (λ f. refusal_of s x m.act ≡ Some f))
      → (m : Meant Q) → meant_by o st ≡ Some m → needs_memory m.act ≡ false → IfErr r (λ f. refusal_of s x m.act ≡ Some f)
  room_as new r is h m e none = h m (sym (ap (meant_by o) is) ∙ e) none

-- of one that is ready
module _ {Q L : Type 0} (s : QuorumSystem Q) (v : RoomyNode Q) (o : Option (LetterState Q)) (st : StepOf Q L) where
  changed : (c : Act Q) → Means o st c → (m : Meant Q) → meant_by o st ≡ Some m → c ≡ m.act
  changed c m other e = ap (λ (m : Meant _). m.act) (same_Some _ other (sym m.1 ∙ e))

  pub ready_by : (c : Act Q) (h : Half Q) → Means o st c → IsReadyStep s v None c h → (m : Meant Q) → meant_by o st ≡ Some m → IsReadyStep s v (outline_of o) m.act h
  ready_by c h m e other is = ready_apart s v (outline_of o) other.act h (subst (λ c. IsReadyStep s v None c h) (changed c m other is) e)

  pub ready_after : {B : Type 0} (c : Act Q) (r : Result (Half Q) B) → Means o st c → IfOk r (IsReadyStep s v None c) → IfOk r (λ h. (m : Meant Q) → meant_by o st ≡ Some m → IsReadyStep s v (outline_of o) m.act h)
  ready_after c (Ok h) m e = ready_by c h m e
  ready_after c (Err b) m e = e

-- the same of a delivery
module _ {Q L : Type 0} (s : QuorumSystem Q) (x y : NodeState Q) (same : x ≡ y) (o : Option (LetterState Q)) (st new : StepOf Q L) (is : st ≡ new) where
  pub cleared_as : {A B : Type 0} (r : Result A B) → OnOk r (judged s x (meant_by o new) ≡ None) → OnOk r (judged s y (meant_by o st) ≡ None)
  cleared_as r h = subst (λ x. OnOk r (judged s x (meant_by o st) ≡ None)) same (subst (λ st. OnOk r (judged s x (meant_by o st) ≡ None)) (sym is) h)

  pub refused_as : {A : Type 0} (r : Result A Refusal) → IfErr r (λ f. judged s x (meant_by o new) ≡ Some f) → IfErr r (λ f. judged s y (meant_by o st) ≡ Some f)
  refused_as r h = subst (λ x. IfErr r (λ f. judged s x (meant_by o st) ≡ Some f)) same (subst (λ st. IfErr r (λ f. judged s x (meant_by o st) ≡ Some f)) (sym is) h)

  pub told_as : {A : Type 0} (r : Result A Refusal) → IfErr r (IsRefusal (judged s x (meant_by o new))) → IfErr r (IsRefusal (judged s y (meant_by o st)))
  told_as r h = subst (λ x. IfErr r (IsRefusal (judged s x (meant_by o st)))) same (subst (λ st. IfErr r (IsRefusal (judged s x (meant_by o st)))) (sym is) h)

pub ready_as : {Q L B : Type 0} (s : QuorumSystem Q) (v : RoomyNode Q) (o : Option (LetterState Q)) (st new : StepOf Q L) (r : Result (Half Q) B) → st ≡ new
    → IfOk r (λ h. (m : Meant Q) → meant_by o new ≡ Some m → IsReadyStep s v (outline_of o) m.act h) → IfOk r (λ h. (m : Meant Q) → meant_by o st ≡ Some m → IsReadyStep s v (outline_of o) m.act h)
ready_as s v o st new r is e = subst (λ st. IfOk r (λ h. (m : Meant _) → meant_by o st ≡ Some m → IsReadyStep s v (outline_of o) m.act h)) (sym is) e

-- a step of a quiet act means it whichever letter comes
pub quiet_by : {Q L : Type 0} (o : Option (LetterState Q)) (st : StepOf Q L) (p : ℕ × Quiet Q) → quiet_of st ≡ Some p → Means o st (act.Quietly p.1)
quiet_by o st p e = (p.0, quiet_means o st p e)

-- which refusal is told
pub refused_alike : (o p : Option Refusal) (r : Refusal) → o ≡ p → IsRefusal p r → IsRefusal o r
refused_alike o p r same told = subst (λ o. IsRefusal o r) (sym same) told

-- the delivery of a letter means that it comes
pub delivers : {Q : Type 0} (l : LetterState Q) (o : Option (LetterState Q)) (m : Meant Q) → Some l ≡ o → delivery o ≡ Some m → act.Hear l ≡ m.act
delivers l o m is means = ap (λ (m : Meant _). m.act) (same_Some _ m (ap delivery is ∙ means))
