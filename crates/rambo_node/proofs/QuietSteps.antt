-- Steps of quiet acts: what they mean, and which they are
use Rattle.std.proofs.Common.{◌≡◌, ℕ, Option, None, Some, refl, sym, ap}
use Rattle.std.proofs.lemmas.Option.{none-some}
use Rattle.std.specs.Option.{option_map}
use Rattle.rambo_history.specs.declared.event.CallId.{CallId}
use Rattle.rambo_history.specs.declared.operation.Op.{Op}
use Rattle.rambo_gossip.specs.Letters.{LetterState}
use Rattle.rambo_node.specs.declared.prepared.Quiet.{Quiet}
use Rattle.rambo_node.specs.declared.step.StepOf.{StepOf}
use Rattle.rambo_node.specs.declared.step.StepOf.TheVariants as step
use Rattle.rambo_node.specs.Acts.{meant_by}
use Rattle.rambo_node.specs.Acts as act
use Rattle.rambo_node.specs.Steps.{quiet_of}

-- such a step means its act, whichever letter comes
pub quiet_means : {Q L : Type 0} (o : Option (LetterState Q)) (st : StepOf Q L) (p : ℕ × Quiet Q) → quiet_of st ≡ Some p → meant_by o st ≡ Some (record { name = p.0; act = act.Quietly p.1 })
quiet_means o (step.Call n op) p e = absurd (none-some p e)
quiet_means o (step.Send n to) p e = absurd (none-some p e)
quiet_means o (step.Deliver l) p e = absurd (none-some p e)
quiet_means o (step.Advance id) p e = absurd (none-some p e)
quiet_means o _ p e = ap (option_map (λ p. record { name = p.0; act = act.Quietly p.1 })) e

-- every step but a call, its advance, a letter that is sent, and one that comes, means one
pub quiet_else : {Q L A : Type 0} (st : StepOf Q L) → quiet_of st ≡ None → ((n : ℕ) (o : Op) → st ≡ step.Call n o → ⊥) → ((n to : ℕ) → st ≡ step.Send n to → ⊥)
    → ((l : L) → st ≡ step.Deliver l → ⊥) → ((id : CallId) → st ≡ step.Advance id → ⊥) → A
quiet_else (step.Call n o) e call send deliver advance = absurd (call n o refl)
quiet_else (step.Send n to) e call send deliver advance = absurd (send n to refl)
quiet_else (step.Deliver l) e call send deliver advance = absurd (deliver l refl)
quiet_else (step.Advance id) e call send deliver advance = absurd (advance id refl)
quiet_else _ e call send deliver advance = absurd (none-some _ (sym e))
