-- Steps of nodes, by what they say themselves
use Rattle.std.specs.Prelude.{ℕ, Option, None, Some}
use Rattle.std.specs.Option.{option_map}
use Rattle.rambo_gossip.specs.Letters.{LetterState}
use Rattle.rambo_node.specs.declared.prepared.Quiet.{Quiet}
use Rattle.rambo_node.specs.declared.prepared.Quiet.TheVariants as quiet
use Rattle.rambo_node.specs.declared.step.StepOf.{StepOf}
use Rattle.rambo_node.specs.declared.step.StepOf.TheVariants as step

-- a step of a run, which tells a letter by its number, and one of a node by itself, which has the letter
abbrev pub Step : Type 0 → Type 0
Step Q = StepOf Q ℕ

abbrev pub Change : Type 0 → Type 0
Change Q = StepOf Q (LetterState Q)

-- the quiet act that a step means, if it means one, and the name of its node
abbrev pub quiet_of : {Q L : Type 0} → StepOf Q L → Option (ℕ × Quiet Q)
quiet_of (step.Join n contacts) = Some (n, quiet.Join contacts)
quiet_of (step.Again id) = Some (id.name, quiet.Again id)
quiet_of (step.Collect n) = Some (n, quiet.Collect)
quiet_of (step.AdvanceCollect n) = Some (n, quiet.AdvanceCollect)
quiet_of (step.Recon n wish) = Some (n, quiet.Recon wish)
quiet_of (step.Rebid n) = Some (n, quiet.Rebid)
quiet_of (step.AdvanceRecon n) = Some (n, quiet.AdvanceRecon)
quiet_of (step.Stop n) = Some (n, quiet.Stop)
quiet_of _ = None

-- the letter that a step delivers, or its number, if it delivers one
abbrev pub delivered_by : {Q L : Type 0} → StepOf Q L → Option L
delivered_by (step.Deliver l) = Some l
delivered_by _ = None

-- the name of the node whose step it is, by what it says itself: none of a letter that comes
abbrev pub named_by : {Q L : Type 0} → StepOf Q L → Option ℕ
named_by (step.Call n o) = Some n
named_by (step.Send n to) = Some n
named_by (step.Deliver l) = None
named_by (step.Advance id) = Some id.name
named_by st = option_map (λ p. p.0) (quiet_of st)
