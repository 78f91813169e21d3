-- Which acts send no letter
use Rattle.std.proofs.Common.{◌≡◌, false, None, refl}
use Rattle.std.proofs.lemmas.Bool.{true≢false}
use Rattle.rambo_node.specs.Acts.{Act}
use Rattle.rambo_node.specs.Acts as act
use Rattle.rambo_node.specs.Changes.{made_by}
use Rattle.rambo_node.specs.Nodes.{NodeState, open_call}
use Rattle.rambo_run.proofs.Deeds.{advanced_letter}
use Rattle.rambo_run.specs.Steps.{sends}

pub unsent : {Q : Type 0} (x : NodeState Q) (a : Act Q) → sends a ≡ false → (made_by x a).letter ≡ None
unfolding made_by
unsent x (act.Send to) e = absurd (true≢false e)
unsent x (act.Advance id) e = advanced_letter x id (open_call x id)
unsent x _ e = refl
