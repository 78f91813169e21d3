-- What is told of a step whose second half is done
use Rattle.std.proofs.Common.{◌≡◌, List, Option, None, Some, refl}
use Rattle.rambo_gossip.specs.Letters.{LetterState}
use Rattle.rambo_node.specs.declared.effect.Effect.{Effect}
use Rattle.rambo_node.specs.Halves.{SendsFor}
use Rattle.rambo_node.specs.Nodes.{RoomyNode}
use Rattle.rambo_run.specs.Steps.{effect_in}

-- a letter that goes out for a whole one has its number
pub told_alike : {Q : Type 0} (v : RoomyNode Q) (ls : List (LetterState Q)) (e : Effect Q) (o whole : Option (LetterState Q)) → SendsFor v o whole → effect_in ls e o ≡ effect_in ls e whole
told_alike v ls e None None sends = refl
told_alike v ls e None (Some l) sends = absurd sends
told_alike v ls e (Some l) None sends = absurd sends
told_alike v ls e (Some l) (Some whole) sends = refl
