-- Runs of no step, and of one step more
use Rattle.std.proofs.Common.{◌≡◌, List, [], ◌∷◌, ◌++◌, refl}
use Rattle.rambo_names.specs.Quorums.{QuorumSystem}
use Rattle.rambo_node.specs.Steps.{Step}
use Rattle.rambo_run.specs.Worlds.{WorldState}
use Rattle.rambo_run.specs.Runs.{after, run_from}

pub run_from-more : {Q : Type 0} (s : QuorumSystem Q) (w : WorldState Q) (sts : List (Step Q)) (st : Step Q) → run_from s w (sts ++ st ∷ []) ≡ after s (run_from s w sts) st
unfolding run_from
run_from-more s w [] st = refl
run_from-more s w (x ∷ sts) st = run_from-more s (after s w x) sts st

pub run_from-none : {Q : Type 0} (s : QuorumSystem Q) (w : WorldState Q) → run_from s w [] ≡ w
unfolding run_from
run_from-none s w = refl
