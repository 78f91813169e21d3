use Rattle.std.proofs.Common.{ℕ, List, ◌++◌, map}
use Rattle.std.specs.Option.{option_copied}
use Rattle.rambo_names.specs.Weights.{Weights}
use Rattle.rambo_names.specs.Signs.{conf_text}
use Rattle.rambo_text.specs.Words.{AreMore}
use Rattle.rambo_check.proofs.Rows.{left_of}
use Rattle.rambo_check.proofs.operands.read_confs.Given as goal

abbrev pub invariant-loop-more : goal.invariant-loop-more
invariant-loop-more l = (confs : List Weights) × ((ws : List (List ℕ)) → AreMore (option_copied l.more) ws → AreMore (option_copied l.initial.more) (map conf_text confs ++ ws))

abbrev pub decreases-loop-more : goal.decreases-loop-more
decreases-loop-more l = left_of (option_copied l.more)
