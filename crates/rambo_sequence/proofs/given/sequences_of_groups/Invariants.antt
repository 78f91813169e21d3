use Rattle.std.proofs.Common.{◌≡◌, ◌++◌, map}
use Rattle.rambo_sequence.specs.Groups.{group_sequence}
use Rattle.rambo_sequence.proofs.given.sequences_of_groups.Given as goal

abbrev pub invariant-loop-key : goal.invariant-loop-key
invariant-loop-key l = l.sequences.items ++ map group_sequence l.key-iterator ≡ map group_sequence l.fn.groups.entries
