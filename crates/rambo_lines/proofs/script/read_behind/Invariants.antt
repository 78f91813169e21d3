use Rattle.std.proofs.Common.{◌≡◌, length}
use Rattle.rambo_lines.specs.Places.{place_of}
use Rattle.rambo_lines.proofs.LineByLine.{Reads}
use Rattle.rambo_lines.proofs.script.read_behind.Given as goal

abbrev pub invariant-loop-rest : goal.invariant-loop-rest
invariant-loop-rest l = record {
  reads : Reads l.text l.founders l.steps.items l.rest;
  place : l.place ≡ place_of l.fn.version (length l.steps.items);
}

abbrev pub decreases-loop-rest : goal.decreases-loop-rest
decreases-loop-rest l = length l.rest
