use Rattle.std.proofs.Common.{◌≡◌, ◌++◌, map, drop}
use Rattle.rambo_text.specs.Signs.{call_text}
use Rattle.rambo_text.specs.Words.{more_words}
use Rattle.rambo_check.proofs.outcome_lines.write_calls.Given as goal

abbrev pub invariant-loop-id : goal.invariant-loop-id
invariant-loop-id l = l.out.items ++ more_words (map call_text (drop l.id-index l.calls)) ≡ l.initial.out.items ++ more_words (map call_text l.calls)
