use Rattle.std.proofs.Common.{◌≡◌, ◌++◌, map, take, drop}
use Rattle.rambo_calls.specs.Hearing.{heard_call}
use Rattle.rambo_calls.specs.Kept.{calls_of, IsRoomy}
use Rattle.rambo_calls.proofs.open_calls.hear.Given as goal

-- those before the index have heard it, and those from there on will
abbrev pub invariant-loop-call : goal.invariant-loop-call
invariant-loop-call g l =
    (calls_of (take l.call-index l.calls) ++ map (heard_call l.heard l.from l.map l.number l.merged l.me) (calls_of (drop l.call-index l.calls))
    ≡ map (heard_call l.heard l.from l.map l.number l.merged l.me) (calls_of l.fn.calls))
    × IsRoomy l.map (drop l.call-index l.calls)
