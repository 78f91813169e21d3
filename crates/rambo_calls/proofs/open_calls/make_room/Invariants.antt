use Rattle.std.proofs.Common.{◌≡◌, take, drop}
use Rattle.rambo_calls.specs.Kept.{calls_of, IsRoomy}
use Rattle.rambo_calls.proofs.open_calls.make_room.Given as goal

-- those before the index have room, and where all had it, so have those from there on
abbrev pub invariant-loop-call : goal.invariant-loop-call
invariant-loop-call g l =
    (calls_of l.calls ≡ calls_of l.fn.calls) × IsRoomy l.map (take l.call-index l.calls) × (IsRoomy l.map l.fn.calls → IsRoomy l.map (drop l.call-index l.calls))
