-- Options of `serve` that don't go together, and how that is reported
use Rattle.std.specs.Prelude.{◌&&◌, ℕ, List, Option, None, Some, codes, if◌then◌else◌, is_some, not}
use Rattle.rambo_command_line.specs.declared.clash.Clash.{Clash}
use Rattle.rambo_command_line.specs.declared.clash.Clash.TheVariants.{Steps, NoTrace, Trace, TraceAndNone, Sync, Resume}
use Rattle.rambo_command_line.specs.declared.serving.Serving.{Serving}

abbrev pub clash_of : Serving → Option Clash
clash_of s =
    if s.endless && s.counted then Some Steps
    else if s.untraced && not s.endless then Some NoTrace
    else if is_some s.trace && not s.endless then Some Trace
    else if is_some s.trace && s.untraced then Some TraceAndNone
    else if s.synced && not (is_some s.trace) then Some Sync
    else if s.resumed && not (is_some s.trace) then Some Resume else None

abbrev pub words_of : Clash → List ℕ
words_of Steps = codes "bad options: --endless excludes --steps"
words_of NoTrace = codes "bad options: --no-trace needs --endless"
words_of Trace = codes "bad options: --trace needs --endless"
words_of TraceAndNone = codes "bad options: --trace excludes --no-trace"
words_of Sync = codes "bad options: --sync needs --trace"
words_of Resume = codes "bad options: --resume needs --trace"
