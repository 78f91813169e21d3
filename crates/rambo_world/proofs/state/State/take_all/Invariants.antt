use Rattle.std.proofs.Common.{◌≡◌, take}
use Rattle.rambo_run.specs.Runs.{results_from, run_from}
use Rattle.rambo_world.proofs.state.State.take_all.Given as goal

abbrev pub invariant-loop-step : goal.invariant-loop-step
invariant-loop-step g l =
    let s = g.Q.Quorums.system in
    (l.results.items ≡ results_from s l.fn.self (take l.step-index l.steps)) × (l.self ≡ run_from s l.fn.self (take l.step-index l.steps))
