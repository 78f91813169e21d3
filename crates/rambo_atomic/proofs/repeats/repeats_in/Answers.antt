use Rattle.std.proofs.Common.{sym, ◌∙◌, arith}
use Rattle.rambo_atomic.proofs.Rising.{rising-distinct}
use Rattle.rambo_atomic.proofs.Seen.{distinct-found}
use Rattle.rambo_atomic.specs.Scopes.{within}
use Rattle.rambo_atomic.proofs.repeats.repeats_in.Goals as goal

pub returns-then-is_rising-clause-distinct : goal.returns-then-is_rising-clause-distinct
returns-then-is_rising-clause-distinct c =
    sym (rising-distinct c.args.history.now.events 0 c.args.order.now (sym c.requires.rising ∙ c.if-is_rising.true))

pub returns-then-is_rising-clause-answered : goal.returns-then-is_rising-clause-answered
returns-then-is_rising-clause-answered c =
    let h = c.args.history.now.events in
    let all = distinct-found h (within c.args.scope) c.args.order.now c.requires.well_formed.calls_once
    (rising-distinct h 0 c.args.order.now (sym c.requires.rising ∙ c.if-is_rising.true)) in
    omega (arith, all)
