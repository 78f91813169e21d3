use Rattle.std.proofs.Common.{rules, arith, true, ◌+◌, ◌<◌, ◌^◌}
use Rattle.std.proofs.lemmas.Grind.{common_steps}
use Rattle.rambo_atomic.proofs.Tallied.{count-fits, count_with-own, how_many-length}
use Rattle.rambo_atomic.specs.Tests.{of_key, is_due}
use Rattle.rambo_atomic.proofs.checker.Checker.new.Goals as goal

pub count_next-requires : goal.count_next-requires
count_next-requires c q =
    let few = how_many-length (is_due c.args.history.now.events (of_key q)) c.args.history.now.events in
    omega (arith, few, c.loop-event.invariant.0 q, c.events-rest.ensures.fits)

pub overflow_add-all_answered : goal.overflow_add-all_answered
overflow_add-all_answered c =
    let l : c.loop-event.all_answered + 1 < 2 ^ 64 =
    count-fits (is_due c.args.history.now.events (λ op. true)) c.loop-event.all_answered c.args.history.now.events c.in-Some.event.now c.in-Some.others.now
    (search rules) (grind (arith, common_steps, c.loop-event.invariant.1)) c.events-rest.ensures.fits in
    grind (arith, common_steps, l)

pub count-requires : goal.count-requires
count-requires c =
    let own = c.loop-event.run.key.now in
    let few = how_many-length (is_due c.args.history.now.events (of_key own)) c.args.history.now.events in
    omega (arith, few, c.loop-event.invariant.0 own, count_with-own c.loop-event.answered.entries own c.loop-event.run.len, c.events-rest.ensures.fits)
