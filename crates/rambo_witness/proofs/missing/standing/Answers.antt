use Rattle.std.proofs.Common.{take, sym, ap, ◌∙◌}
use Rattle.std.proofs.lemmas.List.{take_all}
use Rattle.rambo_atomic.specs.Tests.{stands_in}
use Rattle.rambo_witness.proofs.Fronts.{take-item}
use Rattle.rambo_witness.proofs.Standing.{seen-push}
use Rattle.rambo_witness.proofs.missing.standing.Goals as goal

pub loop-id-preserved : goal.loop-id-preserved
loop-id-preserved c q =
    let order = c.args.order.now in
    let i = c.loop-id.id-index in
    let id = c.id-item.result in
    seen-push (take i order) c.loop-id.standing.keys c.insert.new.self.keys id c.loop-id.invariant c.in_ok-insert.ensures.updates.0 q
    ∙ ap (λ l. stands_in l q) (sym (take-item order i id c.loop-id-test.true c.id-item.is))

pub returns-clause-calls : goal.returns-clause-calls
returns-clause-calls c q = c.loop-id.invariant q ∙ ap (λ l. stands_in l q) (take_all c.loop-id.id-index c.args.order.now c.loop-id-test.false)
