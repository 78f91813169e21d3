use Rattle.std.proofs.Common.{ap}
use Rattle.std.proofs.lemmas.Result.{IfOk-weaker}
use Rattle.rambo_history.specs.declared.event.CallId.{CallId}
use Rattle.rambo_node.specs.declared.step.StepOf.TheVariants as step
use Rattle.rambo_client.specs.Courses.{stepped}
use Rattle.rambo_names.proofs.Errors.{on_err}
use Rattle.rambo_client.proofs.Gains.{operated_right, operated_begun, uncalled_begun, on_ok-from}
use Rattle.rambo_client.proofs.client.Client.operate.Goals as goal

pub returns-in_err-id-clause-err : goal.returns-in_err-id-clause-err
returns-in_err-id-clause-err g c = λ qs done.
    on_err c.from_residual.result
    (uncalled_begun c.args.self.now.name c.args.self.now.founders qs c.args.op done.0 done.2 done.3 (g.C.Cluster.took c.ask.new.self) (c.in_err-id.ensures.steps done.0 done.1))

pub returns-clause-answer : goal.returns-clause-answer
returns-clause-answer g c = λ qs done.
    let name = c.args.self.now.name in
    let id = c.in_ok-id.ensures in
    let asked = id.steps done.0 done.1 in
    IfOk-weaker c.finish.result _ _ (λ a mine. mine.0)
    (operated_right name c.args.self.now.founders qs c.args.op done.0 done.2 done.3 (g.C.Cluster.took c.finish.new.cluster) c.in_ok-id.id id.named asked.1 c.finish.result
    (c.finish.ensures (stepped done.0 (step.Call name c.args.op)) asked.0 (ap (λ (i : CallId). i.name) id.named)))

pub returns-clause-ok : goal.returns-clause-ok
returns-clause-ok g c = λ qs done.
    let name = c.args.self.now.name in
    let id = c.in_ok-id.ensures in
    let asked = id.steps done.0 done.1 in
    on_ok-from c.finish.result _ _ (λ a mine. mine.1)
    (operated_right name c.args.self.now.founders qs c.args.op done.0 done.2 done.3 (g.C.Cluster.took c.finish.new.cluster) c.in_ok-id.id id.named asked.1 c.finish.result
    (c.finish.ensures (stepped done.0 (step.Call name c.args.op)) asked.0 (ap (λ (i : CallId). i.name) id.named)))

pub returns-clause-err : goal.returns-clause-err
returns-clause-err g c = λ qs done.
    let name = c.args.self.now.name in
    let id = c.in_ok-id.ensures in
    let asked = id.steps done.0 done.1 in
    operated_begun name c.args.self.now.founders qs c.args.op done.0 done.2 done.3 (g.C.Cluster.took c.finish.new.cluster) c.in_ok-id.id id.named asked.1 c.finish.result
    (c.finish.ensures (stepped done.0 (step.Call name c.args.op)) asked.0 (ap (λ (i : CallId). i.name) id.named))
