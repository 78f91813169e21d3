use Rattle.std.proofs.Common.{sym, ap}
use Rattle.rambo_resp.specs.Progresses.{ProgressState}
use Rattle.rambo_resp.proofs.Runs.{sign_breaks}
use Rattle.rambo_resp.proofs.progress.Progress.read_sign.Goals as goal

pub returns-in_default-clause-stopped : goal.returns-in_default-clause-stopped
returns-in_default-clause-stopped c = λ _.
    sign_breaks c.args.self.now c.self.inside.awaited c.self.inside.place c.args.byte c.fault_of.result c.after.result
    (ap (λ (s : ProgressState). s.rest.awaited) (sym c.self.view_is)) (ap (λ (s : ProgressState). s.place) (sym c.self.view_is)) c.after.ensures c.in_default.is c.fault_of.ensures
