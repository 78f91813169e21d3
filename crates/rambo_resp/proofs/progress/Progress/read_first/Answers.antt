use Rattle.std.proofs.lemmas.Result.{err_from_is_err_and}
use Rattle.rambo_resp.proofs.Runs.{one_on, one_stops}
use Rattle.rambo_resp.proofs.progress.Progress.read_first.Goals as goal

pub returns-in_err-read_sign-clause-stopped : goal.returns-in_err-read_sign-clause-stopped
returns-in_err-read_sign-clause-stopped c =
    let p = err_from_is_err_and c.from_residual.result c.from_residual.ensures.1 in
    rw (p.1, p.2) (one_stops c.args.self.now c.read_sign.new.self c.args.bytes.now _ c.requires.some c.in_err-read_sign.ensures.stopped)

pub returns-clause-ok : goal.returns-clause-ok
returns-clause-ok c = one_on c.args.self.now c.read_sign.new.self c.args.bytes.now c.requires.some c.in_ok-read_sign.ensures.ok
