use Rattle.std.proofs.Common.{[]}
use Rattle.rambo_client.specs.Courses.{history_of, lettered}
use Rattle.rambo_client.proofs.Beginnings.{begins-itself, begins-lettered, ends_early}
use Rattle.rambo_direct.specs.Taken.{took_by}
use Rattle.rambo_direct.proofs.Directs.{took_none, took_pass}
use Rattle.rambo_direct.proofs.cluster.pass.Goals as goal

pub returns-in_err-pass : goal.returns-in_err-pass
returns-in_err-pass c = λ k took.
    ends_early c.from_residual.result _ (took_by c.pass.new.self) k (lettered k c.args.from c.args.to) (history_of k) (λ done. []) c.from_residual.ensures.1
    (took_none c.args.direct.now c.pass.new.self k k c.in_err-pass.ensures.err took (begins-itself k)) (begins-lettered k c.args.from c.args.to)

pub returns : goal.returns
returns c = λ k took. took_pass c.args.direct.now c.pass.new.self c.args.from c.args.to c.in_ok-pass.ensures.after k took c.in_ok-pass.field-0 c.in_ok-pass.ensures.told
