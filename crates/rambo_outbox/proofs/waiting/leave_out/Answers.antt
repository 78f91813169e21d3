use Rattle.std.proofs.Common.{rules, tests}
use Rattle.std.proofs.lemmas.Fn.{filter_same}
use Rattle.rambo_outbox.specs.Waiting.{is_other}
use Rattle.rambo_outbox.proofs.waiting.leave_out.Goals as goal

pub returns : goal.returns
returns c = filter_same _ (is_other c.args.number) _ (λ x b q k. search (rules, tests)) _ _ c.retain.ensures.filtered
