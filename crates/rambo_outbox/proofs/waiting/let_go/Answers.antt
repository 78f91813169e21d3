use Rattle.std.proofs.Common.{rules, tests}
use Rattle.std.proofs.lemmas.Fn.{filter_same}
use Rattle.rambo_outbox.specs.Waiting.{is_anothers}
use Rattle.rambo_outbox.proofs.waiting.let_go.Goals as goal

pub returns : goal.returns
returns c = filter_same _ (is_anothers c.args.client c.args.connection) _ (λ x b q k. search (rules, tests)) _ _ c.retain.ensures.filtered
