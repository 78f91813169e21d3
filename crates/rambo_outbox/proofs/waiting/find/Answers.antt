use Rattle.std.proofs.Common.{◌∙◌, rules, tests}
use Rattle.std.proofs.lemmas.Iterator.{YieldsList-from_slice}
use Rattle.std.proofs.lemmas.Iterator.Search.{find_from_yields_List}
use Rattle.rambo_outbox.specs.Waiting.{is_of}
use Rattle.rambo_outbox.proofs.waiting.find.Goals as goal

pub returns : goal.returns
returns c = c.copied.ensures ∙ find_from_yields_List (is_of c.args.number) _ _ _ c.find.ensures.ran (YieldsList-from_slice c.args.entries.now cc) (λ x b q k. search (rules, tests))
