use Rattle.std.proofs.Common.{ap, ◌∙◌}
use Rattle.rambo_tag.specs.Logs.{greatest_of}
use Rattle.rambo_tag.proofs.Logged.{greatest_of-nil}
use Rattle.rambo_tag.proofs.pack.Pack.empty.Goals as goal

pub returns : goal.returns
returns c = c.new-2.ensures ∙ ap greatest_of c.new.ensures.items ∙ greatest_of-nil
