use Rattle.rambo_names.proofs.ConfTexts.{even_text}
use Rattle.rambo_names.proofs.laws.even_is_set.Goals as goal

pub returns : goal.returns
returns c = even_text
