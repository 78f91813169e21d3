use Rattle.std.proofs.Common.{subst}
use Rattle.std.specs.Option.{option_copied}
use Rattle.rambo_text.specs.Words.{AreMore}
use Rattle.rambo_text.proofs.WordSplits.{not_so_many}
use Rattle.rambo_text.proofs.words.three_words.Goals as goal

pub returns-in_err-second-clause-none : goal.returns-in_err-second-clause-none
returns-in_err-second-clause-none c =
    rw c.from_residual-in_err-second.ensures (λ words all.
    not_so_many 2 _ _ _ c.next_word.ensures c.in_err-second.ensures.none words
    (subst (λ m. AreMore (option_copied m) words) c.in_ok-more.was all))
