use Rattle.std.proofs.Common.{refl, sym, ap, subst, ◌∙◌, arith}
use Rattle.std.proofs.lemmas.Bool.Decides.{nat_tests}
use Rattle.rambo_text.specs.Signs.{pairs_text, AreBytes}
use Rattle.rambo_text.proofs.Pairs.{pairs-end, no_more}
use Rattle.rambo_text.proofs.reading.read_short.Goals as goal

pub returns-else-is_empty-clause-fault : goal.returns-else-is_empty-clause-fault
returns-else-is_empty-clause-fault c =
    let front = c.short_front-length.ensures in
    (refl, no_more c.args.word.now _ _ _ front.whole c.requires front.few.1 front.all (grind (arith, nat_tests)))

pub returns-then-is_empty-clause-found : goal.returns-then-is_empty-clause-found
returns-then-is_empty-clause-found c =
    let front = c.short_front-length.ensures in
    (subst AreBytes (sym c.short.ensures) front.bytes, pairs-end _ _ _ (grind (arith, nat_tests)) front.whole ∙ ap pairs_text (sym c.short.ensures))
