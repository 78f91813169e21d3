use Rattle.std.proofs.Common.{◌<◌, ◌∙◌, ◌++◌, [], ◌∷◌, take, sym, ap, subst, refl, length-set, arith}
use Rattle.std.proofs.lemmas.List.{take_more_set}
use Rattle.std.proofs.lemmas.List.Elements.{All-push}
use Rattle.rambo_text.specs.Signs.{pairs_text, AreBytes}
use Rattle.rambo_text.proofs.Pairs.{pairs-front}
use Rattle.rambo_text.proofs.reading.short_front.Goals as goal

pub loop-length-preserved : goal.loop-length-preserved
loop-length-preserved c =
    let found = c.in-Some.ensures.found in
    let old = take c.loop-length.length c.loop-length.bytes in
    let more = take_more_set c.loop-length.bytes c.loop-length.length c.in-Some.byte (omega (arith, c.loop-length.invariant.full, c.loop-length-test.true)) in
    record {
      whole = pairs-front c.args.text.now old c.loop-length.rest.now (pairs_text (c.in-Some.byte ∷ [])) c.in-Some.others.now (c.in-Some.byte ∷ []) c.loop-length.invariant.whole found.1 refl
          ∙ ap (λ bs. pairs_text bs ++ c.in-Some.others.now) (sym more);
      bytes = subst AreBytes (sym more) (All-push (λ b. b < 256) old c.in-Some.byte c.loop-length.invariant.bytes found.0);
      full = length-set c.loop-length.bytes c.loop-length.length c.in-Some.byte ∙ c.loop-length.invariant.full;
      few = omega (arith, c.loop-length-test.true);
    }
