use Rattle.std.proofs.Common.{◌<◌, [], ◌∷◌, ◌++◌, length, refl, sym, ap, ◌∙◌, inr, subst, arith}
use Rattle.std.proofs.lemmas.Bool.Decides.{nat_tests}
use Rattle.std.proofs.lemmas.List.Elements.{All-append, All-push}
use Rattle.rambo_text.specs.Signs.{pairs_text, AreBytes}
use Rattle.rambo_text.proofs.Pairs.{pairs-front, pairs-end, no_front, no_pair, front_and_rest, front_length}
use Rattle.rambo_text.proofs.reading.read_pairs.Goals as goal

pub returns-in_default-bytes_of-clause-fault : goal.returns-in_default-bytes_of-clause-fault
returns-in_default-bytes_of-clause-fault c =
    let parts = c.in-Some.ensures.cases in
    let whole = front_and_rest 32 _ _ _ parts.0 parts.1 in
    inr (refl, no_front 16 c.args.word.now c.loop-digits.bytes.items c.loop-digits.rest.now c.in-Some.digits.now c.in-Some.others.now c.loop-digits.invariant.whole whole (front_length 32 _ _ _ parts.0 parts.2) c.in_default-bytes_of.ensures.none)

pub loop-digits-preserved : goal.loop-digits-preserved
loop-digits-preserved c =
    let parts = c.in-Some.ensures.cases in
    let whole = front_and_rest 32 _ _ _ parts.0 parts.1 in
    let found = c.in-Some-bytes_of.ensures.found in
    let old = c.loop-digits.bytes.items in
    let sixteen = c.in-Some-bytes_of.sixteen in
    let items = c.in_ok-extend_from_slice.ensures.items in
    record {
      whole = pairs-front c.args.word.now old c.loop-digits.rest.now c.in-Some.digits.now c.in-Some.others.now sixteen c.loop-digits.invariant.whole whole found.1 ∙ ap (λ bs. pairs_text bs ++ c.in-Some.others.now) (sym items);
      bytes = subst AreBytes (sym items) (All-append (λ b. b < 256) old sixteen c.loop-digits.invariant.bytes found.0);
      room = omega (arith, c.in_ok-extend_from_slice.ensures.len, parts.2, c.in_ok-extend_from_slice.ensures.capacity, c.loop-digits.invariant.room);
    }

pub loop-byte-preserved : goal.loop-byte-preserved
loop-byte-preserved c =
    let found = c.in-Some-first_byte.ensures.found in
    let byte = c.in-Some-first_byte.byte in
    let others = c.in-Some-first_byte.others.now in
    let old = c.loop-byte.bytes.items in
    let items = c.push_reserved.ensures.items in
    record {
      whole = pairs-front c.args.word.now old c.loop-byte.rest.now (pairs_text (byte ∷ [])) others (byte ∷ []) c.loop-byte.invariant.whole found.1 refl ∙ ap (λ bs. pairs_text bs ++ others) (sym items);
      bytes = subst AreBytes (sym items) (All-push (λ b. b < 256) old byte c.loop-byte.invariant.bytes found.0);
      room = (let two = ap length found.1 in omega (arith, two, c.push_reserved.ensures.len, c.push_reserved.ensures.capacity, c.loop-byte.invariant.room));
    }

pub returns-then-is_empty-clause-found : goal.returns-then-is_empty-clause-found
returns-then-is_empty-clause-found c = (c.loop-byte.invariant.bytes, pairs-end _ _ _ (grind (arith, nat_tests)) c.loop-byte.invariant.whole)

pub returns-else-is_empty-clause-fault : goal.returns-else-is_empty-clause-fault
returns-else-is_empty-clause-fault c = inr (refl, no_pair _ _ _ c.loop-byte.invariant.whole c.in_default-first_byte.ensures.none (grind (arith, nat_tests)))
