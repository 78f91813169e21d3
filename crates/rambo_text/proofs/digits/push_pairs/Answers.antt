use Rattle.std.proofs.Common.{◌≡◌, ◌+◌, [], ◌∷◌, ◌++◌, length, get_or, drop, append-nil, sym, ap, ◌∙◌, arith}
use Rattle.std.proofs.lemmas.List.{take-append-drop, drop_more, drop_all}
use Rattle.rambo_text.specs.Signs.{pairs_text}
use Rattle.rambo_text.proofs.Pairs.{pairs_on}
use Rattle.rambo_text.proofs.digits.push_pairs.Goals as goal

pub loop-sixteen-preserved : goal.loop-sixteen-preserved
loop-sixteen-preserved c =
    let rest = c.loop-sixteen.rest.now in
    let parts = c.in-Some.ensures.cases in
    let whole : rest ≡ c.in-Some.sixteen.now ++ c.in-Some.others.now = sym (take-append-drop 16 rest) ∙ (λ i. sym parts.0 i ++ sym parts.1 i) in
    record {
      items = pairs_on _ _ c.in-Some.sixteen.now rest c.in-Some.others.now _ c.push_sixteen.ensures.items whole c.loop-sixteen.invariant.items;
      room = omega (arith, parts.2, c.push_sixteen.ensures.len, c.push_sixteen.ensures.capacity, c.loop-sixteen.invariant.room);
      len = omega (arith, parts.2, c.push_sixteen.ensures.len, c.loop-sixteen.invariant.len);
      capacity = omega (arith, c.push_sixteen.ensures.capacity, c.loop-sixteen.invariant.capacity);
    }

pub push_sixteen-requires : goal.push_sixteen-requires
push_sixteen-requires c = let parts = c.in-Some.ensures.cases in omega (arith, parts.2, c.loop-sixteen.invariant.room)

pub loop-eight-preserved : goal.loop-eight-preserved
loop-eight-preserved c =
    let rest = c.loop-eight.rest.now in
    let parts = c.in-Some-split_first_chunk.ensures.cases in
    let whole : rest ≡ c.in-Some-split_first_chunk.eight.now ++ c.in-Some-split_first_chunk.others.now = sym (take-append-drop 8 rest) ∙ (λ i. sym parts.0 i ++ sym parts.1 i) in
    record {
      items = pairs_on _ _ c.in-Some-split_first_chunk.eight.now rest c.in-Some-split_first_chunk.others.now _ c.push_eight.ensures.items whole c.loop-eight.invariant.items;
      room = omega (arith, parts.2, c.push_eight.ensures.len, c.push_eight.ensures.capacity, c.loop-eight.invariant.room);
      len = omega (arith, parts.2, c.push_eight.ensures.len, c.loop-eight.invariant.len);
      capacity = omega (arith, c.push_eight.ensures.capacity, c.loop-eight.invariant.capacity);
    }

pub loop-byte-preserved : goal.loop-byte-preserved
loop-byte-preserved c =
    let rest = c.loop-eight.rest.now in
    let n = c.loop-byte.byte-index in
    let next = drop_more rest n 0 c.loop-byte-test.true in
    record {
      items = pairs_on _ _ (get_or rest n 0 ∷ []) (drop n rest) (drop (n + 1) rest) _ c.push_byte.ensures.items next c.loop-byte.invariant.items;
      room = (let long = ap length next in omega (arith, long, c.push_byte.ensures.len, c.push_byte.ensures.capacity, c.loop-byte.invariant.room));
      len = (let long = ap length next in omega (arith, long, c.push_byte.ensures.len, c.loop-byte.invariant.len));
      capacity = omega (arith, c.push_byte.ensures.capacity, c.loop-byte.invariant.capacity);
    }

pub push_eight-requires : goal.push_eight-requires
push_eight-requires c = let parts = c.in-Some-split_first_chunk.ensures.cases in omega (arith, parts.2, c.loop-eight.invariant.room)

pub loop-byte-init : goal.loop-byte-init
loop-byte-init c = c.loop-eight.invariant

pub push_byte-requires : goal.push_byte-requires
push_byte-requires c =
    let long = ap length (drop_more c.loop-eight.rest.now c.loop-byte.byte-index 0 c.loop-byte-test.true) in
    omega (arith, long, c.loop-byte.invariant.room)

pub returns-clause-items : goal.returns-clause-items
returns-clause-items c =
    let out = c.loop-byte.out.items in
    sym (append-nil out)
    ∙ ap (λ l. out ++ pairs_text l) (sym (drop_all c.loop-byte.byte-index c.loop-eight.rest.now c.loop-byte-test.false))
    ∙ c.loop-byte.invariant.items
