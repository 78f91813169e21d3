use Rattle.std.proofs.Common.{◌≡◌, ◌≤◌, ◌<◌, ℕ, zero, suc, List, [], ◌∷◌, ◌++◌, map, take, drop, length, ap, ◌∙◌, arith, refl, rules}
use Rattle.rambo_calls.specs.declared.open_call.OpenCall.{OpenCall}
use Rattle.rambo_calls.specs.Calls.{CallState}
use Rattle.rambo_calls.specs.Hearing.{heard_call}
use Rattle.rambo_calls.specs.Kept.{call_of, calls_of}
use Rattle.rambo_calls.proofs.CallLists.{roomy_at, roomy_rest, heard_more}
use Rattle.rambo_calls.proofs.open_calls.hear.Goals as goal

-- past the last one all have heard it
heard_all : {Q : Type 0} (h : CallState Q → CallState Q) (cs : List (OpenCall Q)) (i : ℕ) → length cs ≤ i → calls_of cs ≡ calls_of (take i cs) ++ map h (calls_of (drop i cs))
heard_all h [] zero past = refl
heard_all h [] (suc i) past = refl
heard_all h (c ∷ cs) zero past = absurd (omega (arith, past))
heard_all h (c ∷ cs) (suc i) past = ap (λ xs. call_of c ∷ xs) (heard_all h cs i (omega (arith, past)))

pub loop-call-preserved : goal.loop-call-preserved
loop-call-preserved g c =
    let below : c.loop-call.call-index < length c.loop-call.calls = omega (arith, c.loop-call-test.true, c.loop-call.auto.calls) in
    let before = c.loop-call.invariant in (
      heard_more (heard_call c.args.heard c.args.from c.args.map.now c.args.number c.args.merged.now c.args.me) c.loop-call.calls c.loop-call.call-index c.hear.new.self c.call-item.result below
          c.hear.ensures ∙ before.0,
      roomy_rest c.args.map.now c.loop-call.calls c.loop-call.call-index c.hear.new.self below before.1,
    )

pub loop-call-init : goal.loop-call-init
loop-call-init g c = (refl, c.requires)

pub hear-requires : goal.hear-requires
hear-requires g c =
    let below : c.loop-call.call-index < length c.loop-call.calls = omega (arith, c.loop-call-test.true, c.loop-call.auto.calls) in
    (c.requires-raw.1.0, (c.requires-raw.1.1.0, roomy_at c.args.map.now c.loop-call.calls c.loop-call.call-index c.call-item.result below c.loop-call.invariant.1))

pub returns : goal.returns
returns g c = heard_all (heard_call c.args.heard c.args.from c.args.map.now c.args.number c.args.merged.now c.args.me) c.loop-call.calls c.loop-call.call-index (omega (arith, c.loop-call-test.false, c.loop-call.auto.calls)) ∙ c.loop-call.invariant.0

pub offset_bounds-calls-call-index : goal.offset_bounds-calls-call-index
offset_bounds-calls-call-index g c = search rules
