use Rattle.rambo_names.proofs.Sizes.{up_fits, back_fits}
use Rattle.std.proofs.Common.{◌≤◌, ◌<◌, length, get_or, sym, ap, ◌∙◌, subst, arith, refl, rules}
use Rattle.std.proofs.Math.Seq.{map-set_same}
use Rattle.std.proofs.lemmas.Bool.{false≢true}
use Rattle.rambo_phase.specs.Phases.{PhaseState, needed}
use Rattle.rambo_calls.specs.declared.open_call.OpenCall.{OpenCall}
use Rattle.rambo_calls.specs.Calls.{CallState}
use Rattle.rambo_calls.specs.Kept.{call_of, IsRoomy}
use Rattle.rambo_calls.proofs.CallLists.{roomy_more, roomy_at, roomy_rest}
use Rattle.std.proofs.lemmas.List.{take_all}
use Rattle.rambo_calls.proofs.open_calls.make_room.Goals as goal

abbrev in_phase : {Q : Type 0} → OpenCall Q → PhaseState Q → CallState Q
in_phase c p = record { number = c.number; op = c.op; stage = c.stage; phase = p }

pub returns-in_err-reserve-clause-same : goal.returns-in_err-reserve-clause-same
returns-in_err-reserve-clause-same g c =
    map-set_same call_of c.loop-call.calls c.loop-call.call-index _ c.call-item.result (ap (in_phase (get_or c.loop-call.calls c.loop-call.call-index c.call-item.result)) c.reserve.ensures.state) ∙ c.loop-call.invariant.0

pub returns-in_err-reserve-clause-succeeds : goal.returns-in_err-reserve-clause-succeeds
returns-in_err-reserve-clause-succeeds g c = λ room.
    let below : c.loop-call.call-index < length c.loop-call.calls = omega (arith, c.loop-call-test.true, c.loop-call.auto.calls) in
    absurd (false≢true (c.in_err-reserve.ensures.succeeds (roomy_at c.args.map.now c.loop-call.calls c.loop-call.call-index c.call-item.result below (c.loop-call.invariant.2 room))))

pub loop-call-preserved : goal.loop-call-preserved
loop-call-preserved g c =
    let below : c.loop-call.call-index < length c.loop-call.calls = omega (arith, c.loop-call-test.true, c.loop-call.auto.calls) in (
      map-set_same call_of c.loop-call.calls c.loop-call.call-index _ c.call-item.result (ap (in_phase (get_or c.loop-call.calls c.loop-call.call-index c.call-item.result)) c.reserve.ensures.state) ∙ c.loop-call.invariant.0,
      roomy_more c.args.map.now c.loop-call.calls c.loop-call.call-index _ below
          (subst (λ p. needed p c.args.map.now ≤ c.reserve.new.self.capacity) (sym c.reserve.ensures.state) c.in_ok-reserve.ensures.ok) c.loop-call.invariant.1,
      λ room. roomy_rest c.args.map.now c.loop-call.calls c.loop-call.call-index _ below (c.loop-call.invariant.2 room),
    )

pub reserve-requires : goal.reserve-requires
reserve-requires g c = (back_fits _ _ _ (up_fits _ _ _ c.requires-raw.1.0), c.requires-raw.1.1)

pub returns : goal.returns
returns g c = record {
  same = c.loop-call.invariant.0;
  ok = subst (IsRoomy c.args.map.now) (take_all c.loop-call.call-index c.loop-call.calls (omega (arith, c.loop-call-test.false, c.loop-call.auto.calls))) c.loop-call.invariant.1;
  succeeds = λ room. refl;
  refused = _;
}

pub loop-call-init : goal.loop-call-init
loop-call-init g c = (refl, _, λ room. room)

pub loop-call-smaller : goal.loop-call-smaller
loop-call-smaller g c = omega (arith, c.loop-call-test.true)

pub offset_bounds-calls-call-index : goal.offset_bounds-calls-call-index
offset_bounds-calls-call-index g c = search rules
