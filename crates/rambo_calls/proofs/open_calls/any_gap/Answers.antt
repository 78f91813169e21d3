use Rattle.rambo_names.proofs.Sizes.{up_fits, back_fits}
use Rattle.std.proofs.Common.{◌≡◌, ℕ, List, [], ◌∷◌, false, arith, refl, sym, ap, ◌∙◌, length}
use Rattle.rambo_config_map.specs.Maps.{MapState}
use Rattle.rambo_calls.specs.declared.open_call.OpenCall.{OpenCall}
use Rattle.rambo_calls.specs.Hearing.{any_gap}
use Rattle.rambo_calls.specs.Kept.{calls_of}
use Rattle.rambo_calls.proofs.open_calls.any_gap.Goals as goal

-- no call leaves no gap
no_gap : {Q : Type 0} (heard : ℕ) (m : MapState Q) (cs : List (OpenCall Q)) → length cs ≡ 0 → any_gap heard m (calls_of cs) ≡ false
no_gap heard m [] e = refl
no_gap heard m (c ∷ cs) e = absurd (omega (arith, e))

pub loop-call-init : goal.loop-call-init
loop-call-init g c = refl

pub would_hear-requires : goal.would_hear-requires
would_hear-requires g c = (back_fits _ _ _ (up_fits _ _ _ c.requires-raw.1.0), c.requires-raw.1.1)

pub loop-call-smaller : goal.loop-call-smaller
loop-call-smaller g c = omega (arith, ap length c.in-Some.ensures.cases.0)

pub returns : goal.returns
returns g c = sym (c.loop-call.invariant ∙ no_gap c.args.heard c.args.map.now c.loop-call.rest.now c.in_default.ensures.cases)

pub returns-then-eq : goal.returns-then-eq
returns-then-eq g c = grind arith

pub loop-call-preserved : goal.loop-call-preserved
loop-call-preserved g c = grind arith
