use Rattle.std.proofs.lemmas.Grind.{common_steps}
use Rattle.std.proofs.Common.{◌≡◌, length, sym, ap, subst, arith, rules, ◌∙◌}
use Rattle.std.proofs.lemmas.Bool.Decides.{nat_tests}
use Rattle.std.proofs.lemmas.Result.{IfOk-at_ok, IfErr-at_err}
use Rattle.rambo_lines.specs.declared.place.Place.{Place}
use Rattle.rambo_lines.specs.Faults.{TellsBytesOrStep}
use Rattle.rambo_lines.specs.Places.{place_of}
use Rattle.rambo_lines.proofs.LineByLine.{Reads, nothing, reads-first, reads-next, reads-all, first_in_whole, later_in_whole}
use Rattle.rambo_lines.proofs.Placing.{few_heads, place_next, place_pushed}
use Rattle.rambo_lines.proofs.script.read_behind.Goals as goal

pub returns-in_err-founders-clause-fault : goal.returns-in_err-founders-clause-fault
returns-in_err-founders-clause-fault c =
    search (
      rules,
      first_in_whole TellsBytesOrStep c.args.version _ _ _ c.first-place.result c.in_err-founders.field-0.0 c.next_line.ensures c.first-place.ensures c.in_err-founders.ensures.fault.0
          (IfErr-at_err _ c.in_err-founders.ensures.fault.1 c.read_founders.ensures.fault),
    )

pub returns-in_err-at_line-clause-fault : goal.returns-in_err-at_line-clause-fault
returns-in_err-at_line-clause-fault c =
    search (
      rules,
      later_in_whole TellsBytesOrStep c.args.version _ _ _ _ _ _ c.next-place.result c.in_err-at_line.field-0.0 c.loop-rest.invariant.reads
          (λ none. let z : length c.loop-rest.rest.now ≡ 0 = ap length none in grind (arith, nat_tests)) c.next_line-in-loop-rest.ensures
          (place_next c.args.version _ _ _ c.loop-rest.invariant.place c.next-place.ensures) c.in_err-at_line.ensures.fault.0
          (IfErr-at_err _ c.in_err-at_line.ensures.fault.1 c.push_step.ensures.fault),
    )

pub loop-rest-preserved : goal.loop-rest-preserved
loop-rest-preserved c =
    let push = IfOk-at_ok _ c.in_ok-at_line.ensures.ok c.push_step.ensures.ok in
    record {
      reads = reads-next _ _ _ _ _ _ _ c.loop-rest.invariant.reads (λ none. let z : length c.loop-rest.rest.now ≡ 0 = ap length none in grind (arith, nat_tests))
          c.next_line-in-loop-rest.ensures push;
      place = place_pushed c.args.version _ _ _ _ (place_next c.args.version _ _ _ c.loop-rest.invariant.place c.next-place.ensures) push;
    }

pub loop-rest-init : goal.loop-rest-init
loop-rest-init c =
    let found = IfOk-at_ok _ c.in_ok-founders.ensures.ok c.read_founders.ensures.found in
    let none = sym c.new-steps.ensures.items in
    record {
      reads = subst (λ ss. Reads c.args.text.now c.in_ok-founders.founders ss c.next_line.result.1.now) none (reads-first _ _ _ _ c.next_line.ensures found.0 found.1);
      place = c.first-place.ensures ∙ ap (λ ss. place_of c.args.version (length ss)) none;
    }

pub next-place-requires-clause-line : goal.next-place-requires-clause-line
next-place-requires-clause-line c =
    let at = ap (λ (p : Place). p.line) c.loop-rest.invariant.place in
    omega (arith, at, few_heads c.args.version, c.loop-rest.steps.ok.0)

pub next-place-requires-clause-step : goal.next-place-requires-clause-step
next-place-requires-clause-step c =
    let at = ap (λ (p : Place). p.step) c.loop-rest.invariant.place in
    omega (arith, at, c.loop-rest.steps.ok.0)

pub returns-clause-script : goal.returns-clause-script
returns-clause-script c = reads-all _ _ _ _ c.loop-rest.invariant.reads (nothing _ (grind (arith, nat_tests)))

pub loop-rest-smaller : goal.loop-rest-smaller
loop-rest-smaller c = grind (arith, common_steps)
