use Rattle.std.proofs.lemmas.Grind.{elements}
use Rattle.rambo_names.proofs.Sizes.{up_fits, back_fits}
use Rattle.std.proofs.Common.{sym, ap, ◌∙◌, arith}
use Rattle.std.proofs.lemmas.Bool.{false≢true}
use Rattle.rambo_phase.specs.Phases.{PhaseState}
use Rattle.rambo_calls.specs.Calls.{CallState}
use Rattle.rambo_calls.specs.declared.open_call.OpenCall.{OpenCall}
use Rattle.rambo_calls.proofs.CallLists.{phase_restarts, phase_counts, phase_stays}
use Rattle.rambo_calls.proofs.open_call.OpenCall.hear.Goals as goal

abbrev in_phase : {Q : Type 0} → OpenCall Q → PhaseState Q → CallState Q
in_phase c p = record { number = c.number; op = c.op; stage = c.stage; phase = p }

pub returns-in-Ok-Restart : goal.returns-in-Ok-Restart
returns-in-Ok-Restart g c =
    ap (in_phase c.args.self.now) (c.begin.ensures.state ∙ sym (phase_restarts c.args.heard c.args.from c.args.map.now c.args.number c.args.merged.now c.args.me c.args.self.now.phase.state
    (sym c.in-Ok-Restart.ensures.answer ∙ c.in-Ok-Restart.field-0-is)))

pub returns-in-Ok-Counted : goal.returns-in-Ok-Counted
returns-in-Ok-Counted g c =
    ap (in_phase c.args.self.now) (c.in-Ok-Counted.ensures.ok ∙ sym (phase_counts c.args.heard c.args.from c.args.map.now c.args.number c.args.merged.now c.args.me c.args.self.now.phase.state
    (sym c.in-Ok-Counted.ensures.answer ∙ c.in-Ok-Counted.field-0-is)))

pub returns-in-Ok-Old : goal.returns-in-Ok-Old
returns-in-Ok-Old g c =
    ap (in_phase c.args.self.now) (c.in-Ok-Old.ensures.ok ∙ sym (phase_stays c.args.heard c.args.from c.args.map.now c.args.number c.args.merged.now c.args.me c.args.self.now.phase.state
    (sym c.in-Ok-Old.ensures.answer ∙ c.in-Ok-Old.field-0-is)))

pub hear-requires : goal.hear-requires
hear-requires g c = (back_fits _ _ _ (up_fits _ _ _ c.requires-raw.1.0), c.requires-raw.1.1.0)

pub unreachable-unreachable : goal.unreachable-unreachable
unreachable-unreachable g c = false≢true (c.in-Err.ensures.succeeds c.requires)

pub begin-requires : goal.begin-requires
begin-requires g c = omega arith

pub unreachable-requires : goal.unreachable-requires
unreachable-requires g c = grind (arith, elements)
