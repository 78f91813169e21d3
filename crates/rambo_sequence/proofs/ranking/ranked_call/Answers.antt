use Rattle.std.proofs.Common.{◌≡◌, length, slice_get, Some, option_map, refl, sym, ap, ◌∙◌}
use Rattle.std.proofs.lemmas.Option.{slice_get_read}
use Rattle.rambo_history.specs.declared.event.Event.TheVariants as event
use Rattle.rambo_history.specs.Calls.{key_of}
use Rattle.rambo_sequence.specs.Marks.{mark_of}
use Rattle.rambo_sequence.specs.RankedCalls.{ranked}
use Rattle.rambo_sequence.proofs.PlacedMarks.{sort_key-there}
use Rattle.rambo_sequence.proofs.ranking.ranked_call.Goals as goal

pub returns-in-Call-clause-call : goal.returns-in-Call-clause-call
returns-in-Call-clause-call c =
    let es = c.args.history.now.events in
    let mark = c.args.mark.now in
    let found = c.in_ok-id.ensures.lookup in
    let there : slice_get es mark.place ≡ Some (event.Call c.in-Call.id c.in-Call.op) =
    ap (λ es. slice_get es mark.place) (sym c.events.ensures.events)
    ∙ slice_get_read c.events.result.now (length c.events.result.now) mark.place c.in_ok-id.field-0.now refl found.3.0 found.1 ∙ ap Some c.in-Call.is in
    (λ i. Some (record { sort_key = (c.sort_key.ensures ∙ sort_key-there es mark c.in-Call.id c.in-Call.op c.events.ensures.well_formed.calls_once there) i; id = c.in-Call.id }))
    ∙ sym (ap (λ e. option_map (ranked es) (mark_of es e mark.tag)) there)

pub returns-in-Answer-clause-key : goal.returns-in-Answer-clause-key
returns-in-Answer-clause-key c =
    let es = c.args.history.now.events in
    let mark = c.args.mark.now in
    let found = c.in_ok-id.ensures.lookup in
    let there : slice_get es mark.place ≡ Some (event.Answer c.in-Answer.field-0 c.in-Answer.field-1) =
    ap (λ es. slice_get es mark.place) (sym c.events.ensures.events)
    ∙ slice_get_read c.events.result.now (length c.events.result.now) mark.place c.in_ok-id.field-0.now refl found.3.0 found.1 ∙ ap Some c.in-Answer.is in
    sym (ap (λ e. option_map (λ m. key_of m.op) (mark_of es e mark.tag)) there)

pub returns-in-Answer-clause-call : goal.returns-in-Answer-clause-call
returns-in-Answer-clause-call c =
    let es = c.args.history.now.events in
    let mark = c.args.mark.now in
    let found = c.in_ok-id.ensures.lookup in
    let there : slice_get es mark.place ≡ Some (event.Answer c.in-Answer.field-0 c.in-Answer.field-1) =
    ap (λ es. slice_get es mark.place) (sym c.events.ensures.events)
    ∙ slice_get_read c.events.result.now (length c.events.result.now) mark.place c.in_ok-id.field-0.now refl found.3.0 found.1 ∙ ap Some c.in-Answer.is in
    sym (ap (λ e. option_map (ranked es) (mark_of es e mark.tag)) there)
