use Rattle.std.proofs.Common.{◌∷◌, ◌++◌, map, inl, inr, refl}
use Rattle.std.specs.Option.{option_copied}
use Rattle.rambo_names.proofs.Errors.{err_kept}
use Rattle.rambo_text.specs.Signs.{call_text}
use Rattle.rambo_text.proofs.WordsThere.{more_has_words}
use Rattle.rambo_check.proofs.Rows.{row_end, row_on, call_fault, begin_with_call, calls_spelt}
use Rattle.rambo_check.proofs.operands.read_calls.Goals as goal

pub returns-in_default-next_call-clause-fault : goal.returns-in_default-next_call-clause-fault
returns-in_default-next_call-clause-fault c =
    inr
    (call_fault (map call_text c.loop-more.calls.items) (option_copied c.args.more) c.loop-more.more c.in-Some.rest c.in-Some.is
    (calls_spelt c.loop-more.calls.items c.loop-more.invariant.calls) c.in_default-next_call.ensures.none c.loop-more.invariant.words)

pub returns-in_err-push-clause-fault : goal.returns-in_err-push-clause-fault
returns-in_err-push-clause-fault c =
    let words = map call_text c.loop-more.calls.items in
    let id = c.in-Some-next_call.id in
    let behind = more_has_words (option_copied c.in-Some-next_call.others) in
    let found = c.in-Some-next_call.ensures.found in
    err_kept c.from_residual.result _ _ c.from_residual.ensures.1
    (inl (
      refl,
      (
        words ++ call_text id ∷ behind.0,
        row_on words (option_copied c.args.more) c.loop-more.more c.in-Some.rest (call_text id) (call_text id) (option_copied c.in-Some-next_call.others) c.in-Some.is found.1 refl
            c.loop-more.invariant.words behind.0 behind.1,
        begin_with_call words (call_text id) behind.0 (calls_spelt c.loop-more.calls.items c.loop-more.invariant.calls) (id, found.0, refl),
      ),
    ))

pub returns-clause-calls : goal.returns-clause-calls
returns-clause-calls c = (
  c.loop-more.invariant.calls,
  row_end (map call_text c.loop-more.calls.items) (option_copied c.args.more) c.loop-more.more c.in_default.is c.loop-more.invariant.words,
)
