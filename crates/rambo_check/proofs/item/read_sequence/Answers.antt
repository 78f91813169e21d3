use Rattle.std.proofs.Common.{◌∷◌, codes, map, inl, inr, sym}
use Rattle.std.specs.Option.{option_copied}
use Rattle.std.proofs.lemmas.Result.{err_from_is_err_and}
use Rattle.rambo_text.specs.Forms.{Call}
use Rattle.rambo_text.specs.Signs.{call_text}
use Rattle.rambo_text.proofs.WordsThere.{more_has_words}
use Rattle.rambo_check.proofs.LineWords.{first_is_some}
use Rattle.rambo_check.proofs.LineFaults.{sequence_bad, sequence_bytes, row_bad}
use Rattle.rambo_check.proofs.item.read_sequence.Goals as goal

pub returns-in_err-key-clause-fault : goal.returns-in_err-key-clause-fault
returns-in_err-key-clause-fault c =
    let p = err_from_is_err_and c.from_residual.result c.from_residual.ensures.1 in
    let others = option_copied c.next_word.result.1 in
    let all = more_has_words others in
    rw (p.1, p.2)
    (elim c.in_err-key.ensures.fault [
      | inl h ↦ inl (h, sequence_bytes (option_copied c.args.more) c.next_word.result.0.now all.0 (first_is_some c.args.more c.in-Some.rest _ others all.0 c.in-Some.is c.next_word.ensures all.1))
      | inr h ↦
          sequence_bad (option_copied c.args.more) c.next_word.result.0.now all.0 _ (first_is_some c.args.more c.in-Some.rest _ others all.0 c.in-Some.is c.next_word.ensures all.1)
          (inl ((λ s. h.1 s.0 s.1 s.2), h.0))
    ])

pub returns-in_err-calls-clause-fault : goal.returns-in_err-calls-clause-fault
returns-in_err-calls-clause-fault c =
    let p = err_from_is_err_and c.from_residual-in_err-calls.result c.from_residual-in_err-calls.ensures.1 in
    let others = option_copied c.next_word.result.1 in
    let key = c.in_ok-key.ensures.found in
    rw (p.1, p.2)
    (elim c.in_err-calls.ensures.fault [
      | inl h ↦
          let ws = h.1 in
          inl (h.0, sequence_bytes (option_copied c.args.more) c.next_word.result.0.now ws.0 (first_is_some c.args.more c.in-Some.rest _ others ws.0 c.in-Some.is c.next_word.ensures ws.1))
      | inr bad ↦
          let h = row_bad Call others _ bad (λ e. cc) in
          sequence_bad (option_copied c.args.more) c.next_word.result.0.now h.0 _ (first_is_some c.args.more c.in-Some.rest _ others h.0 c.in-Some.is c.next_word.ensures h.1)
          (inr ((c.in_ok-key.key, key.0, key.1), h.2))
    ])

pub returns-clause-spelt : goal.returns-clause-spelt
returns-clause-spelt c =
    let others = option_copied c.next_word.result.1 in
    let key = c.in_ok-key.ensures.found in
    let calls = c.in_ok-calls.ensures.calls in
    let spelt = sym key.1 in (
      (key.0, calls.0),
      c.next_word.result.0.now ∷ map call_text c.in_ok-calls.calls.items,
      first_is_some c.args.more c.in-Some.rest _ others (map call_text c.in_ok-calls.calls.items) c.in-Some.is c.next_word.ensures calls.1,
      λ i. codes "sequence" ∷ spelt i ∷ map call_text c.in_ok-calls.calls.items,
    )
