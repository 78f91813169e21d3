use Rattle.std.proofs.Common.{◌≡◌, ◌≢◌, ℕ, List, ◌⊎◌, Result, Ok, Err, IfErr, ap, ◌∙◌, inl, inr}
use Rattle.std.specs.Str.{bytes_eq}
use Rattle.std.proofs.lemmas.Result.{err_from_is_err_and}
use Rattle.rambo_text.specs.declared.fault.Fault.{Fault}
use Rattle.rambo_text.specs.declared.fault.Fault.TheVariants.{OutOfMemory, BadHex}
use Rattle.rambo_text.specs.Signs.{pairs_text, hex_text, AreBytes}
use Rattle.rambo_text.proofs.Pairs.{no_hex}
use Rattle.rambo_text.proofs.reading.read_hex.Goals as goal

-- what spells no bytes by pairs, and isn't a dash, spells none
none : (word : List ℕ) (r : Result (List ℕ) Fault) → ((bs : List ℕ) → (word ≡ pairs_text bs → ⊥) → word ≡ hex_text bs → ⊥)
    → IfErr r (λ f. (f ≡ BadHex) × ((bs : List ℕ) → AreBytes bs → word ≢ pairs_text bs))
    → IfErr r (λ f. (f ≡ OutOfMemory) ⊎ ((f ≡ BadHex) × ((bs : List ℕ) → AreBytes bs → word ≢ hex_text bs)))
none word (Ok bytes) other fault = tt
none word (Err f) other fault = inr (fault.0, λ bs bytes e. other bs (fault.1 bs bytes) e)

pub returns-then-word-clause-fault : goal.returns-then-word-clause-fault
returns-then-word-clause-fault c =
    none c.args.word.now c.read_short.result
    (λ bs h e. no_hex c.args.word.now bs (c.if-eq.ensures ∙ ap (bytes_eq c.args.word.now) c.as_slice.ensures) h e) c.read_short.ensures.fault

pub returns-in_err-read_pairs-clause-fault : goal.returns-in_err-read_pairs-clause-fault
returns-in_err-read_pairs-clause-fault c =
    let p = err_from_is_err_and c.from_residual.result c.from_residual.ensures.1 in
    rw (p.1, p.2)
    (elim c.in_err-read_pairs.ensures.fault [
      | inl h ↦ inl h
      | inr h ↦ inr (h.0, λ bs bytes e. no_hex c.args.word.now bs (c.if-eq.ensures ∙ ap (bytes_eq c.args.word.now) c.as_slice.ensures) (h.1 bs bytes) e)
    ])
