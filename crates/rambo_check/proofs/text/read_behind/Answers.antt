use Rattle.std.proofs.Common.{◌≡◌, ◌≢◌, ◌⊎◌, inl, inr, ℕ, ◌+◌, Result, Ok, Err, arith, refl, sym, ap, subst, ◌∙◌}
use Rattle.std.specs.Bool.{MatchBool}
use Rattle.std.specs.Result.{IsErrAnd, IfErr}
use Rattle.rambo_atomic.specs.Streams.{counted}
use Rattle.rambo_atomic.specs.declared.whole.StreamFault.{StreamFault}
use Rattle.rambo_atomic.specs.declared.whole.StreamFault.TheVariants as stream
use Rattle.rambo_atomic.specs.Unreads.{HoldsLine, IsDone}
use Rattle.rambo_text.specs.declared.fault.ScriptFault.{ScriptFault}
use Rattle.rambo_text.specs.declared.fault.ReplayFault.{ReplayFault}
use Rattle.rambo_text.specs.declared.fault.ReplayFault.TheVariants as fault
use Rattle.rambo_text.specs.Faults.{of_stream}
use Rattle.rambo_check.proofs.TextSteps.{ReadSoFar, read_start, read_more, read_on, read_end, read_fault, lines_so_far}
use Rattle.rambo_check.proofs.text.read_behind.Goals as goal

pub loop-line-init : goal.loop-line-init
loop-line-init g c = record {
  read = subst (ReadSoFar c.args.version c.args.unread.now _ _ c.args.evidence.now c.args.unread.now) (sym c.head_lines-line.ensures) (read_start c.args.version _ c.args.evidence.now c.args.unread.now c.requires.none);
  knows = c.requires.knows;
  fine = refl;
}

pub take_first-requires : goal.take_first-requires
take_first-requires g c =
    let same = lines_so_far _ _ _ _ c.loop-line.evidence c.loop-line.unread c.loop-line.line c.loop-line.invariant.read in record { fits = grind (arith, same, c.if-line.false, c.loop-line.auto.line-fits) }

pub returns-in-Err-clause-script : goal.returns-in-Err-clause-script
returns-in-Err-clause-script g c =
    let found = c.in_ok-find_line.ensures in
    let u = c.find_line.new.self in
    let now = read_more _ _ _ _ (g.R.Source.left c.find_line.new.reader) c.loop-line.evidence c.loop-line.unread u c.loop-line.line c.loop-line.invariant.read found.bytes found.ended in
    let holds : HoldsLine u = subst (λ b. MatchBool b (HoldsLine u) (IsDone u)) c.if-branch.true found.line in
    let bad = c.in-Err.ensures.fault in
    let told = read_fault _ _ _ _ c.loop-line.evidence u c.loop-line.line bad.0 bad.1 c.in-Err.fault now holds found.knows bad.2 bad.3 in
    λ f is.
    let this : ScriptFault = record { fault = c.in-Err.fault; line = c.loop-line.line + 1 } in
    let same : f ≡ this = cc in (told.0, told.1, told.2, told.3, same ∙ told.4, c.in_ok-read_rest.ensures.end)

pub loop-line-preserved : goal.loop-line-preserved
loop-line-preserved g c =
    let found = c.in_ok-find_line.ensures in
    let u = c.find_line.new.self in
    let now = read_more _ _ _ _ (g.R.Source.left c.find_line.new.reader) c.loop-line.evidence c.loop-line.unread u c.loop-line.line c.loop-line.invariant.read found.bytes found.ended in
    let holds : HoldsLine u = subst (λ b. MatchBool b (HoldsLine u) (IsDone u)) c.if-branch.true found.line in
    let taken = c.in_default.ensures in
    record {
      read = read_on _ _ _ _ c.loop-line.evidence c.take_first.new.evidence u c.take_first.new.unread c.loop-line.line now holds taken.taken taken.ended;
      knows = λ e. found.knows (sym taken.ended ∙ e);
      fine = found.fine ∙ c.loop-line.invariant.fine;
    }

pub returns-clause-told : goal.returns-clause-told
returns-clause-told g c =
    let found = c.in_ok-find_line.ensures in
    let u = c.find_line.new.self in
    let now = read_more _ _ _ _ (g.R.Source.left c.find_line.new.reader) c.loop-line.evidence c.loop-line.unread u c.loop-line.line c.loop-line.invariant.read found.bytes found.ended in
    let done : IsDone u = subst (λ b. MatchBool b (HoldsLine u) (IsDone u)) c.if-branch.false found.line in
    read_end _ _ _ _ c.loop-line.evidence u c.loop-line.line now done found.knows

-- a source that is read in vain for want of memory has failed as often as before
kept : {X : Type 0} (r : Result X ReplayFault) (f : StreamFault) (now before first : ℕ) → IsErrAnd r (λ told. told ≡ of_stream f)
    → ((f ≡ stream.Read) × (now ≡ counted before)) ⊎ ((f ≡ stream.Memory) × (now ≡ before)) → before ≡ first
    → IfErr r (λ told. told ≢ fault.Read → now ≡ first)
kept (Ok x) f now before first is why same = absurd is
kept (Err told) f now before first is why same =
    λ other. elim why [
      | inl read ↦ absurd (other (is ∙ ap of_stream read.0))
      | inr none ↦ none.1 ∙ same
    ]

pub returns-in_err-read_rest-clause-other : goal.returns-in_err-read_rest-clause-other
returns-in_err-read_rest-clause-other g c =
    kept c.from_residual-in_err-read_rest.result c.in_err-read_rest.field-0.0 _ _ _ c.from_residual-in_err-read_rest.ensures.1 c.in_err-read_rest.ensures.fault
    (c.in_ok-find_line.ensures.fine ∙ c.loop-line.invariant.fine)
