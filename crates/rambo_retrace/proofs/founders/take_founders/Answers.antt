use Rattle.std.proofs.Common.{◌≡◌, ap, ◌∙◌, ◌∷◌, ◌++◌}
use Rattle.std.proofs.lemmas.Result.{IfOk-at_ok, IfErr-at_err}
use Rattle.rambo_names.proofs.Errors.{err_kept}
use Rattle.rambo_atomic.specs.Unreads.{UnreadState}
use Rattle.rambo_text.specs.declared.fault.ScriptFault.{ScriptFault}
use Rattle.rambo_retrace.specs.Retraces.{FoundsNone}
use Rattle.rambo_retrace.proofs.Heads.{founders_fault, line_used}
use Rattle.rambo_retrace.proofs.founders.take_founders.Goals as goal

pub returns-in_err-founders-clause-fault : goal.returns-in_err-founders-clause-fault
returns-in_err-founders-clause-fault c =
    let found = c.in-Some.ensures.found in
    let bad = c.in_err-founders.ensures.fault in
    let faulty = founders_fault _ _ _ _ _ c.as_slice-held.ensures.held found.1 (IfErr-at_err _ bad.1 c.read_founders.ensures.fault) in
    err_kept c.from_residual.result (λ (g : ScriptFault). (g.line ≡ 2) × FoundsNone c.args.unread.now.held g.fault) _ c.from_residual.ensures.1 (bad.0, faulty)

pub returns-clause-founders : goal.returns-clause-founders
returns-clause-founders c =
    let found = c.in-Some.ensures.found in
    let told = IfOk-at_ok _ c.in_ok-founders.ensures.ok c.read_founders.ensures.found in
    (told.0, line_used _ _ _ _ _ _ c.as_slice-held.ensures.held found.1 found.2 (ap (λ (u : UnreadState). u.held) c.forget.ensures) ∙ ap (λ l. l ++ 10 ∷ c.forget.new.self.held) told.1)
