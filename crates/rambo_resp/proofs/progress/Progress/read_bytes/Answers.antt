use Rattle.std.proofs.Common.{◌++◌, ◌+◌, take, arith, sym, ap, ◌∙◌}
use Rattle.rambo_resp.specs.Streams.{place_of}
use Rattle.rambo_resp.specs.Progresses.{ProgressState}
use Rattle.rambo_resp.proofs.Runs.{some_bytes}
use Rattle.rambo_resp.proofs.progress.Progress.read_bytes.Goals as goal

pub returns-clause-ok : goal.returns-clause-ok
returns-clause-ok c =
    let v = c.args.self.now in
    let is = c.self.view_is in
    some_bytes v c.args.left c.args.more c.min-count.result c.args.bytes.now _ _ _ _ c.requires.awaited (omega (arith, c.min-count.ensures, c.from.ensures))
    (omega (arith, c.min-count.ensures, c.from.ensures, c.requires.more, c.requires.some)) (ap (λ (s : ProgressState). s.waiting) (sym is))
    (c.saturating_add-self-inside.ensures ∙ ap (λ (s : ProgressState). place_of (s.place + c.min-count.result)) is) (ap (λ (s : ProgressState). s.rest.items) (sym is))
    (c.in_ok-extend_from_slice.ensures.items ∙ ap (λ (s : ProgressState). s.rest.item ++ take c.min-count.result c.args.bytes.now) is)
