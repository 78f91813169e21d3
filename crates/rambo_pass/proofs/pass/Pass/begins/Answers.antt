use Rattle.std.proofs.Common.{ap, subst}
use mathlib.Core.List.{IsPrefix}
use Rattle.rambo_pass.specs.Passes.{PassView}
use Rattle.rambo_pass.proofs.pass.Pass.begins.Goals as goal

pub returns-clause-begins : goal.returns-clause-begins
returns-clause-begins g c = subst (λ l. IsPrefix l c.args.book.now.steps) (ap (λ (v : PassView _). v.seen) c.self.view_is) c.begun.ensures.begins
