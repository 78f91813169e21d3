use Rattle.std.proofs.lemmas.Grind.{common_steps}
use Rattle.std.proofs.Common.{ap, ◌∙◌, arith}
use Rattle.std.specs.List.{remove}
use Rattle.rambo_calls.specs.Kept.{calls_of}
use Rattle.rambo_calls.proofs.CallLists.{closed_at}
use Rattle.rambo_calls.proofs.open_calls.OpenCalls.close.Goals as goal

pub returns : goal.returns
returns g c = ap calls_of (c.remove.ensures.items ∙ ap (λ k. remove k.list c.args.place) c.self.view_is) ∙ closed_at c.args.self.now.list c.args.place

pub returns-then-place-len : goal.returns-then-place-len
returns-then-place-len g c = grind (arith, common_steps)

pub remove-requires : goal.remove-requires
remove-requires g c = omega arith
