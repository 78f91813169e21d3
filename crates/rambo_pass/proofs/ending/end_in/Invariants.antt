use Rattle.std.proofs.Common.{◌≡◌, ◌++◌, All}
use mathlib.Core.List.{IsPrefix}
use Rattle.rambo_pass.proofs.ending.end_in.Given as goal

abbrev pub invariant-loop-pass : goal.invariant-loop-pass
invariant-loop-pass g l = record {
  same : l.book ≡ l.fn.book;
  rest : l.yielded ++ l.pass-iterator.rest.items ≡ l.fn.passes.items;
  begins : All (λ p. IsPrefix p.seen l.fn.book.steps) l.yielded;
}
