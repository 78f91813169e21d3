use Rattle.rambo_atomic.proofs.wrapped.WrappedSource.read.Goals.{then-self-lt-READ_LIMIT+in_default, else-self-lt-READ_LIMIT}
use Rattle.std.proofs.Common.{Err, refl, sym, ap, subst, arith}
use Rattle.rambo_atomic.specs.Streams.{Answers}
use Rattle.rambo_atomic.proofs.wrapped.WrappedSource.read.Goals as goal

pub returns-clause-answer : goal.returns-clause-answer
returns-clause-answer g c = elim c.if-self-lt-READ_LIMIT.branch [
  | then-self-lt-READ_LIMIT+in_default w ↦ λ less.
      let answer = Err w.in_default.field-0 in
      let given = subst (λ i. Answers g.T.Reader.read_gives i answer w.read.new.inner) (ap (λ s. s.inner) c.self.view_is) w.in_default.ensures.answer in
      (answer, subst (λ i. Answers g.T.Reader.read_gives c.args.self.now.inner answer i) (sym (ap (λ s. s.inner) w.self-inside-is)) given, refl)
  | else-self-lt-READ_LIMIT w ↦ λ less. absurd (omega (arith, less, w.if-self-lt-READ_LIMIT.false, ap (λ s. s.reads) c.self.view_is))
]
