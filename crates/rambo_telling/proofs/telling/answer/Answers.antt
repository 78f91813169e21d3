use Rattle.std.proofs.Common.{inl}
use Rattle.rambo_telling.proofs.Untouched.{takes_nothing}
use Rattle.rambo_telling.proofs.telling.answer.Goals as goal

pub returns-in_default-format-clause-ends : goal.returns-in_default-format-clause-ends
returns-in_default-format-clause-ends g c = inl (record {
  status_is = c.tell-in_default-format.ensures.status;
  unwritten = takes_nothing g.W.Sink.taken g.W.Sink.failures c.args.writer.now;
  line = c.tell-in_default-format.ensures.line;
})

pub returns-in_default-format-clause-memory : goal.returns-in_default-format-clause-memory
returns-in_default-format-clause-memory g c _ = record {
  status_is = c.tell-in_default-format.ensures.status;
  unwritten = takes_nothing g.W.Sink.taken g.W.Sink.failures c.args.writer.now;
  line = c.tell-in_default-format.ensures.line;
}

pub returns-in-OutOfMemory-clause-ends : goal.returns-in-OutOfMemory-clause-ends
returns-in-OutOfMemory-clause-ends g c = inl (record {
  status_is = c.tell.ensures.status;
  unwritten = takes_nothing g.W.Sink.taken g.W.Sink.failures c.args.writer.now;
  line = c.tell.ensures.line;
})

pub returns-in-OutOfMemory-clause-memory : goal.returns-in-OutOfMemory-clause-memory
returns-in-OutOfMemory-clause-memory g c _ = record {
  status_is = c.tell.ensures.status;
  unwritten = takes_nothing g.W.Sink.taken g.W.Sink.failures c.args.writer.now;
  line = c.tell.ensures.line;
}
