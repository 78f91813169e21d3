use Rattle.std.proofs.Common.{codes, inl, inr, map, refl, subst}
use Rattle.rambo_text.specs.declared.fault.ReplayFault.TheVariants.{Memory}
use Rattle.rambo_telling.specs.Telling.{stream}
use Rattle.rambo_main.proofs.Answered.{answered, ends_by}
use Rattle.rambo_command_line.proofs.Asked.{faultless_memory, not_both, task_faultless, task_named}
use Rattle.rambo_command_line.specs.Lines.{Asks}
use Rattle.rambo_command_line.specs.declared.line.Task.TheVariants.{Replay}
use Rattle.rambo_main.proofs.command.command.Goals as goal

pub returns-in-Err-clause-replay : goal.returns-in-Err-clause-replay
returns-in-Err-clause-replay g c = λ asks.
    let ended = ends_by _ (stream g.R.Source.left g.R.Source.failures c.args.reader.now c.args.reader.now) _ _ refl
    (c.shown.ensures.memory (faultless_memory (map g.S.AsStr.text c.args.words.now) c.in-Err.error (task_faultless (map g.S.AsStr.text c.args.words.now) Replay asks) c.in-Err.ensures.other)) in
    inr (Memory, ended.0, ended.1)

pub returns-in-Err-clause-check : goal.returns-in-Err-clause-check
returns-in-Err-clause-check g c = λ asks.
    inl (ends_by _ (stream g.R.Source.left g.R.Source.failures c.args.reader.now c.args.reader.now) _ _ refl
    (c.shown.ensures.memory (faultless_memory (map g.S.AsStr.text c.args.words.now) c.in-Err.error asks.0 c.in-Err.ensures.other)))

pub returns-in-Err-clause-other : goal.returns-in-Err-clause-other
returns-in-Err-clause-other g c = λ unasked. (answered _ c.in-Err.error _ _ _ c.in-Err.ensures.other c.shown.ensures.memory c.shown.ensures.ends, refl)

pub returns-in-Err-clause-local : goal.returns-in-Err-clause-local
returns-in-Err-clause-local g c = λ asks.
    inl (ends_by _ (stream g.R.Source.left g.R.Source.failures c.args.reader.now c.args.reader.now) _ _ refl
    (c.shown.ensures.memory (faultless_memory (map g.S.AsStr.text c.args.words.now) c.in-Err.error asks.0 c.in-Err.ensures.other)))

pub returns-in-Err-clause-serve : goal.returns-in-Err-clause-serve
returns-in-Err-clause-serve g c = λ asks.
    (inl (c.shown.ensures.memory (faultless_memory (map g.S.AsStr.text c.args.words.now) c.in-Err.error asks.0 c.in-Err.ensures.other), c.shown.ensures.untraced), refl)

pub returns-in-Ok-Replay-clause-local : goal.returns-in-Ok-Replay-clause-local
returns-in-Ok-Replay-clause-local g c = λ asks. absurd (not_both (map g.S.AsStr.text c.args.words.now) (codes "replay") (codes "local") refl (task_named (map g.S.AsStr.text c.args.words.now) Replay (subst (Asks (map g.S.AsStr.text c.args.words.now)) c.in-Ok-Replay.field-0-is c.in-Ok-Replay.ensures.task)) asks.1)

pub returns-in-Ok-Replay-clause-serve : goal.returns-in-Ok-Replay-clause-serve
returns-in-Ok-Replay-clause-serve g c = λ asks. absurd (not_both (map g.S.AsStr.text c.args.words.now) (codes "replay") (codes "serve") refl (task_named (map g.S.AsStr.text c.args.words.now) Replay (subst (Asks (map g.S.AsStr.text c.args.words.now)) c.in-Ok-Replay.field-0-is c.in-Ok-Replay.ensures.task)) asks.1)

pub returns-in-Ok-Replay-clause-check : goal.returns-in-Ok-Replay-clause-check
returns-in-Ok-Replay-clause-check g c = λ asks. absurd (not_both (map g.S.AsStr.text c.args.words.now) (codes "replay") (codes "check") refl (task_named (map g.S.AsStr.text c.args.words.now) Replay (subst (Asks (map g.S.AsStr.text c.args.words.now)) c.in-Ok-Replay.field-0-is c.in-Ok-Replay.ensures.task)) asks.1)

pub returns-in-Ok-Check-clause-replay : goal.returns-in-Ok-Check-clause-replay
returns-in-Ok-Check-clause-replay g c = λ asks. absurd (not_both (map g.S.AsStr.text c.args.words.now) (codes "check") (codes "replay") refl (subst (Asks (map g.S.AsStr.text c.args.words.now)) c.in-Ok-Check.field-0-is c.in-Ok-Check.ensures.task).0.1 (task_named (map g.S.AsStr.text c.args.words.now) Replay asks))

pub returns-in-Ok-Check-clause-local : goal.returns-in-Ok-Check-clause-local
returns-in-Ok-Check-clause-local g c = λ asks. absurd (not_both (map g.S.AsStr.text c.args.words.now) (codes "check") (codes "local") refl (subst (Asks (map g.S.AsStr.text c.args.words.now)) c.in-Ok-Check.field-0-is c.in-Ok-Check.ensures.task).0.1 asks.1)

pub returns-in-Ok-Check-clause-serve : goal.returns-in-Ok-Check-clause-serve
returns-in-Ok-Check-clause-serve g c = λ asks. absurd (not_both (map g.S.AsStr.text c.args.words.now) (codes "check") (codes "serve") refl (subst (Asks (map g.S.AsStr.text c.args.words.now)) c.in-Ok-Check.field-0-is c.in-Ok-Check.ensures.task).0.1 asks.1)

pub returns-in-Ok-Local-Some-clause-replay : goal.returns-in-Ok-Local-Some-clause-replay
returns-in-Ok-Local-Some-clause-replay g c = λ asks. absurd (not_both (map g.S.AsStr.text c.args.words.now) (codes "local") (codes "replay") refl (subst (Asks (map g.S.AsStr.text c.args.words.now)) c.in-Ok-Local-Some.field-0-is c.in-Ok-Local-Some.ensures.task).0.1 (task_named (map g.S.AsStr.text c.args.words.now) Replay asks))

pub returns-in-Ok-Local-Some-clause-check : goal.returns-in-Ok-Local-Some-clause-check
returns-in-Ok-Local-Some-clause-check g c = λ asks. absurd (not_both (map g.S.AsStr.text c.args.words.now) (codes "local") (codes "check") refl (subst (Asks (map g.S.AsStr.text c.args.words.now)) c.in-Ok-Local-Some.field-0-is c.in-Ok-Local-Some.ensures.task).0.1 asks.1)

pub returns-in-Ok-Local-Some-clause-serve : goal.returns-in-Ok-Local-Some-clause-serve
returns-in-Ok-Local-Some-clause-serve g c = λ asks. absurd (not_both (map g.S.AsStr.text c.args.words.now) (codes "local") (codes "serve") refl (subst (Asks (map g.S.AsStr.text c.args.words.now)) c.in-Ok-Local-Some.field-0-is c.in-Ok-Local-Some.ensures.task).0.1 asks.1)

pub returns-in-Ok-Local-None-clause-replay : goal.returns-in-Ok-Local-None-clause-replay
returns-in-Ok-Local-None-clause-replay g c = λ asks. absurd (not_both (map g.S.AsStr.text c.args.words.now) (codes "local") (codes "replay") refl (subst (Asks (map g.S.AsStr.text c.args.words.now)) c.in-Ok-Local-None.field-0-is c.in-Ok-Local-None.ensures.task).0.1 (task_named (map g.S.AsStr.text c.args.words.now) Replay asks))

pub returns-in-Ok-Local-None-clause-check : goal.returns-in-Ok-Local-None-clause-check
returns-in-Ok-Local-None-clause-check g c = λ asks. absurd (not_both (map g.S.AsStr.text c.args.words.now) (codes "local") (codes "check") refl (subst (Asks (map g.S.AsStr.text c.args.words.now)) c.in-Ok-Local-None.field-0-is c.in-Ok-Local-None.ensures.task).0.1 asks.1)

pub returns-in-Ok-Local-None-clause-serve : goal.returns-in-Ok-Local-None-clause-serve
returns-in-Ok-Local-None-clause-serve g c = λ asks. absurd (not_both (map g.S.AsStr.text c.args.words.now) (codes "local") (codes "serve") refl (subst (Asks (map g.S.AsStr.text c.args.words.now)) c.in-Ok-Local-None.field-0-is c.in-Ok-Local-None.ensures.task).0.1 asks.1)

pub returns-in-Ok-Serve-clause-replay : goal.returns-in-Ok-Serve-clause-replay
returns-in-Ok-Serve-clause-replay g c = λ asks. absurd (not_both (map g.S.AsStr.text c.args.words.now) (codes "serve") (codes "replay") refl (subst (Asks (map g.S.AsStr.text c.args.words.now)) c.in-Ok-Serve.field-0-is c.in-Ok-Serve.ensures.task).0.1 (task_named (map g.S.AsStr.text c.args.words.now) Replay asks))

pub returns-in-Ok-Serve-clause-check : goal.returns-in-Ok-Serve-clause-check
returns-in-Ok-Serve-clause-check g c = λ asks. absurd (not_both (map g.S.AsStr.text c.args.words.now) (codes "serve") (codes "check") refl (subst (Asks (map g.S.AsStr.text c.args.words.now)) c.in-Ok-Serve.field-0-is c.in-Ok-Serve.ensures.task).0.1 asks.1)

pub returns-in-Ok-Serve-clause-local : goal.returns-in-Ok-Serve-clause-local
returns-in-Ok-Serve-clause-local g c = λ asks. absurd (not_both (map g.S.AsStr.text c.args.words.now) (codes "serve") (codes "local") refl (subst (Asks (map g.S.AsStr.text c.args.words.now)) c.in-Ok-Serve.field-0-is c.in-Ok-Serve.ensures.task).0.1 asks.1)
