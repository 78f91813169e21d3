use Rattle.std.proofs.Common.{refl, arith}
use Rattle.std.proofs.KnownBytes.{Keeps-refl}
use Rattle.rambo_atomic.proofs.Interruptions.{interrupted_again, read_kept, interruption_fails}
use Rattle.rambo_atomic.proofs.wrapped.read.Goals as goal

pub loop-interruptions-init : goal.loop-interruptions-init
loop-interruptions-init g c = (Keeps-refl _, refl)

pub loop-interruptions-preserved : goal.loop-interruptions-preserved
loop-interruptions-preserved g c =
    let is = c.if-not-is_interruption.ensures.0 refl in (
      interruption_fails c.read_once-answer.result _ is (read_kept _ _ _ c.read_once-answer.result c.read_once-answer.new.into c.loop-interruptions.invariant.0 c.read_once-answer.ensures.bytes),
      interrupted_again g.T.Reader.read_gives c.loop-interruptions.interruptions _ c.args.inner.now c.loop-interruptions.inner _ c.read_once-answer.result c.loop-interruptions.invariant.1 c.read_once-answer.ensures.gives is refl,
    )
