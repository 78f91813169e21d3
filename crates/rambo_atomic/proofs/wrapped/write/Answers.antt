use Rattle.std.proofs.Common.{refl, arith}
use Rattle.std.proofs.KnownBytes.{Keeps-refl}
use Rattle.rambo_atomic.proofs.Interruptions.{interrupted_again, write_kept, interruption_fails}
use Rattle.rambo_atomic.proofs.wrapped.write.Goals as goal

pub loop-interruptions-init : goal.loop-interruptions-init
loop-interruptions-init g c = (Keeps-refl _, refl)

pub loop-interruptions-preserved : goal.loop-interruptions-preserved
loop-interruptions-preserved g c =
    let is = c.if-not-is_interruption.ensures.0 refl in (
      interruption_fails c.write_once-answer.result _ is (write_kept _ _ _ c.write_once-answer.result c.args.bytes.now c.loop-interruptions.invariant.0 c.write_once-answer.ensures.bytes),
      interrupted_again (g.T.Writer.write_gives c.args.bytes.now) c.loop-interruptions.interruptions _ c.args.inner.now c.loop-interruptions.inner _ c.write_once-answer.result c.loop-interruptions.invariant.1 c.write_once-answer.ensures.gives is refl,
    )
