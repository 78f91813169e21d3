use Rattle.std.proofs.Common.{sym, subst, arith}
use Rattle.rambo_names.proofs.Errors.{err_kept}
use Rattle.rambo_resp.specs.Decoders.{DecoderState, HasNoneBegun}
use Rattle.rambo_resp.proofs.Begun.{more_taken, fault_taken, begins_none}
use Rattle.rambo_resp.proofs.decoder.Decoder.feed_begun.Goals as goal

pub loop-rest-preserved : goal.loop-rest-preserved
loop-rest-preserved c =
    let l = c.loop-rest in
    record {
      taken = λ stream given h.
          let t = l.invariant.taken stream given h in
          more_taken l.self stream c.args.piece.now l.rest.now given t c.feed.new.self c.begun-count.result (c.in_ok-feed.ensures.taken _ given t.taken).0;
      none = λ h.
          let none = subst (λ (d : DecoderState). HasNoneBegun d.ending) (sym (l.invariant.none h)) h in
          let star = begins_none c.self.inside.progress c.self.inside.fault l.self c.self.view_is none (λ f e. let k = (c.in_ok-feed.ensures.again f e).0 in cc) in
          absurd (omega (arith, c.begun-count.ensures.none star, c.if-count-eq0.false));
    }

pub returns-in_err-feed-clause-fault : goal.returns-in_err-feed-clause-fault
returns-in_err-feed-clause-fault c = λ stream given h.
    let l = c.loop-rest in
    let t = l.invariant.taken stream given h in
    err_kept c.from_residual.result _ _ c.from_residual.ensures.1
    (λ k. let fed = c.in_err-feed.ensures.taken _ given t.taken k in
    (fault_taken l.self stream c.args.piece.now l.rest.now given t c.feed.new.self c.begun-count.result fed.0 _ fed.1, fed.1))

pub returns-in_err-feed-clause-memory : goal.returns-in_err-feed-clause-memory
returns-in_err-feed-clause-memory c = λ stream given h.
    let l = c.loop-rest in
    err_kept c.from_residual.result _ _ c.from_residual.ensures.1
    (λ k. record { before = l.self; rest = l.rest.now; took = l.invariant.taken stream given h; fails = c.in_err-feed.ensures.memory k })
