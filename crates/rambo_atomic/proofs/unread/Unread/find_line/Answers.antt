use Rattle.std.proofs.lemmas.Grind.{common_steps}
use Rattle.std.proofs.Common.{[], refl, sym, ap, ◌∙◌, subst, append-nil, true≢false, arith}
use Rattle.std.proofs.KnownBytes.{Consumes-nil}
use Rattle.rambo_atomic.specs.Unreads.{HasFeed}
use Rattle.rambo_atomic.proofs.Feeds.{in_last_piece}
use Rattle.rambo_atomic.proofs.Unreads.{TakesIn-then}
use Rattle.rambo_atomic.proofs.unread.Unread.find_line.Goals as goal

pub loop-self-preserved : goal.loop-self-preserved
loop-self-preserved g c = record {
  knows = c.in_ok-read_piece.ensures.knows;
  bytes = TakesIn-then _ _ _ _ _ _ c.loop-self.invariant.bytes c.in_ok-read_piece.ensures.bytes;
  ended = λ e. absurd (true≢false (sym e ∙ sym (ap (λ u. u.ended) (c.loop-self.invariant.ended e)) ∙ c.loop-self-test.ensures.1));
  kept = λ feed. absurd (c.loop-self-test.ensures.0 (subst (λ u. HasFeed u.held) (sym (c.loop-self.invariant.kept feed).0) feed));
  stops = λ none. in_last_piece c.loop-self.self.held c.read_piece.new.self.held c.in_ok-read_piece.ensures.bytes.0 c.loop-self-test.ensures.0 c.in_ok-read_piece.ensures.bytes.2 c.in_ok-read_piece.ensures.piece;
  work = omega (arith, c.loop-self.invariant.work, c.in_ok-read_piece.ensures.reads, c.in_ok-read_piece.ensures.fits);
  fine = c.in_ok-read_piece.ensures.fine ∙ c.loop-self.invariant.fine;
}

pub loop-self-init : goal.loop-self-init
loop-self-init g c = record {
  knows = c.requires;
  bytes = ([], Consumes-nil _, sym (append-nil _));
  ended = λ e. refl;
  kept = λ feed. (refl, refl);
  stops = λ none. (_, [], sym (append-nil _), none, omega arith);
  work = omega arith;
  fine = refl;
}

pub read_piece-requires : goal.read_piece-requires
read_piece-requires g c = grind (arith, common_steps)

pub loop-self-smaller : goal.loop-self-smaller
loop-self-smaller g c = grind (arith, common_steps)

pub returns-in_err-read_piece-clause-knows : goal.returns-in_err-read_piece-clause-knows
returns-in_err-read_piece-clause-knows g c = assumption

pub returns-in_err-read_piece-clause-bytes : goal.returns-in_err-read_piece-clause-bytes
returns-in_err-read_piece-clause-bytes g c = grind (arith, common_steps)

pub returns-in_err-read_piece-clause-ended : goal.returns-in_err-read_piece-clause-ended
returns-in_err-read_piece-clause-ended g c = grind (arith, common_steps)

pub returns-in_err-read_piece-clause-line : goal.returns-in_err-read_piece-clause-line
returns-in_err-read_piece-clause-line g c = grind (arith, common_steps)

pub returns-in_err-read_piece-clause-work : goal.returns-in_err-read_piece-clause-work
returns-in_err-read_piece-clause-work g c = grind (arith, common_steps)

pub returns-in_err-read_piece-clause-fine : goal.returns-in_err-read_piece-clause-fine
returns-in_err-read_piece-clause-fine g c = grind (arith, common_steps)

pub returns-in_err-read_piece-clause-fault : goal.returns-in_err-read_piece-clause-fault
returns-in_err-read_piece-clause-fault g c = grind (arith, common_steps)

pub returns-clause-knows : goal.returns-clause-knows
returns-clause-knows g c = assumption

pub returns-clause-bytes : goal.returns-clause-bytes
returns-clause-bytes g c = assumption

pub returns-clause-ended : goal.returns-clause-ended
returns-clause-ended g c = assumption

pub returns-clause-line : goal.returns-clause-line
returns-clause-line g c = grind (arith, common_steps)

pub returns-clause-work : goal.returns-clause-work
returns-clause-work g c = assumption

pub returns-clause-fine : goal.returns-clause-fine
returns-clause-fine g c = assumption

pub returns-clause-fault : goal.returns-clause-fault
returns-clause-fault g c = assumption

pub returns-in_err-read_piece-clause-kept : goal.returns-in_err-read_piece-clause-kept
returns-in_err-read_piece-clause-kept g c = grind (arith, common_steps)

pub returns-in_err-read_piece-clause-stops : goal.returns-in_err-read_piece-clause-stops
returns-in_err-read_piece-clause-stops g c = grind (arith, common_steps)
