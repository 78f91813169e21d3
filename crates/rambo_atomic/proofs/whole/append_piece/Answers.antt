use Rattle.std.proofs.lemmas.Grind.{common_steps}
use Rattle.std.proofs.Common.{List, ℕ, [], Option, None, Some, refl, sym, inl, inr, arith}
use Rattle.std.proofs.KnownBytes.{Consumes-nil}
use Rattle.std.specs.Io.KnownBytes.{Consumes, Keeps}
use Rattle.rambo_names.proofs.Errors.{err_kept, err_ok, err_if_ok, on_err}
use Rattle.rambo_atomic.proofs.whole.append_piece.Goals as goal

-- what stays as it was loses none
keeps-none : (a b : Option (List ℕ)) → Keeps a b → Consumes a b []
keeps-none None b k = tt
keeps-none (Some x) None k = absurd k
keeps-none (Some x) (Some y) k = sym k

pub returns-in_err-resize-clause-bytes : goal.returns-in_err-resize-clause-bytes
returns-in_err-resize-clause-bytes g c = err_if_ok c.from_residual.result _ _ c.from_residual.ensures.1

pub returns-in_err-resize-clause-end : goal.returns-in_err-resize-clause-end
returns-in_err-resize-clause-end g c = err_if_ok c.from_residual.result _ _ c.from_residual.ensures.1

pub returns-in_err-resize-clause-kept : goal.returns-in_err-resize-clause-kept
returns-in_err-resize-clause-kept g c = on_err c.from_residual.result (refl, Consumes-nil _)

pub returns-in_err-resize-clause-reads : goal.returns-in_err-resize-clause-reads
returns-in_err-resize-clause-reads g c = err_ok c.from_residual.result _ _ c.from_residual.ensures.1

pub returns-in_err-resize-clause-fine : goal.returns-in_err-resize-clause-fine
returns-in_err-resize-clause-fine g c = err_ok c.from_residual.result _ _ c.from_residual.ensures.1

pub returns-in_err-resize-clause-fault : goal.returns-in_err-resize-clause-fault
returns-in_err-resize-clause-fault g c = err_kept c.from_residual.result _ _ c.from_residual.ensures.1 (inr (refl, refl))

pub returns-in_err-reserve-clause-bytes : goal.returns-in_err-reserve-clause-bytes
returns-in_err-reserve-clause-bytes g c = err_if_ok c.from_residual-in_err-reserve.result _ _ c.from_residual-in_err-reserve.ensures.1

pub returns-in_err-reserve-clause-end : goal.returns-in_err-reserve-clause-end
returns-in_err-reserve-clause-end g c = err_if_ok c.from_residual-in_err-reserve.result _ _ c.from_residual-in_err-reserve.ensures.1

pub returns-in_err-reserve-clause-kept : goal.returns-in_err-reserve-clause-kept
returns-in_err-reserve-clause-kept g c = on_err c.from_residual-in_err-reserve.result (c.in_err-reserve.ensures.items, Consumes-nil _)

pub returns-in_err-reserve-clause-reads : goal.returns-in_err-reserve-clause-reads
returns-in_err-reserve-clause-reads g c = err_ok c.from_residual-in_err-reserve.result _ _ c.from_residual-in_err-reserve.ensures.1

pub returns-in_err-reserve-clause-fine : goal.returns-in_err-reserve-clause-fine
returns-in_err-reserve-clause-fine g c = err_ok c.from_residual-in_err-reserve.result _ _ c.from_residual-in_err-reserve.ensures.1

pub returns-in_err-reserve-clause-fault : goal.returns-in_err-reserve-clause-fault
returns-in_err-reserve-clause-fault g c = err_kept c.from_residual-in_err-reserve.result _ _ c.from_residual-in_err-reserve.ensures.1 (inr (refl, refl))

pub read-requires : goal.read-requires
read-requires g c = grind arith

pub slice_bounds-extend_from_slice-end : goal.slice_bounds-extend_from_slice-end
slice_bounds-extend_from_slice-end g c = grind (arith, common_steps)

pub returns-in_err-extend_from_slice-in-Ok-clause-bytes : goal.returns-in_err-extend_from_slice-in-Ok-clause-bytes
returns-in_err-extend_from_slice-in-Ok-clause-bytes g c = err_if_ok c.from_residual-in_err-extend_from_slice-in-Ok.result _ _ c.from_residual-in_err-extend_from_slice-in-Ok.ensures.1

pub returns-in_err-extend_from_slice-in-Ok-clause-end : goal.returns-in_err-extend_from_slice-in-Ok-clause-end
returns-in_err-extend_from_slice-in-Ok-clause-end g c = err_if_ok c.from_residual-in_err-extend_from_slice-in-Ok.result _ _ c.from_residual-in_err-extend_from_slice-in-Ok.ensures.1

pub returns-in_err-extend_from_slice-in-Ok-clause-kept : goal.returns-in_err-extend_from_slice-in-Ok-clause-kept
returns-in_err-extend_from_slice-in-Ok-clause-kept g c = grind (arith, common_steps)

pub returns-in_err-extend_from_slice-in-Ok-clause-reads : goal.returns-in_err-extend_from_slice-in-Ok-clause-reads
returns-in_err-extend_from_slice-in-Ok-clause-reads g c = err_ok c.from_residual-in_err-extend_from_slice-in-Ok.result _ _ c.from_residual-in_err-extend_from_slice-in-Ok.ensures.1

pub returns-in_err-extend_from_slice-in-Ok-clause-fine : goal.returns-in_err-extend_from_slice-in-Ok-clause-fine
returns-in_err-extend_from_slice-in-Ok-clause-fine g c = err_ok c.from_residual-in_err-extend_from_slice-in-Ok.result _ _ c.from_residual-in_err-extend_from_slice-in-Ok.ensures.1

pub returns-in_err-extend_from_slice-in-Ok-clause-fault : goal.returns-in_err-extend_from_slice-in-Ok-clause-fault
returns-in_err-extend_from_slice-in-Ok-clause-fault g c = err_kept c.from_residual-in_err-extend_from_slice-in-Ok.result _ _ c.from_residual-in_err-extend_from_slice-in-Ok.ensures.1 (inr (refl, c.in-Ok.ensures.fine))

pub returns-in_ok-extend_from_slice-in-Ok-clause-bytes : goal.returns-in_ok-extend_from_slice-in-Ok-clause-bytes
returns-in_ok-extend_from_slice-in-Ok-clause-bytes g c = grind (arith, common_steps)

pub returns-in_ok-extend_from_slice-in-Ok-clause-end : goal.returns-in_ok-extend_from_slice-in-Ok-clause-end
returns-in_ok-extend_from_slice-in-Ok-clause-end g c = c.in-Ok.ensures.end

pub returns-in_ok-extend_from_slice-in-Ok-clause-kept : goal.returns-in_ok-extend_from_slice-in-Ok-clause-kept
returns-in_ok-extend_from_slice-in-Ok-clause-kept g c = assumption

pub returns-in_ok-extend_from_slice-in-Ok-clause-reads : goal.returns-in_ok-extend_from_slice-in-Ok-clause-reads
returns-in_ok-extend_from_slice-in-Ok-clause-reads g c = omega (arith, c.in-Ok.ensures.reads, c.in-Ok.ensures.limit)

pub returns-in_ok-extend_from_slice-in-Ok-clause-fine : goal.returns-in_ok-extend_from_slice-in-Ok-clause-fine
returns-in_ok-extend_from_slice-in-Ok-clause-fine g c = c.in-Ok.ensures.fine

pub returns-in_ok-extend_from_slice-in-Ok-clause-fault : goal.returns-in_ok-extend_from_slice-in-Ok-clause-fault
returns-in_ok-extend_from_slice-in-Ok-clause-fault g c = assumption

pub returns-in-Err-clause-bytes : goal.returns-in-Err-clause-bytes
returns-in-Err-clause-bytes g c = tt

pub returns-in-Err-clause-end : goal.returns-in-Err-clause-end
returns-in-Err-clause-end g c = tt

pub returns-in-Err-clause-kept : goal.returns-in-Err-clause-kept
returns-in-Err-clause-kept g c = (c.in_ok-reserve.ensures.items, keeps-none _ _ c.in-Err.ensures.kept)

pub returns-in-Err-clause-reads : goal.returns-in-Err-clause-reads
returns-in-Err-clause-reads g c = tt

pub returns-in-Err-clause-fine : goal.returns-in-Err-clause-fine
returns-in-Err-clause-fine g c = tt

pub returns-in-Err-clause-fault : goal.returns-in-Err-clause-fault
returns-in-Err-clause-fault g c = inl (refl, c.in-Err.ensures.failed)
