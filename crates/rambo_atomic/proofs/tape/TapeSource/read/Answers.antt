use Rattle.std.proofs.lemmas.Grind.{common_steps}
use Rattle.std.proofs.Common.{take, drop, sym, ap, ◌∙◌, arith, length-take}
use Rattle.std.proofs.lemmas.List.{take_rest}
use Rattle.rambo_atomic.proofs.Pieces.{piece-read}
use Rattle.rambo_atomic.proofs.tape.TapeSource.read.Goals as goal

pub returns-then-not-due-clause-bytes : goal.returns-then-not-due-clause-bytes
returns-then-not-due-clause-bytes c =
    (λ i. drop (sym c.self.view_is i).place (sym c.self.view_is i).bytes)
    ∙ piece-read c.self.inside.bytes.items c.copy_from_slice.new.self c.args.into.now c.self.inside.place c.min-count.result (c.copy_from_slice.ensures.after ∙ rw take_rest (ap (λ l. take c.min-count.result (drop c.self.inside.place l)) c.deref.ensures.value)) (c.copy_from_slice.ensures.len ∙ simp length-take (omega (arith, c.min-count.ensures, c.min.ensures)))

pub overflow_add-self : goal.overflow_add-self
overflow_add-self c = grind (arith, common_steps)

pub slice_bounds-rest-count : goal.slice_bounds-rest-count
slice_bounds-rest-count c = grind (arith, common_steps)

pub slice_bounds-rest-start : goal.slice_bounds-rest-start
slice_bounds-rest-start c = grind (arith, common_steps)

pub slice_bounds-rest-end : goal.slice_bounds-rest-end
slice_bounds-rest-end c = grind (arith, common_steps)

pub slice_bounds-copy_from_slice-end : goal.slice_bounds-copy_from_slice-end
slice_bounds-copy_from_slice-end c = grind (arith, common_steps)

pub slice_bounds-copy_from_slice-end-then-not-due : goal.slice_bounds-copy_from_slice-end-then-not-due
slice_bounds-copy_from_slice-end-then-not-due c = grind (arith, common_steps)

pub slice_bounds-copy_from_slice-end-then-not-due-2 : goal.slice_bounds-copy_from_slice-end-then-not-due-2
slice_bounds-copy_from_slice-end-then-not-due-2 c = grind (arith, common_steps)

pub copy_from_slice-requires : goal.copy_from_slice-requires
copy_from_slice-requires c = grind (arith, common_steps)

pub overflow_add-self-then-not-due : goal.overflow_add-self-then-not-due
overflow_add-self-then-not-due c = grind (arith, common_steps)

pub invariant_of-self : goal.invariant_of-self
invariant_of-self c = grind (arith, common_steps)

pub returns-then-not-due-clause-state : goal.returns-then-not-due-clause-state
returns-then-not-due-clause-state c = grind (arith, common_steps)

pub returns-then-not-due-clause-count : goal.returns-then-not-due-clause-count
returns-then-not-due-clause-count c = grind (arith, common_steps)

pub returns-then-not-due-clause-end : goal.returns-then-not-due-clause-end
returns-then-not-due-clause-end c = grind (arith, common_steps)

pub returns-then-not-due-clause-rest : goal.returns-then-not-due-clause-rest
returns-then-not-due-clause-rest c = grind (arith, common_steps)

pub returns-then-not-due-clause-fails : goal.returns-then-not-due-clause-fails
returns-then-not-due-clause-fails c = grind (arith, common_steps)

pub invariant_of-self-else-not-due : goal.invariant_of-self-else-not-due
invariant_of-self-else-not-due c = grind (arith, common_steps)

pub invariant_of-self-else-self-lt-READ_LIMIT : goal.invariant_of-self-else-self-lt-READ_LIMIT
invariant_of-self-else-self-lt-READ_LIMIT c = assumption

pub returns-clause-state : goal.returns-clause-state
returns-clause-state c = grind (arith, common_steps)

pub returns-clause-count : goal.returns-clause-count
returns-clause-count c = assumption

pub returns-clause-bytes : goal.returns-clause-bytes
returns-clause-bytes c = assumption

pub returns-clause-end : goal.returns-clause-end
returns-clause-end c = assumption

pub returns-clause-rest : goal.returns-clause-rest
returns-clause-rest c = assumption

pub returns-clause-fails : goal.returns-clause-fails
returns-clause-fails c = grind (arith, common_steps)
