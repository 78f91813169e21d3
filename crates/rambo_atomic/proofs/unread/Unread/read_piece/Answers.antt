use Rattle.std.proofs.lemmas.Grind.{common_steps}
use Rattle.std.proofs.Common.{◌≡◌, ◌≤◌, ◌<◌, ℕ, List, [], ◌++◌, length, sym, ap, ◌∙◌, subst, true≢false, arith}
use Rattle.std.proofs.lemmas.List.{append-nil, length-append}
use Rattle.rambo_atomic.proofs.Feeds.{EndLines, lines_left, lines_stay, lines_end_later, seen_is}
use Rattle.rambo_names.proofs.Errors.{err_kept, err_ok}
use Rattle.rambo_atomic.proofs.unread.Unread.read_piece.Goals as goal

-- what was given stands behind what was held
behind : (after before held given : List ℕ) → after ≡ before ++ given → before ≡ held → after ≡ held ++ given
behind after before held given e f = e ∙ ap (λ l. l ++ given) f

-- where nothing was given
as-before : (after before held : List ℕ) → after ≡ before → before ≡ held → after ≡ held ++ []
as-before after before held e f = e ∙ f ∙ sym (append-nil held)

longer : (after before given : List ℕ) → after ≡ before ++ given → length before ≤ length after
longer after before given e = omega (arith, ap length e ∙ length-append before given)

held-is : (before used held : List ℕ) → before ≡ used → used ≡ held → before ≡ held
held-is before used held e f = e ∙ f

pub forget_front-requires : goal.forget_front-requires
forget_front-requires g c = assumption

pub invariant_of-self : goal.invariant_of-self
invariant_of-self g c =
    let left = lines_left c.self.inside.bytes.items c.forget_front.new.bytes.items c.self.inside.start c.self.inside.lines c.saturating_sub-self-inside.result
    (c.self.invariant.1, c.self.invariant.2, c.self.invariant.3) c.saturating_sub-self-inside.ensures c.forget_front.ensures in
    let lines = subst (λ l. EndLines l c.saturating_sub-self-inside.result) (sym c.in_err-count.ensures.kept.0) left in
    (omega arith, lines.0, lines.1, lines.2)

pub returns-in_err-count-clause-knows : goal.returns-in_err-count-clause-knows
returns-in_err-count-clause-knows g c = λ e. absurd (true≢false (sym e ∙ ap (λ u. u.ended) c.self.view_is ∙ c.requires))

pub returns-in_err-count-clause-bytes : goal.returns-in_err-count-clause-bytes
returns-in_err-count-clause-bytes g c = ([], c.in_err-count.ensures.kept.1, as-before _ _ _ c.in_err-count.ensures.kept.0 (held-is _ _ _ c.forget_front.ensures (ap (λ u. u.held) c.self.view_is)))

pub returns-in_err-count-clause-fits : goal.returns-in_err-count-clause-fits
returns-in_err-count-clause-fits g c = grind arith

pub returns-in_err-count-clause-reads : goal.returns-in_err-count-clause-reads
returns-in_err-count-clause-reads g c = err_ok c.from_residual.result _ _ c.from_residual.ensures.1

pub returns-in_err-count-clause-fine : goal.returns-in_err-count-clause-fine
returns-in_err-count-clause-fine g c = err_ok c.from_residual.result _ _ c.from_residual.ensures.1

pub returns-in_err-count-clause-fault : goal.returns-in_err-count-clause-fault
returns-in_err-count-clause-fault g c = err_kept c.from_residual.result _ _ c.from_residual.ensures.1 c.in_err-count.ensures.fault

pub slice_bounds-lines_end-count : goal.slice_bounds-lines_end-count
slice_bounds-lines_end-count g c = omega (arith, longer c.append_piece.new.bytes.items c.forget_front.new.bytes.items c.in_ok-count.ensures.bytes.0 c.in_ok-count.ensures.bytes.2, ap length c.deref.ensures.value, c.len-before.ensures, c.forget_front.new.bytes.ok.0)

pub slice_bounds-lines_end-start : goal.slice_bounds-lines_end-start
slice_bounds-lines_end-start g c = omega (arith, longer c.append_piece.new.bytes.items c.forget_front.new.bytes.items c.in_ok-count.ensures.bytes.0 c.in_ok-count.ensures.bytes.2, ap length c.deref.ensures.value, c.len-before.ensures, c.forget_front.new.bytes.ok.0)

pub slice_bounds-lines_end-end : goal.slice_bounds-lines_end-end
slice_bounds-lines_end-end g c = grind arith

pub overflow_add-self : goal.overflow_add-self
overflow_add-self g c = grind arith

pub invariant_of-self-then-lines-gt0 : goal.invariant_of-self-then-lines-gt0
invariant_of-self-then-lines-gt0 g c =
    let given = c.in_ok-count.ensures.bytes in
    let before : c.len-before.result ≡ length c.forget_front.new.bytes.items = omega (arith, c.len-before.ensures, c.forget_front.new.bytes.ok.0) in
    let seen = seen_is c.deref.result.now c.append_piece.new.bytes.items c.forget_front.new.bytes.items given.0 c.len-before.result c.deref.ensures.value given.2 before in
    let lines = lines_end_later c.forget_front.new.bytes.items c.append_piece.new.bytes.items given.0 _ c.len-before.result c.lines_end-lines.result given.2 before seen c.if-lines-gt0.true c.lines_end-lines.ensures.within c.lines_end-lines.ensures.feed c.lines_end-lines.ensures.last in
    (omega arith, lines.0, lines.1, lines.2)

pub invariant_of-self-else-lines-gt0 : goal.invariant_of-self-else-lines-gt0
invariant_of-self-else-lines-gt0 g c =
    let left = lines_left c.self.inside.bytes.items c.forget_front.new.bytes.items c.self.inside.start c.self.inside.lines c.saturating_sub-self-inside.result
    (c.self.invariant.1, c.self.invariant.2, c.self.invariant.3) c.saturating_sub-self-inside.ensures c.forget_front.ensures in
    let given = c.in_ok-count.ensures.bytes in
    let before : c.len-before.result ≡ length c.forget_front.new.bytes.items = omega (arith, c.len-before.ensures, c.forget_front.new.bytes.ok.0) in
    let seen = seen_is c.deref.result.now c.append_piece.new.bytes.items c.forget_front.new.bytes.items given.0 c.len-before.result c.deref.ensures.value given.2 before in
    let lines = lines_stay c.forget_front.new.bytes.items c.append_piece.new.bytes.items given.0 _ c.saturating_sub-self-inside.result c.lines_end-lines.result left given.2 seen c.if-lines-gt0.false c.lines_end-lines.ensures.last in
    (omega arith, lines.0, lines.1, lines.2)

pub returns-then-lines-gt0-clause-knows : goal.returns-then-lines-gt0-clause-knows
returns-then-lines-gt0-clause-knows g c = grind arith

pub returns-then-lines-gt0-clause-bytes : goal.returns-then-lines-gt0-clause-bytes
returns-then-lines-gt0-clause-bytes g c = let b = c.in_ok-count.ensures.bytes in (b.0, b.1, behind _ _ _ _ b.2 (held-is _ _ _ c.forget_front.ensures (ap (λ u. u.held) c.self.view_is)))

pub returns-then-lines-gt0-clause-fits : goal.returns-then-lines-gt0-clause-fits
returns-then-lines-gt0-clause-fits g c = grind arith

pub returns-then-lines-gt0-clause-reads : goal.returns-then-lines-gt0-clause-reads
returns-then-lines-gt0-clause-reads g c = c.in_ok-count.ensures.reads

pub returns-then-lines-gt0-clause-fine : goal.returns-then-lines-gt0-clause-fine
returns-then-lines-gt0-clause-fine g c = c.in_ok-count.ensures.fine

pub returns-then-lines-gt0-clause-fault : goal.returns-then-lines-gt0-clause-fault
returns-then-lines-gt0-clause-fault g c = assumption

pub returns-else-lines-gt0-clause-knows : goal.returns-else-lines-gt0-clause-knows
returns-else-lines-gt0-clause-knows g c = grind arith

pub returns-else-lines-gt0-clause-bytes : goal.returns-else-lines-gt0-clause-bytes
returns-else-lines-gt0-clause-bytes g c = let b = c.in_ok-count.ensures.bytes in (b.0, b.1, behind _ _ _ _ b.2 (held-is _ _ _ c.forget_front.ensures (ap (λ u. u.held) c.self.view_is)))

pub returns-else-lines-gt0-clause-fits : goal.returns-else-lines-gt0-clause-fits
returns-else-lines-gt0-clause-fits g c = grind arith

pub returns-else-lines-gt0-clause-reads : goal.returns-else-lines-gt0-clause-reads
returns-else-lines-gt0-clause-reads g c = c.in_ok-count.ensures.reads

pub returns-else-lines-gt0-clause-fine : goal.returns-else-lines-gt0-clause-fine
returns-else-lines-gt0-clause-fine g c = c.in_ok-count.ensures.fine

pub returns-else-lines-gt0-clause-fault : goal.returns-else-lines-gt0-clause-fault
returns-else-lines-gt0-clause-fault g c = assumption

pub returns-then-lines-gt0-clause-piece : goal.returns-then-lines-gt0-clause-piece
returns-then-lines-gt0-clause-piece g c = grind (arith, common_steps)

pub returns-else-lines-gt0-clause-piece : goal.returns-else-lines-gt0-clause-piece
returns-else-lines-gt0-clause-piece g c = grind (arith, common_steps)

pub returns-in_err-count-clause-piece : goal.returns-in_err-count-clause-piece
returns-in_err-count-clause-piece g c = grind (arith, common_steps)
