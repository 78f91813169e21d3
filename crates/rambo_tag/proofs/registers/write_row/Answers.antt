use Rattle.std.proofs.Common.{ℕ, ◌-◌, ◌*◌, ◌<◌, ◌≤◌, List, [], ◌∷◌, ◌++◌, length, sym, ap, ◌∙◌, subst, arith}
use Rattle.std.specs.Prelude.{if◌then◌else◌, filter}
use Rattle.std.specs.Vec.{vec_len, vec_capacity}
use Rattle.rambo_tag.specs.declared.slot.Row.{Row}
use Rattle.rambo_tag.specs.Rows.{is_current, IsLogOf, IsShortFor}
use Rattle.rambo_tag.proofs.Sweeps.{logged-swept, length-swept}
use Rattle.rambo_tag.proofs.registers.write_row.Goals as goal

below : (c l : ℕ) → 0 < c - l → l < c
below c l h = omega (arith, h)

at_most_twice : (a n : ℕ) → a ≤ n → a ≤ 2 * n
at_most_twice a n h = omega (arith, h)

pub returns-then-len-clause-logged : goal.returns-then-len-clause-logged
returns-then-len-clause-logged g c =
    let t = c.args.table.now.entries in
    let log = c.args.log.now in
    let rows : List Row = log.items ++ c.args.row ∷ [] in
    let pushed = c.push-done.ensures.items ∙ ap (λ b. if b then rows else log.items) (c.push-done.ensures.succeeds (below (vec_capacity log) (vec_len log) c.requires.room)) in
    subst (IsLogOf t) (sym (c.sweep.ensures.rows ∙ ap (filter (is_current t)) pushed)) (logged-swept t rows c.requires.logged)

pub returns-then-len-clause-short : goal.returns-then-len-clause-short
returns-then-len-clause-short g c =
    let t = c.args.table.now.entries in
    let log = c.args.log.now in
    let rows : List Row = log.items ++ c.args.row ∷ [] in
    let pushed = c.push-done.ensures.items ∙ ap (λ b. if b then rows else log.items) (c.push-done.ensures.succeeds (below (vec_capacity log) (vec_len log) c.requires.room)) in
    subst (IsShortFor t) (sym (c.sweep.ensures.rows ∙ ap (filter (is_current t)) pushed)) (at_most_twice (length (filter (is_current t) rows)) (length t) (length-swept t rows c.requires.logged))
