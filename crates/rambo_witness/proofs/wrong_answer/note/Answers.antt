use Rattle.std.proofs.Common.{Some, cond, bytes_eq, sym, ap, ◌∙◌}
use Rattle.std.specs.Map.{lookup}
use Rattle.rambo_witness.proofs.Latest.{latest-set, latest-unset, no-call, other-unset}
use Rattle.rambo_witness.proofs.wrong_answer.note.Goals as goal

pub returns-in_default-clause-noted : goal.returns-in_default-clause-noted
returns-in_default-clause-noted c front has =
    latest-unset c.args.history.now.events front c.args.id.now c.args.latest.now.entries (no-call c.args.history.now.events c.args.id.now (sym c.in_default.ensures)) has

pub returns-in_ok-insert-clause-noted : goal.returns-in_ok-insert-clause-noted
returns-in_ok-insert-clause-noted c front has =
    let entries = c.args.latest.now.entries in
    latest-set c.args.history.now.events front c.args.id.now c.in-Set.key c.in-Set.field-1 entries c.insert.new.self.entries
    (sym c.in-Some.ensures ∙ ap Some c.in-Set.is)
    (λ q. c.in_ok-insert.ensures.updates.0 q ∙ ap (λ k. cond (bytes_eq k q) (Some c.args.id.now) (lookup (bytes_eq q) entries)) c.in_ok-clone.ensures.cases) has

pub returns-in_default-op-clause-noted : goal.returns-in_default-op-clause-noted
returns-in_default-op-clause-noted c front has =
    latest-unset c.args.history.now.events front c.args.id.now c.args.latest.now.entries
    (λ q sets. other-unset c.args.history.now.events c.args.id.now c.in-Some.op.now (sym c.in-Some.ensures) c.in_default-op.not-Set q sets) has
