use Rattle.std.proofs.Common.{◌≡◌, ◌∙◌, sym, ap}
use Rattle.std.specs.Prelude.{if◌then◌else◌}
use Rattle.rambo_joiner.specs.Statuses.{is_active}
use Rattle.rambo_world.proofs.nodes.outline_of.Goals.{then-is_active, else-is_active}
use Rattle.rambo_world.proofs.nodes.outline_of.Goals as goal

pub returns : goal.returns
returns g c =
    let x = c.args.node.now.state in
    let active : c.is_active.result ≡ is_active x.status = c.is_active.ensures ∙ ap is_active c.status.ensures in
    let told : c.if-is_active.told ≡ (if is_active x.status then c.args.logged else 0) =
    elim c.if-is_active.branch [
      | then-is_active w ↦ w.told-is ∙ ap (λ t. if t then c.args.logged else 0) (sym w.if-is_active.true ∙ active)
      | else-is_active w ↦ w.told-is ∙ ap (λ t. if t then c.args.logged else 0) (sym w.if-is_active.false ∙ active)
    ] in
    λ i. record { letter = c.outline_for.ensures i; told = told i }

pub status-requires : goal.status-requires
status-requires g c = c.requires-raw.1.1

pub outline_for-requires : goal.outline_for-requires
outline_for-requires g c = c.requires-raw.1.1
