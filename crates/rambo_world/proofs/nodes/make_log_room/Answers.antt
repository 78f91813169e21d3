use Rattle.std.proofs.Common.{◌∙◌, Some, sym, ap}
use Rattle.rambo_tag.specs.declared.keyed_version.KeyedVersion.{KeyedVersion}
use Rattle.rambo_letters.proofs.Lists.{some_is}
use Rattle.rambo_names.proofs.Errors.{err_kept}
use Rattle.rambo_world.proofs.nodes.make_log_room.Goals as goal

pub returns-in_err-reserve-in-Some-clause-refused : goal.returns-in_err-reserve-in-Some-clause-refused
returns-in_err-reserve-in-Some-clause-refused c = err_kept c.from_residual.result _ _ c.from_residual.ensures.1 c.in_err-reserve-in-Some.ensures.refused

pub returns-in_ok-reserve-in-Some-clause-room : goal.returns-in_ok-reserve-in-Some-clause-room
returns-in_ok-reserve-in-Some-clause-room c k found =
    ap (λ l. l.room) c.in_ok-reserve-in-Some.ensures.ok ∙ ap (λ (k : KeyedVersion). Some (record { name = c.args.name; key = k.key })) (some_is c.in-Some.copy k (sym c.in-Some.is ∙ found))
