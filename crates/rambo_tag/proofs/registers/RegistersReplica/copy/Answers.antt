use Rattle.std.proofs.Common.{sym, ap, ◌∙◌}
use Rattle.std.specs.FinMap.{get}
use Rattle.rambo_tag.proofs.Slots.{version_of, get-copies_of}
use Rattle.rambo_tag.proofs.registers.RegistersReplica.copy.Goals as goal

pub returns-in-Some : goal.returns-in-Some
returns-in-Some g c =
    ap version_of c.in-Some.ensures.value
    ∙ sym (get-copies_of c.self.inside.table.entries c.args.key.now)
    ∙ ap (λ r. get r.copies c.args.key.now) c.self.view_is

pub returns-in-None : goal.returns-in-None
returns-in-None g c =
    ap version_of c.in-None.ensures.value
    ∙ sym (get-copies_of c.self.inside.table.entries c.args.key.now)
    ∙ ap (λ r. get r.copies c.args.key.now) c.self.view_is
