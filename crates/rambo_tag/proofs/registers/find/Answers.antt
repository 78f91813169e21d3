use Rattle.std.proofs.Common.{sym, ap, ◌∙◌}
use Rattle.rambo_tag.specs.Tags.{is_newer}
use Rattle.rambo_tag.proofs.Slots.{version_of, get-copies_of, none_found}
use Rattle.rambo_tag.proofs.registers.find.Goals as goal

pub returns-in-Some-clause-newer : goal.returns-in-Some-clause-newer
returns-in-Some-clause-newer g c =
    let held = ap version_of (sym c.index.ensures ∙ c.in-Some.ensures.value) ∙ sym (get-copies_of c.args.table.now.entries c.args.copy.now.key) in
    c.is_before.ensures ∙ ap (λ o. is_newer o c.args.copy.now.version) held

pub returns-in-None-clause-newer : goal.returns-in-None-clause-newer
returns-in-None-clause-newer g c =
    let t = c.args.table.now.entries in
    let held = ap version_of (sym (none_found t c.args.copy.now.key c.in-None.ensures.index)) ∙ sym (get-copies_of t c.args.copy.now.key) in
    ap (λ o. is_newer o c.args.copy.now.version) held
