use Rattle.std.proofs.Common.{refl, ap, ◌∙◌, sym}
use Rattle.std.specs.Option.{option_copied}
use Rattle.rambo_node.specs.Acts.{meant_by}
use Rattle.rambo_node.specs.Acts as act
use Rattle.rambo_node.proofs.Means.{cleared, refused, refused_as, cleared_as, quiet_by}
use Rattle.rambo_node.proofs.QuietSteps.{quiet_else}
use Rattle.rambo_node.proofs.node.Node.judge.Goals as goal

pub returns-in-Call-clause-ok : goal.returns-in-Call-clause-ok
returns-in-Call-clause-ok g c =
    let x = c.args.self.now.state in
    let o = option_copied c.args.letter in
    cleared g.Q.Quorums.system x x refl o c.args.step.now (act.Call c.in-Call.op) c.may_call.result (c.in-Call.field-0, ap (meant_by o) c.in-Call.is) c.may_call.ensures.ok

pub returns-in-Call-clause-refused : goal.returns-in-Call-clause-refused
returns-in-Call-clause-refused g c =
    let x = c.args.self.now.state in
    let o = option_copied c.args.letter in
    refused g.Q.Quorums.system x x refl o c.args.step.now (act.Call c.in-Call.op) c.may_call.result (c.in-Call.field-0, ap (meant_by o) c.in-Call.is) c.may_call.ensures.refused

pub returns-in-Send-clause-ok : goal.returns-in-Send-clause-ok
returns-in-Send-clause-ok g c =
    let x = c.args.self.now.state in
    let o = option_copied c.args.letter in
    cleared g.Q.Quorums.system x x refl o c.args.step.now (act.Send c.in-Send.to) c.may_send.result (c.in-Send.field-0, ap (meant_by o) c.in-Send.is) c.may_send.ensures.ok

pub returns-in-Send-clause-refused : goal.returns-in-Send-clause-refused
returns-in-Send-clause-refused g c =
    let x = c.args.self.now.state in
    let o = option_copied c.args.letter in
    refused g.Q.Quorums.system x x refl o c.args.step.now (act.Send c.in-Send.to) c.may_send.result (c.in-Send.field-0, ap (meant_by o) c.in-Send.is) c.may_send.ensures.refused

pub returns-in-Advance-clause-ok : goal.returns-in-Advance-clause-ok
returns-in-Advance-clause-ok g c =
    let x = c.args.self.now.state in
    let o = option_copied c.args.letter in
    cleared g.Q.Quorums.system x x refl o c.args.step.now (act.Advance c.in-Advance.id) c.may_go_on.result (c.in-Advance.id.name, ap (meant_by o) c.in-Advance.is) c.may_go_on.ensures.ok

pub returns-in-Advance-clause-refused : goal.returns-in-Advance-clause-refused
returns-in-Advance-clause-refused g c =
    let x = c.args.self.now.state in
    let o = option_copied c.args.letter in
    refused g.Q.Quorums.system x x refl o c.args.step.now (act.Advance c.in-Advance.id) c.may_go_on.result (c.in-Advance.id.name, ap (meant_by o) c.in-Advance.is) c.may_go_on.ensures.refused

pub returns-in-Deliver-clause-ok : goal.returns-in-Deliver-clause-ok
returns-in-Deliver-clause-ok g c =
    let x = c.args.self.now.state in
    cleared_as g.Q.Quorums.system x x refl (option_copied c.args.letter) c.args.step.now _ c.in-Deliver.is c.may_deliver.result c.may_deliver.ensures.ok

pub returns-in-Deliver-clause-refused : goal.returns-in-Deliver-clause-refused
returns-in-Deliver-clause-refused g c =
    let x = c.args.self.now.state in
    refused_as g.Q.Quorums.system x x refl (option_copied c.args.letter) c.args.step.now _ c.in-Deliver.is c.may_deliver.result c.may_deliver.ensures.refused

pub unreachable-requires : goal.unreachable-requires
unreachable-requires g c =
    let other = c.in_default in
    quiet_else c.args.step.now (sym c.quiet_of.ensures ∙ c.in-None.is) other.not-Call other.not-Send other.not-Deliver other.not-Advance

pub returns-in-Some-clause-ok : goal.returns-in-Some-clause-ok
returns-in-Some-clause-ok g c =
    let x = c.args.self.now.state in
    let st = c.args.step.now in
    let o = option_copied c.args.letter in
    let meant = c.in-Some.meant in
    cleared g.Q.Quorums.system x x refl o st (act.Quietly meant.1) c.may_quiet.result (quiet_by o st meant (sym c.quiet_of.ensures ∙ c.in-Some.is)) c.may_quiet.ensures.ok

pub returns-in-Some-clause-refused : goal.returns-in-Some-clause-refused
returns-in-Some-clause-refused g c =
    let x = c.args.self.now.state in
    let st = c.args.step.now in
    let o = option_copied c.args.letter in
    let meant = c.in-Some.meant in
    refused g.Q.Quorums.system x x refl o st (act.Quietly meant.1) c.may_quiet.result (quiet_by o st meant (sym c.quiet_of.ensures ∙ c.in-Some.is)) c.may_quiet.ensures.refused
