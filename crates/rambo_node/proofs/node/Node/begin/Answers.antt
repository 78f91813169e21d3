use Rattle.std.proofs.Common.{refl, ap, ◌∙◌, sym}
use Rattle.std.specs.Option.{option_copied}
use Rattle.rambo_node.specs.Acts.{meant_by}
use Rattle.rambo_node.specs.Acts as act
use Rattle.rambo_node.proofs.Means.{cleared, told, told_alone, ready_after, cleared_as, told_as, ready_as, room_as, memory_used, none_used, quiet_by}
use Rattle.rambo_node.proofs.QuietSteps.{quiet_else}
use Rattle.rambo_node.proofs.node.Node.begin.Goals as goal

pub returns-in-Call-clause-judged : goal.returns-in-Call-clause-judged
returns-in-Call-clause-judged g c =
    let x = c.args.self.now.state in
    let o = option_copied c.args.letter in
    cleared g.Q.Quorums.system x x refl o c.args.step.now (act.Call c.in-Call.op) c.begin_call.result (c.in-Call.field-0, ap (meant_by o) c.in-Call.is) c.begin_call.ensures.judged

pub returns-in-Call-clause-refused : goal.returns-in-Call-clause-refused
returns-in-Call-clause-refused g c =
    let x = c.args.self.now.state in
    let o = option_copied c.args.letter in
    told g.Q.Quorums.system x x refl o c.args.step.now (act.Call c.in-Call.op) c.begin_call.result (c.in-Call.field-0, ap (meant_by o) c.in-Call.is) c.begin_call.ensures.refused

pub returns-in-Call-clause-ready : goal.returns-in-Call-clause-ready
returns-in-Call-clause-ready g c =
    let o = option_copied c.args.letter in
    ready_after g.Q.Quorums.system c.begin_call.new.self o c.args.step.now (act.Call c.in-Call.op) c.begin_call.result (c.in-Call.field-0, ap (meant_by o) c.in-Call.is) c.begin_call.ensures.ready

pub returns-in-Call-clause-no_memory : goal.returns-in-Call-clause-no_memory
returns-in-Call-clause-no_memory g c =
    let o = option_copied c.args.letter in
    memory_used g.Q.Quorums.system c.args.self.now.state o c.args.step.now (act.Call c.in-Call.op) c.begin_call.result (c.in-Call.field-0, ap (meant_by o) c.in-Call.is) refl

pub returns-in-Send-clause-judged : goal.returns-in-Send-clause-judged
returns-in-Send-clause-judged g c =
    let x = c.args.self.now.state in
    let o = option_copied c.args.letter in
    cleared g.Q.Quorums.system x x refl o c.args.step.now (act.Send c.in-Send.to) c.begin_send.result (c.in-Send.field-0, ap (meant_by o) c.in-Send.is) c.begin_send.ensures.judged

pub returns-in-Send-clause-refused : goal.returns-in-Send-clause-refused
returns-in-Send-clause-refused g c =
    let x = c.args.self.now.state in
    let o = option_copied c.args.letter in
    told g.Q.Quorums.system x x refl o c.args.step.now (act.Send c.in-Send.to) c.begin_send.result (c.in-Send.field-0, ap (meant_by o) c.in-Send.is) c.begin_send.ensures.refused

pub returns-in-Send-clause-ready : goal.returns-in-Send-clause-ready
returns-in-Send-clause-ready g c =
    let o = option_copied c.args.letter in
    ready_after g.Q.Quorums.system c.args.self.now o c.args.step.now (act.Send c.in-Send.to) c.begin_send.result (c.in-Send.field-0, ap (meant_by o) c.in-Send.is) c.begin_send.ensures.ready

pub returns-in-Send-clause-no_memory : goal.returns-in-Send-clause-no_memory
returns-in-Send-clause-no_memory g c =
    let o = option_copied c.args.letter in
    memory_used g.Q.Quorums.system c.args.self.now.state o c.args.step.now (act.Send c.in-Send.to) c.begin_send.result (c.in-Send.field-0, ap (meant_by o) c.in-Send.is) refl

pub returns-in-Advance-clause-judged : goal.returns-in-Advance-clause-judged
returns-in-Advance-clause-judged g c =
    let x = c.args.self.now.state in
    let o = option_copied c.args.letter in
    cleared g.Q.Quorums.system x x refl o c.args.step.now (act.Advance c.in-Advance.id) c.begin_advance.result (c.in-Advance.id.name, ap (meant_by o) c.in-Advance.is) c.begin_advance.ensures.judged

pub returns-in-Advance-clause-refused : goal.returns-in-Advance-clause-refused
returns-in-Advance-clause-refused g c =
    let x = c.args.self.now.state in
    let o = option_copied c.args.letter in
    told g.Q.Quorums.system x x refl o c.args.step.now (act.Advance c.in-Advance.id) c.begin_advance.result (c.in-Advance.id.name, ap (meant_by o) c.in-Advance.is) c.begin_advance.ensures.refused

pub returns-in-Advance-clause-ready : goal.returns-in-Advance-clause-ready
returns-in-Advance-clause-ready g c =
    let o = option_copied c.args.letter in
    ready_after g.Q.Quorums.system c.begin_advance.new.self o c.args.step.now (act.Advance c.in-Advance.id) c.begin_advance.result (c.in-Advance.id.name, ap (meant_by o) c.in-Advance.is) c.begin_advance.ensures.ready

pub returns-in-Advance-clause-no_memory : goal.returns-in-Advance-clause-no_memory
returns-in-Advance-clause-no_memory g c =
    let o = option_copied c.args.letter in
    memory_used g.Q.Quorums.system c.args.self.now.state o c.args.step.now (act.Advance c.in-Advance.id) c.begin_advance.result (c.in-Advance.id.name, ap (meant_by o) c.in-Advance.is) refl

pub returns-in-Deliver-clause-judged : goal.returns-in-Deliver-clause-judged
returns-in-Deliver-clause-judged g c =
    let x = c.args.self.now.state in
    cleared_as g.Q.Quorums.system x x refl (option_copied c.args.letter) c.args.step.now _ c.in-Deliver.is c.begin_hearing.result c.begin_hearing.ensures.judged

pub returns-in-Deliver-clause-refused : goal.returns-in-Deliver-clause-refused
returns-in-Deliver-clause-refused g c =
    let x = c.args.self.now.state in
    told_as g.Q.Quorums.system x x refl (option_copied c.args.letter) c.args.step.now _ c.in-Deliver.is c.begin_hearing.result c.begin_hearing.ensures.refused

pub returns-in-Deliver-clause-ready : goal.returns-in-Deliver-clause-ready
returns-in-Deliver-clause-ready g c =
    ready_as g.Q.Quorums.system c.begin_hearing.new.self (option_copied c.args.letter) c.args.step.now _ c.begin_hearing.result c.in-Deliver.is c.begin_hearing.ensures.ready

pub returns-in-Deliver-clause-no_memory : goal.returns-in-Deliver-clause-no_memory
returns-in-Deliver-clause-no_memory g c =
    room_as g.Q.Quorums.system c.args.self.now.state (option_copied c.args.letter) c.args.step.now _ c.begin_hearing.result c.in-Deliver.is c.begin_hearing.ensures.no_memory

pub unreachable-requires : goal.unreachable-requires
unreachable-requires g c =
    let other = c.in_default in
    quiet_else c.args.step.now (sym c.quiet_of.ensures ∙ c.in-None.is) other.not-Call other.not-Send other.not-Deliver other.not-Advance

pub returns-in-Some-clause-judged : goal.returns-in-Some-clause-judged
returns-in-Some-clause-judged g c =
    let x = c.args.self.now.state in
    let st = c.args.step.now in
    let o = option_copied c.args.letter in
    let meant = c.in-Some.meant in
    cleared g.Q.Quorums.system x x refl o st (act.Quietly meant.1) c.begin_quiet.result (quiet_by o st meant (sym c.quiet_of.ensures ∙ c.in-Some.is)) c.begin_quiet.ensures.judged

pub returns-in-Some-clause-refused : goal.returns-in-Some-clause-refused
returns-in-Some-clause-refused g c =
    let x = c.args.self.now.state in
    let st = c.args.step.now in
    let o = option_copied c.args.letter in
    let meant = c.in-Some.meant in
    told_alone g.Q.Quorums.system x x refl o st (act.Quietly meant.1) c.begin_quiet.result (quiet_by o st meant (sym c.quiet_of.ensures ∙ c.in-Some.is)) c.begin_quiet.ensures.refused

pub returns-in-Some-clause-ready : goal.returns-in-Some-clause-ready
returns-in-Some-clause-ready g c =
    let st = c.args.step.now in
    let o = option_copied c.args.letter in
    let meant = c.in-Some.meant in
    ready_after g.Q.Quorums.system c.args.self.now o st (act.Quietly meant.1) c.begin_quiet.result (quiet_by o st meant (sym c.quiet_of.ensures ∙ c.in-Some.is)) c.begin_quiet.ensures.ready

pub returns-in-Some-clause-no_memory : goal.returns-in-Some-clause-no_memory
returns-in-Some-clause-no_memory g c =
    let st = c.args.step.now in
    let o = option_copied c.args.letter in
    let meant = c.in-Some.meant in
    none_used g.Q.Quorums.system c.args.self.now.state o st (act.Quietly meant.1) c.begin_quiet.result (quiet_by o st meant (sym c.quiet_of.ensures ∙ c.in-Some.is)) c.begin_quiet.ensures.refused
