use Rattle.std.proofs.Common.{◌≡◌, ◌++◌, map, option_to_list, ap, ◌∙◌}
use Rattle.rambo_outbox.specs.declared.found.Found.{Found}
use Rattle.rambo_outbox.specs.Found.{found_one}
use Rattle.rambo_outbox.specs.Outboxes.{OutboxState, numbers_of}
use Rattle.rambo_outbox.specs.Wishes.{phases}
use Rattle.rambo_outbox.proofs.FoundLists.{found-under_way, found-some, found-greatest, found_with, found_without}
use Rattle.rambo_outbox.proofs.Sizes.{call_fits}
use Rattle.rambo_outbox.proofs.outbox.Outbox.wishes.Goals as goal

pub found-found-requires : goal.found-found-requires
found-found-requires g c = call_fits 0 g.row.Q g.Q.Quorums g.Q.PartialEq g.met.Q.Quorums.small

pub returns-in-Some-clause-runs : goal.returns-in-Some-clause-runs
returns-in-Some-clause-runs g c =
    let ps = phases c.args.self.now c.args.opened.now.wants_room (map numbers_of c.args.opened.now.calls.now) in
    let asked = c.args.self.now.asked in
    let all = found_with asked ps c.args.opened.now.collection c.in-Some.number c.found-found.result c.add.new.self c.in-Some.is c.found-found.ensures (c.add.ensures ∙ ap (λ (v : OutboxState). found_one v.asked c.found-found.result c.in-Some.number) c.self.view_is) in
    ap (λ (f : Found). f.is_under_way) all ∙ found-under_way asked (ps ++ option_to_list c.args.opened.now.collection)

pub returns-in-Some-clause-last : goal.returns-in-Some-clause-last
returns-in-Some-clause-last g c =
    let ps = phases c.args.self.now c.args.opened.now.wants_room (map numbers_of c.args.opened.now.calls.now) in
    let asked = c.args.self.now.asked in
    let all = found_with asked ps c.args.opened.now.collection c.in-Some.number c.found-found.result c.add.new.self c.in-Some.is c.found-found.ensures (c.add.ensures ∙ ap (λ (v : OutboxState). found_one v.asked c.found-found.result c.in-Some.number) c.self.view_is) in
    ap (λ (f : Found). f.greatest) all ∙ found-greatest asked (ps ++ option_to_list c.args.opened.now.collection)

pub returns-in-Some-clause-some : goal.returns-in-Some-clause-some
returns-in-Some-clause-some g c =
    let ps = phases c.args.self.now c.args.opened.now.wants_room (map numbers_of c.args.opened.now.calls.now) in
    let asked = c.args.self.now.asked in
    let all = found_with asked ps c.args.opened.now.collection c.in-Some.number c.found-found.result c.add.new.self c.in-Some.is c.found-found.ensures (c.add.ensures ∙ ap (λ (v : OutboxState). found_one v.asked c.found-found.result c.in-Some.number) c.self.view_is) in
    ap (λ (f : Found). f.is_some) all ∙ found-some asked (ps ++ option_to_list c.args.opened.now.collection)

pub returns-in_default-clause-runs : goal.returns-in_default-clause-runs
returns-in_default-clause-runs g c =
    let ps = phases c.args.self.now c.args.opened.now.wants_room (map numbers_of c.args.opened.now.calls.now) in
    let asked = c.args.self.now.asked in
    let all = found_without asked ps c.args.opened.now.collection c.found-found.result c.in_default.is c.found-found.ensures in
    ap (λ (f : Found). f.is_under_way) all ∙ found-under_way asked (ps ++ option_to_list c.args.opened.now.collection)

pub returns-in_default-clause-last : goal.returns-in_default-clause-last
returns-in_default-clause-last g c =
    let ps = phases c.args.self.now c.args.opened.now.wants_room (map numbers_of c.args.opened.now.calls.now) in
    let asked = c.args.self.now.asked in
    let all = found_without asked ps c.args.opened.now.collection c.found-found.result c.in_default.is c.found-found.ensures in
    ap (λ (f : Found). f.greatest) all ∙ found-greatest asked (ps ++ option_to_list c.args.opened.now.collection)

pub returns-in_default-clause-some : goal.returns-in_default-clause-some
returns-in_default-clause-some g c =
    let ps = phases c.args.self.now c.args.opened.now.wants_room (map numbers_of c.args.opened.now.calls.now) in
    let asked = c.args.self.now.asked in
    let all = found_without asked ps c.args.opened.now.collection c.found-found.result c.in_default.is c.found-found.ensures in
    ap (λ (f : Found). f.is_some) all ∙ found-some asked (ps ++ option_to_list c.args.opened.now.collection)
