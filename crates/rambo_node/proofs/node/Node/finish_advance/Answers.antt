use Rattle.std.proofs.Common.{None, Some, sym, ap, ◌∙◌, subst}
use Rattle.std.specs.Option.{option_copied}
use Rattle.rambo_node.specs.Kept.{propagation_begun}
use Rattle.rambo_node.specs.Prepared.{HasRoomFor, kept_by, put_by}
use Rattle.rambo_node.specs.Refusals.{is_last}
use Rattle.rambo_node.proofs.Besides.{query_beside, answer_beside}
use Rattle.rambo_node.proofs.Readiness.{query_ends, answer_ends, found_there, found_asked, found_next}
use Rattle.rambo_node.proofs.node.Node.finish_advance.Goals as goal

pub query_at-requires : goal.query_at-requires
query_at-requires g c = assumption

pub put-requires : goal.put-requires
put-requires g c = (c.requires-raw.1.1.0, subst (HasRoomFor c.args.self.now.room) (sym c.requires.put) c.requires.room)

pub propagate-requires : goal.propagate-requires
propagate-requires g c =
    let s = g.Q.Quorums.system in
    let x = c.args.self.now.state in
    let m = c.args.moving.now in
    let o = c.in-Some.field-0.now in
    let asked = found_asked s x m.id m.found c.requires.found (Some o) (sym (ap option_copied c.in-Some.is) ∙ c.query_at.ensures) in
    (c.requires-raw.1.1.0, ap (λ y. is_last y.number) c.put.ensures.state ∙ (found_next s x m.id m.found c.requires.found o asked).0)

pub returns-in-Some-clause-node : goal.returns-in-Some-clause-node
returns-in-Some-clause-node g c =
    let s = g.Q.Quorums.system in
    let x = c.args.self.now.state in
    let m = c.args.moving.now in
    let o = c.in-Some.field-0.now in
    let asked = found_asked s x m.id m.found c.requires.found (Some o) (sym (ap option_copied c.in-Some.is) ∙ c.query_at.ensures) in
    c.propagate.ensures.state ∙ (λ i. propagation_begun (c.put.ensures.state i) m.found.place (c.take.ensures.value i))
    ∙ query_ends x m.id o asked m.found.place m.kept m.put c.requires.found.own (c.requires.kept ∙ ap (kept_by x) asked) (c.requires.put ∙ ap (put_by x) asked)

pub returns-in-Some-clause-beside : goal.returns-in-Some-clause-beside
returns-in-Some-clause-beside g c =
    let v = c.args.self.now in
    let m = c.args.moving.now in
    let o = c.in-Some.field-0.now in
    let asked = found_asked g.Q.Quorums.system v.state m.id m.found c.requires.found (Some o) (sym (ap option_copied c.in-Some.is) ∙ c.query_at.ensures) in
    c.propagate.ensures.beside ∙ c.put.ensures.beside ∙ query_beside v.state v.beside m.id o m.put asked (c.requires.put ∙ ap (put_by v.state) asked)

pub returns-in-None-clause-node : goal.returns-in-None-clause-node
returns-in-None-clause-node g c =
    let s = g.Q.Quorums.system in
    let x = c.args.self.now.state in
    let m = c.args.moving.now in
    let round = found_asked s x m.id m.found c.requires.found None (sym (ap option_copied c.in-None.is) ∙ c.query_at.ensures) in
    c.finish_answer.ensures.state ∙ answer_ends x m.id (found_there s x m.id m.found c.requires.found) round m.found.place c.requires.found.own

pub returns-in-None-clause-beside : goal.returns-in-None-clause-beside
returns-in-None-clause-beside g c =
    let v = c.args.self.now in
    let m = c.args.moving.now in
    let round = found_asked g.Q.Quorums.system v.state m.id m.found c.requires.found None (sym (ap option_copied c.in-None.is) ∙ c.query_at.ensures) in
    c.finish_answer.ensures.beside ∙ sym (answer_beside v.state v.beside m.id round)

pub finish_answer-requires : goal.finish_answer-requires
finish_answer-requires g c = assumption
