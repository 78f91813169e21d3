use Rattle.std.proofs.lemmas.Result.{on_ok_weaker}
use Rattle.std.proofs.Common.{None, Some, slice_get, refl, sym, ap, ◌∙◌, subst}
use Rattle.std.specs.Option.{option_copied}
use Rattle.rambo_calls.specs.Calls.{query_in}
use Rattle.rambo_names.proofs.Errors.{on_err}
use Rattle.rambo_node.specs.Changes.{made_by}
use Rattle.rambo_node.specs.Kept.{answered_from}
use Rattle.rambo_node.specs.Prepared.{IsFound, IsMoving, HasRoomFor, put_by}
use Rattle.rambo_node.proofs.Readiness.{found_there, found_asked, found_next, found_before, query_tells, answer_tells, query_takes, answer_takes}
use Rattle.rambo_node.proofs.node.Node.ready_advance.Goals as goal
use Rattle.rambo_node.specs.Acts as act

pub tell_query-requires : goal.tell_query-requires
tell_query-requires g c =
    let s = g.Q.Quorums.system in
    let x = c.room_at.new.self.state in
    let m = c.args.moving.now in
    let o = c.in-Some.asked.now in
    let found = subst (λ y. IsFound s y m.id m.found) (sym c.in_ok-room_at.ensures.same) c.requires.found in
    let asked = found_asked s x m.id m.found found (Some o) (sym (ap option_copied c.in-Some.is) ∙ c.query_at.ensures) in
    (c.requires-raw.1.1.0, (found_before s x m.id m.found found o asked, ((found_next s x m.id m.found found o asked).1, (c.requires.alone, c.requires.quiet))))

pub tell_answer-requires : goal.tell_answer-requires
tell_answer-requires g c = (c.requires-raw.1.1.0, c.requires.quiet)

pub returns-in-Some-clause-moving : goal.returns-in-Some-clause-moving
returns-in-Some-clause-moving g c =
    let s = g.Q.Quorums.system in
    let v = c.room_at.new.self in
    let m = c.args.moving.now in
    let o = c.in-Some.asked.now in
    let found = subst (λ y. IsFound s y m.id m.found) (sym c.in_ok-room_at.ensures.same) c.requires.found in
    let asked = found_asked s v.state m.id m.found found (Some o) (sym (ap option_copied c.in-Some.is) ∙ c.query_at.ensures) in
    let room = subst (λ d. HasRoomFor v.room (put_by v.state (query_in d))) found.at c.in_ok-room_at.ensures.room in
    on_ok_weaker c.tell_query.result (λ e. subst (IsMoving s v) (sym e) (query_takes s v m o found asked room)) c.tell_query.ensures.moving

pub returns-in-Some-clause-deed : goal.returns-in-Some-clause-deed
returns-in-Some-clause-deed g c =
    let s = g.Q.Quorums.system in
    let x = c.room_at.new.self.state in
    let m = c.args.moving.now in
    let o = c.in-Some.asked.now in
    let same = c.in_ok-room_at.ensures.same in
    let found = subst (λ y. IsFound s y m.id m.found) (sym same) c.requires.found in
    let asked = found_asked s x m.id m.found found (Some o) (sym (ap option_copied c.in-Some.is) ∙ c.query_at.ensures) in
    on_ok_weaker c.tell_query.result (λ e. e ∙ query_tells x m.id o asked ∙ ap (λ y. (made_by y (act.Advance m.id)).deed) same) c.tell_query.ensures.deed

pub returns-in-Some-clause-id : goal.returns-in-Some-clause-id
returns-in-Some-clause-id g c = on_ok_weaker c.tell_query.result (λ e. ap (λ m. m.id) e) c.tell_query.ensures.moving

pub returns-in-None-clause-id : goal.returns-in-None-clause-id
returns-in-None-clause-id g c = on_ok_weaker c.tell_answer.result (λ e. refl) c.tell_answer.ensures.deed

pub returns-in-None-clause-kept : goal.returns-in-None-clause-kept
returns-in-None-clause-kept g c = on_err c.tell_answer.result refl

pub returns-in-None-clause-moving : goal.returns-in-None-clause-moving
returns-in-None-clause-moving g c =
    let s = g.Q.Quorums.system in
    let v = c.room_at.new.self in
    let m = c.args.moving.now in
    let found = subst (λ y. IsFound s y m.id m.found) (sym c.in_ok-room_at.ensures.same) c.requires.found in
    let round = found_asked s v.state m.id m.found found None (sym (ap option_copied c.in-None.is) ∙ c.query_at.ensures) in
    let room = subst (λ d. HasRoomFor v.room (put_by v.state (query_in d))) found.at c.in_ok-room_at.ensures.room in
    on_ok_weaker c.tell_answer.result (λ e. answer_takes s v m found round c.requires.alone room) c.tell_answer.ensures.deed

pub returns-in-None-clause-deed : goal.returns-in-None-clause-deed
returns-in-None-clause-deed g c =
    let s = g.Q.Quorums.system in
    let x = c.room_at.new.self.state in
    let m = c.args.moving.now in
    let same = c.in_ok-room_at.ensures.same in
    let found = subst (λ y. IsFound s y m.id m.found) (sym same) c.requires.found in
    let round = found_asked s x m.id m.found found None (sym (ap option_copied c.in-None.is) ∙ c.query_at.ensures) in
    on_ok_weaker c.tell_answer.result (λ e.
    e ∙ ap (λ n. answered_from m.id (slice_get x.calls n)) found.own ∙ answer_tells x m.id (found_there s x m.id m.found found) round
    ∙ ap (λ y. (made_by y (act.Advance m.id)).deed) same) c.tell_answer.ensures.deed

pub query_at-requires : goal.query_at-requires
query_at-requires g c = assumption

pub room_at-requires : goal.room_at-requires
room_at-requires g c = assumption
