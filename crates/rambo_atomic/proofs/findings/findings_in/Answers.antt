use Rattle.std.proofs.Common.{◌≤◌, length, subst, arith}
use Rattle.std.proofs.lemmas.Grind.{common_steps}
use Rattle.rambo_atomic.specs.Held.{held_of}
use Rattle.rambo_atomic.specs.Scopes.{within}
use Rattle.rambo_atomic.specs.Tallies.{is_answered_call}
use Rattle.rambo_atomic.proofs.Found.{IsFound, found-on}
use Rattle.rambo_atomic.proofs.Tallied.{how_many-length}
use Rattle.rambo_atomic.proofs.findings.findings_in.Goals as goal

pub note-requires-clause-counts : goal.note-requires-clause-counts
note-requires-clause-counts c =
    let most = how_many-length (is_answered_call c.args.history.now.events (within c.args.scope)) c.args.order.now in
    let few : c.loop-id.findings.answered ≤ length c.args.order.now = omega (arith, most, c.loop-id.invariant.answered) in
    grind (arith, common_steps, few)

pub loop-id-preserved : goal.loop-id-preserved
loop-id-preserved c =
    let h = c.args.history.now.events in
    let s = c.args.scope in
    let held = held_of s c.loop-id.held.one c.loop-id.held.each.entries in
    let now = c.in_ok-note.ensures in
    found-on h s c.args.order.now c.in-Some.id.now c.in-Some.others.now c.loop-id.findings c.note.new.findings
    held (held_of s c.note.new.held.one c.note.new.held.each.entries)
    (subst (λ l. IsFound h s c.args.order.now l c.loop-id.findings held) c.in-Some.ensures.cases.0 c.loop-id.invariant)
    now.answered now.no_stranger now.latest now.held now.real_time now.rising now.passed
