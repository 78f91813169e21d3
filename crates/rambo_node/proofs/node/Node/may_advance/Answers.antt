use Rattle.std.proofs.Common.{sym, ap, ◌∙◌}
use Rattle.rambo_joiner.specs.Statuses.{is_early, is_stopped}
use Rattle.rambo_calls.specs.Calls.{is_missing, is_unmet, query_in}
use Rattle.rambo_node.specs.Prepared.{sequence_before}
use Rattle.rambo_node.specs.Refusals.{query_spent}
use Rattle.rambo_node.proofs.Judged.{advance_passes}
use Rattle.rambo_names.proofs.Sizes.{up_fits, back_fits, next, variant_fits}
use Rattle.rambo_node.proofs.node.Node.may_advance.Goals as goal

pub is_early-requires : goal.is_early-requires
is_early-requires g c = assumption

pub is_missing-requires : goal.is_missing-requires
is_missing-requires g c = variant_fits _ _ _ _ (back_fits _ _ _ (up_fits _ _ _ (back_fits _ _ _ (next _ _ _ _ (up_fits _ _ _ c.requires-raw.1.1)))))

pub place_of-place-requires : goal.place_of-place-requires
place_of-place-requires g c = assumption

pub call_at-call-requires : goal.call_at-call-requires
call_at-call-requires g c =
    let calls = back_fits _ _ _ (next _ _ _ _ (up_fits _ _ _ c.requires-raw.1.1)) in
    (c.requires-raw.1.1, variant_fits _ _ _ _ (back_fits _ _ _ (up_fits _ _ _ calls)))

pub query_of-asked-requires : goal.query_of-asked-requires
query_of-asked-requires g c = variant_fits _ _ _ _ (back_fits _ _ _ (up_fits _ _ _ (back_fits _ _ _ (next _ _ _ _ (up_fits _ _ _ c.requires-raw.1.1)))))

pub is_stopped-requires : goal.is_stopped-requires
is_stopped-requires g c = assumption

pub is_unmet-requires : goal.is_unmet-requires
is_unmet-requires g c = variant_fits _ _ _ _ (back_fits _ _ _ (up_fits _ _ _ (back_fits _ _ _ (next _ _ _ _ (up_fits _ _ _ c.requires-raw.1.1)))))

pub sequence_before-sequence-requires : goal.sequence_before-sequence-requires
sequence_before-sequence-requires g c = assumption

pub query_is_spent-requires : goal.query_is_spent-requires
query_is_spent-requires g c = (c.requires-raw.1.1, c.sequence_before-sequence.ensures)

pub returns-clause-ok : goal.returns-clause-ok
returns-clause-ok g c =
    let s = g.Q.Quorums.system in
    let x = c.args.self.now.state in
    let id = c.args.id.now in
    let place = c.place_of-place in
    let found = c.call_at-call.ensures ∙ place.ensures.found in
    let early = sym (c.is_early.ensures ∙ ap (λ v. is_early v.state.status) c.self.view_is) ∙ c.if-is_early.false in
    let over = sym (c.is_stopped.ensures ∙ ap (λ v. is_stopped v.state.status) c.self.view_is) ∙ c.if-is_stopped.false in
    let there = sym (c.is_missing.ensures ∙ ap is_missing found) ∙ c.if-is_missing.false in
    let met = sym (c.is_unmet.ensures ∙ ap (is_unmet s) found) ∙ c.if-is_unmet.false in
    let asked = c.query_of-asked.ensures ∙ ap query_in found in
    let spent = sym (c.query_is_spent.ensures ∙ ap (query_spent x) asked) ∙ c.if-query_is_spent.false in
    record {
      accepted = advance_passes x s id early over there met spent;
      own = place.ensures.own there;
      at = place.ensures.found;
      before = c.sequence_before-sequence.ensures ∙ ap (sequence_before x) asked;
    }
