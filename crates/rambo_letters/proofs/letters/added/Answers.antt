use Rattle.std.proofs.Common.{◌++◌, ◌∷◌, [], ◌∙◌, append-nil, slice_get, sym, ap}
use Rattle.rambo_gossip.specs.Outlines.{standing_of}
use Rattle.rambo_letters.proofs.Sharing.{get_last}
use Rattle.rambo_letters.proofs.letters.added.Goals as goal

pub returns-in_err-push-clause-grows : goal.returns-in_err-push-clause-grows
returns-in_err-push-clause-grows g c = ([], c.in_err-push.ensures.items ∙ sym (append-nil c.args.standings.now.items))

pub returns-clause-at : goal.returns-clause-at
returns-clause-at g c =
    let old = c.args.standings.now.items in
    ap (λ ms. slice_get ms c.len-count.result) (c.in_ok-push.ensures.items ∙ ap (λ m. old ++ m ∷ []) c.of.ensures)
    ∙ ap (slice_get (old ++ standing_of c.args.gossip.now ∷ [])) (c.len-count.ensures ∙ c.args.standings.now.ok.0) ∙ get_last old (standing_of c.args.gossip.now)

pub of-requires : goal.of-requires
of-requires g c = assumption

pub returns-clause-grows : goal.returns-clause-grows
returns-clause-grows g c = (_ ∷ [], c.in_ok-push.ensures.items)
