use Rattle.std.proofs.Common.{ap, ◌∙◌, Some, if◌then◌else◌}
use Rattle.rambo_paxos.specs.Votes.{taken_if}
use Rattle.rambo_bids.specs.Hearing.{is_level}
use Rattle.rambo_bids.proofs.hearing.hear_offer.Goals as goal

-- the vote that is kept takes the offer, if that is for its place
pub returns-in-Some : goal.returns-in-Some
returns-in-Some g c =
    let offer = Some c.in-Some.offer in
    let is_taken = is_level c.args.map.now c.args.told.now in
    rw c.in-Some.is (c.take_offer.ensures ∙ ap (λ v. if is_taken then taken_if v offer else v) c.keep_if_next.ensures)
