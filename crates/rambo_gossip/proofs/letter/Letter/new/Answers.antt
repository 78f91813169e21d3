use Rattle.std.proofs.Common.{◌≡◌, sym, ap, ◌∙◌}
use Rattle.rambo_gossip.specs.Kinds as kind
use Rattle.rambo_gossip.specs.Letters.{LetterState, kind_of, kind_with, letter_with}
use Rattle.rambo_gossip.specs.Outlines.{outlined}
use Rattle.rambo_gossip.proofs.Fitting.{standing_fits}
use Rattle.rambo_gossip.proofs.letter.Letter.new.Goals as goal
use Rattle.rambo_gossip.proofs.letter.Letter.new.Goals.{in-None, in-Some+in_ok-new-in-Some}

pub new-requires : goal.new-requires
new-requires g c = standing_fits 0 g.row.Q g.Q.Quorums g.Q.PartialEq g.met.Q.Quorums.small

pub returns-clause-same : goal.returns-clause-same
returns-clause-same g c =
    let inside = c.outline.inside in
    let copies = c.args.copies in
    let is : kind_of c.match-outline.gossip ≡ kind_with (outlined inside.gossip) copies = elim c.match-outline.branch [
      | in-None w ↦ ap kind_of w.gossip-is ∙ sym (ap (λ o. kind_with (outlined o) copies) w.in-None.is)
      | in-Some+in_ok-new-in-Some w ↦ ap kind_of w.gossip-is ∙ ap (λ g. kind.Gossip g) w.in_ok-new-in-Some.ensures.same ∙ sym (ap (λ o. kind_with (outlined o) copies) w.in-Some.is)
    ] in
    (λ i. record { sender = inside.sender; addressee = inside.addressee; kind = is i }) ∙ ap (λ (l : LetterState _). letter_with l copies) c.outline.view_is
