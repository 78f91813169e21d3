use Rattle.std.proofs.Common.{◌≡◌, IfOk, ap, ◌∙◌, subst}
use Rattle.std.specs.FinMap as map
use Rattle.rambo_gossip.specs.Letters.{LetterState, letter_with}
use Rattle.rambo_gossip.proofs.Fitting.{standing_fits}
use Rattle.rambo_node.specs.Letters.{letter_for}
use Rattle.rambo_node.proofs.Outlines.{letter_twice}
use Rattle.rambo_node.proofs.node.Node.letter_of.Goals as goal

pub new-requires : goal.new-requires
new-requires g c = standing_fits 0 g.row.Q g.Q.Quorums g.Q.PartialEq g.met.Q.Quorums.small

pub drop-told-requires-room-T-Destruct : goal.drop-told-requires-room-T-Destruct
drop-told-requires-room-T-Destruct g c κs within = standing_fits 0 g.row.Q g.Q.Quorums g.Q.PartialEq g.met.Q.Quorums.small

pub returns-clause-same : goal.returns-clause-same
returns-clause-same g c =
    let l = letter_for c.args.self.now.state c.args.to in
    let copies = c.args.copies in
    subst (λ (o : LetterState _). IfOk c.new.result (λ m. m ≡ o)) (ap (λ (o : LetterState _). letter_with o copies) c.outline_for-outline.ensures ∙ letter_twice l map.empty copies) c.new.ensures.same
