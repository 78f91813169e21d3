use Rattle.std.proofs.Common.{◌≡◌, ◌∙◌, Some, ap, sym, subst}
use Rattle.std.specs.Option.{IsSomeAnd}
use Rattle.rambo_gossip.specs.Letters.{letter_with}
use Rattle.rambo_logs.specs.NodeLogs.{extended}
use Rattle.rambo_node.specs.Changes.{made_by}
use Rattle.rambo_node.specs.Acts as act
use Rattle.rambo_world.specs.Hearing.{lacked_of}
use Rattle.rambo_world.proofs.Heard.{lacks_nothing}
use Rattle.rambo_world.proofs.nodes.hear.Goals as goal

pub take_on-requires : goal.take_on-requires
take_on-requires g c within =
    subst (λ o. IsSomeAnd o (λ b. b.to ≡ c.letter.inside.addressee)) (sym (c.in_ok-copies.ensures.brought within)) (sym (ap (λ l. l.addressee) c.letter.view_is))

pub returns-clause-heard : goal.returns-clause-heard
returns-clause-heard g c =
    let ls = c.args.logs.now.logs in
    let l = c.args.letter.now in
    let more = lacked_of ls l c.args.start c.args.end in
    let at = ap (λ l. l.addressee) c.letter.view_is in
    let put = c.take_on.ensures more (λ within. c.in_ok-copies.ensures.brought within ∙ ap (λ n. Some (record { to = n; copies = more })) (sym at)) (lacks_nothing ls l c.args.start c.args.end) in
    record {
      node = c.in_ok-hear_with.ensures.node ∙ ap (λ p. (made_by c.args.node.now.state (act.Hear (letter_with l p))).node) c.in_ok-copies.ensures.given;
      logs = put ∙ λ i. extended (c.bring.ensures.same i) (at i) more;
      enough = c.in_ok-copies.ensures.enough;
    }
