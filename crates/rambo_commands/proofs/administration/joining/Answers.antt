use Rattle.rambo_commands.proofs.Shapes.{two_words}
use Rattle.rambo_commands.proofs.Asked.{judged_wrong, join_asked, join_refused, join_bad}
use Rattle.rambo_commands.proofs.administration.joining.Goals as goal

pub returns-in_err-known-in-len2 : goal.returns-in_err-known-in-len2
returns-in_err-known-in-len2 c =
    let bad = c.in_err-known-in-len2.ensures.bad in
    join_bad c.args.arguments.now c.word-item.result c.known-item.result
    (two_words c.args.arguments.now c.word-item.result c.known-item.result c.in-len2.len_at_least c.in-len2.len_below c.word-item.is c.known-item.is) _ (λ spelt. bad.1 spelt.1)
    (judged_wrong c.from_residual-in_err-known-in-len2.result _ _ c.from_residual-in_err-known-in-len2.ensures.1 bad.0)

pub returns-in_err-named-in-len2 : goal.returns-in_err-named-in-len2
returns-in_err-named-in-len2 c =
    let none = c.in_err-named-in-len2.ensures.refused in
    join_refused c.args.arguments.now c.word-item.result c.known-item.result
    (two_words c.args.arguments.now c.word-item.result c.known-item.result c.in-len2.len_at_least c.in-len2.len_below c.word-item.is c.known-item.is)
    c.in_ok-number-in-len2.number c.in_ok-known-in-len2.known _ c.in_ok-number-in-len2.ensures.number c.in_ok-known-in-len2.ensures.set none.1
    (judged_wrong c.from_residual-in_err-named-in-len2.result _ _ c.from_residual-in_err-named-in-len2.ensures.1 none.0)

pub returns-in_ok-named-in-len2 : goal.returns-in_ok-named-in-len2
returns-in_ok-named-in-len2 c =
    let name = c.in_ok-named-in-len2.ensures.name in
    join_asked c.args.arguments.now c.word-item.result c.known-item.result
    (two_words c.args.arguments.now c.word-item.result c.known-item.result c.in-len2.len_at_least c.in-len2.len_below c.word-item.is c.known-item.is)
    c.in_ok-number-in-len2.number c.in_ok-named-in-len2.field-0 c.in_ok-known-in-len2.known c.in_ok-number-in-len2.ensures.number c.in_ok-known-in-len2.ensures.set name.0 name.1
