use Rattle.rambo_commands.proofs.Shapes.{one_word}
use Rattle.rambo_commands.proofs.Asked.{judged_wrong, recon_asked, recon_bad}
use Rattle.rambo_commands.proofs.administration.changing.Goals as goal

pub returns-in_err-conf_in-in-len1 : goal.returns-in_err-conf_in-in-len1
returns-in_err-conf_in-in-len1 c =
    let bad = c.in_err-conf_in-in-len1.ensures.bad in
    recon_bad c.args.arguments.now c.word-item.result _ (one_word c.args.arguments.now c.word-item.result c.in-len1.len_at_least c.in-len1.len_below c.word-item.is) bad.1
    (judged_wrong c.from_residual.result _ _ c.from_residual.ensures.1 bad.0)

pub returns-in_ok-conf_in-in-len1 : goal.returns-in_ok-conf_in-in-len1
returns-in_ok-conf_in-in-len1 c =
    recon_asked c.args.arguments.now c.word-item.result c.in_ok-conf_in-in-len1.field-0
    (one_word c.args.arguments.now c.word-item.result c.in-len1.len_at_least c.in-len1.len_below c.word-item.is) c.in_ok-conf_in-in-len1.ensures.conf
