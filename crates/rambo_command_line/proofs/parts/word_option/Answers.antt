use Rattle.std.proofs.Common.{◌∙◌, ap, Some}
use Rattle.clap.specs.declared.builder.action.ArgAction.TheVariants.{Set}
use Rattle.clap.specs.declared.builder.arg.Arg.{Arg}
use Rattle.clap.specs.Walk.{Rule, rule_of}
use Rattle.rambo_command_line.proofs.parts.word_option.Goals as goal

pub returns-clause-rule : goal.returns-clause-rule
returns-clause-rule c =
    let long : Rule → Rule = λ r. record r { long = Some c.args.name.now } in
    let setting : Rule → Rule = λ r. record r { action = Some Set } in
    let named : Rule → Rule = λ r. record r { value_names = 1 } in
    ap rule_of c.help.ensures ∙ ap rule_of c.value_name.ensures
    ∙ ap named (ap rule_of c.action.ensures ∙ ap setting (ap rule_of c.long.ensures ∙ ap long c.new.ensures.rule))

pub returns-clause-own : goal.returns-clause-own
returns-clause-own c =
    ap (λ (a : Arg). a.global) c.help.ensures ∙ ap (λ (a : Arg). a.global) c.value_name.ensures ∙ ap (λ (a : Arg). a.global) c.action.ensures
    ∙ ap (λ (a : Arg). a.global) c.long.ensures ∙ c.new.ensures.optional.1
