use Rattle.std.proofs.Common.{◌∙◌, ap, true}
use Rattle.std.proofs.lemmas.Result.{IfOk-weaker}
use Rattle.clap.specs.Simple.{Shape, app_of_fields, on_top}
use Rattle.rambo_command_line.proofs.line.program.Goals as goal

pub returns : goal.returns
returns c =
    let versioned : Shape → Shape = λ s. record s { has_version = true } in
    let nameless : Shape → Shape = λ s. record s { no_binary_name = true } in
    let wanting : Shape → Shape = λ s. record s { subcommand_required = true } in
    IfOk-weaker c.bin_name.result _ _ (λ r h. ap app_of_fields h.0 ∙ ap app_of_fields c.subcommand_required.ensures
    ∙ ap (on_top wanting) (ap app_of_fields c.no_binary_name.ensures
    ∙ ap (on_top nameless) (ap app_of_fields c.version.ensures ∙ ap (on_top versioned) c.bare_command.ensures.app))) c.bin_name.ensures
