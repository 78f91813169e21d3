use Rattle.std.proofs.Common.{◌∙◌, ap, ap₂}
use Rattle.std.proofs.lemmas.Result.{IfOk-weaker}
use Rattle.clap.specs.Words.{app_of, with_subcommand}
use Rattle.rambo_command_line.specs.Lines.{with_options}
use Rattle.rambo_command_line.proofs.line.rambo_command.Goals as goal

pub returns : goal.returns
returns c =
    IfOk-weaker c.subcommand-2.result _ _ (λ r h. h.shape c.in_ok-serve_command.ensures.1
    ∙ ap₂ with_subcommand (c.in_ok-subcommand.ensures.shape c.in_ok-local_command.ensures.1) c.in_ok-serve_command.ensures.0
    ∙ ap (λ s. with_subcommand (with_subcommand (app_of c.in_ok-text_commands.field-0) s) with_options) c.in_ok-local_command.ensures.0
    ∙ c.in_ok-text_commands.ensures) c.subcommand-2.ensures
