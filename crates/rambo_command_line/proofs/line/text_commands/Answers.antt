use Rattle.std.proofs.Common.{◌∙◌, ap, ap₂}
use Rattle.std.proofs.lemmas.Result.{IfOk-weaker}
use Rattle.clap.specs.Simple.{App}
use Rattle.clap.specs.Words.{with_subcommand}
use Rattle.rambo_command_line.specs.Lines.{with_founders, with_options}
use Rattle.rambo_command_line.proofs.line.text_commands.Goals as goal

pub returns : goal.returns
returns c =
    IfOk-weaker c.subcommand-2.result _ _ (λ r h. ap (λ a. with_subcommand (with_subcommand a with_founders) with_options) (h.shape c.in_ok-check_command.ensures.1
    ∙ ap₂ with_subcommand (c.in_ok-subcommand.ensures.shape c.bare_command.ensures.local
    ∙ ap₂ with_subcommand c.in_ok-program.ensures (ap (λ (a : App). a.top) c.bare_command.ensures.app))
    c.in_ok-check_command.ensures.0)) c.subcommand-2.ensures
