use Rattle.std.proofs.Common.{◌≡◌, ap, ◌∙◌, subst}
use Rattle.rambo_names.specs.declared.refusal.Refusal.TheVariants.{OutOfMemory}
use Rattle.rambo_commands.specs.Administration.{Asks}
use Rattle.rambo_commands.specs.declared.request.Request.TheVariants.{Says}
use Rattle.rambo_commands.specs.declared.server_request.ServerRequest.TheVariants.{Common}
use Rattle.rambo_connection.specs.Connections.{owing}
use Rattle.rambo_connection.proofs.Taking.{refused, said, used, ended}
use Rattle.rambo_connection.proofs.connection.Connection.take_on.Goals as goal

pub returns-in_default : goal.returns-in_default
returns-in_default c = refused c.args.command c.args.self.now _ c.requires.goes_on (ap (owing OutOfMemory) c.self.view_is)

pub returns-in-Use : goal.returns-in-Use
returns-in-Use c =
    used c.args.command c.args.self.now c.use_node.new.self c.requires.goes_on c.in-Use.node (subst (Asks c.args.command) c.in-Use.is c.in-Ok.ensures.ok) c.use_node.ensures

pub returns-in-Shutdown : goal.returns-in-Shutdown
returns-in-Shutdown c =
    ended c.args.command c.args.self.now c.end_all.new.self c.requires.goes_on c.end_all.result (subst (Asks c.args.command) c.in-Shutdown.is c.in-Ok.ensures.ok) c.end_all.ensures

pub returns-in-Says : goal.returns-in-Says
returns-in-Says c =
    let is : c.in-Ok.request ≡ Common (Says c.in-Says.words) = c.in-Common.is ∙ ap Common c.in-Says.is in
    said c.args.command c.args.self.now c.say.new.self c.requires.goes_on c.in-Says.words c.say.result (subst (Asks c.args.command) is c.in-Ok.ensures.ok) c.say.ensures.yes c.say.ensures.no
