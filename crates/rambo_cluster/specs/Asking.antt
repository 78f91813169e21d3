-- Which step a client asks for
use Rattle.std.specs.Prelude.{ℕ, Option, None, Some}
use Rattle.rambo_names.specs.Weights.{Weights}
use Rattle.rambo_node.specs.Steps.{Step}
use Rattle.rambo_node.specs.declared.step.StepOf.TheVariants as step
use Rattle.rambo_commands.specs.declared.server_request.ServerRequest.{ServerRequest}
use Rattle.rambo_commands.specs.declared.server_request.ServerRequest.TheVariants.{Common, Use, Join, Recon, Collect, Stop, Config, Info, Shutdown}

-- the node whose step a request asks for, and the step. The client's own node has a configuration chosen, or its lowest
-- place removed. A node that joins or stops is named by the request
abbrev pub asked_of : ℕ → ServerRequest → Option (ℕ × Step Weights)
asked_of used (Join name known) = Some (name, step.Join name known)
asked_of used (Recon wish) = Some (used, step.Recon used wish)
asked_of used Collect = Some (used, step.Collect used)
asked_of used (Stop name) = Some (name, step.Stop name)
asked_of used (Common request) = None
asked_of used (Use name) = None
asked_of used Config = None
asked_of used Info = None
asked_of used Shutdown = None
