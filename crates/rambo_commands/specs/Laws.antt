-- What holds of every command
use Rattle.std.specs.Prelude.{◌≡◌, ℕ, List}
use Rattle.rambo_commands.specs.declared.server_request.ServerRequest.{ServerRequest}
use Rattle.rambo_commands.specs.Administration.{Asks}

-- it asks for nothing else
abbrev pub AsksOnce : Type 0
AsksOnce = (items : List (List ℕ)) (asked other : ServerRequest) → Asks items asked → Asks items other → asked ≡ other
