use Rattle.std.proofs.Common.{Some, None, false}
use Rattle.rambo_cluster.proofs.serving.serve.Given as goal

abbrev pub ghosts-serve_named-J-Naming : goal.ghosts-serve_named-J-Naming
ghosts-serve_named-J-Naming g a = record { table = a.opened }

abbrev pub ghosts-serve_named-J-Terms : goal.ghosts-serve_named-J-Terms
ghosts-serve_named-J-Terms g a = record { founders = Some a.founders; capacity = a.steps; endless = false; lose = a.options.now.lose; twice = a.options.now.twice }

-- (a server whose trace is written at its end has no scribe)
abbrev pub ghosts-serve_named-J-Starts : goal.ghosts-serve_named-J-Starts
ghosts-serve_named-J-Starts g a = record { before = record { bytes = None; failures = 0 }; syncs = false }
