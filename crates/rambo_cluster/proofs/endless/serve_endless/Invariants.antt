use Rattle.std.proofs.Common.{Some, true}
use Rattle.rambo_scribe.specs.Traced.{taken_by}
use Rattle.rambo_cluster.proofs.endless.serve_endless.Given as goal

abbrev pub ghosts-serve_endless_named-J-Naming : goal.ghosts-serve_endless_named-J-Naming
ghosts-serve_endless_named-J-Naming g a = record { table = a.opened }

abbrev pub ghosts-serve_endless_named-J-Terms : goal.ghosts-serve_endless_named-J-Terms
ghosts-serve_endless_named-J-Terms g a = record { founders = Some a.founders; capacity = a.steps; endless = true; lose = a.options.now.lose; twice = a.options.now.twice }

abbrev pub ghosts-serve_endless_named-J-Starts : goal.ghosts-serve_endless_named-J-Starts
ghosts-serve_endless_named-J-Starts g a = record { before = taken_by g.W.Sink.taken g.W.Sink.failures a.writer; syncs = a.options.now.syncs }
