use Rattle.std.proofs.Common.{Some, true}
use Rattle.rambo_lasting.specs.Resumings.{emptied}
use Rattle.rambo_lasting.proofs.resuming.go_on.Given as goal

abbrev pub ghosts-go_on_named-J-Naming : goal.ghosts-go_on_named-J-Naming
ghosts-go_on_named-J-Naming g a = record { table = a.opened }

abbrev pub ghosts-go_on_named-J-Terms : goal.ghosts-go_on_named-J-Terms
ghosts-go_on_named-J-Terms g a = record { founders = Some a.founders; capacity = a.steps; endless = true; lose = a.options.now.lose; twice = a.options.now.twice }

abbrev pub ghosts-go_on_named-J-Starts : goal.ghosts-go_on_named-J-Starts
ghosts-go_on_named-J-Starts g a = record { before = emptied (record { bytes = g.K.Holds.held; failures = g.F.Sink.failures a.reading }); syncs = a.options.now.syncs }
