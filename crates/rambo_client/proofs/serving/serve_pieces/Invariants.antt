use Rattle.std.proofs.Common.{◌≡◌, ◌<◌, length}
use Rattle.rambo_client.proofs.Pieces.{Going}
use Rattle.rambo_client.proofs.serving.serve_pieces.Given as goal

abbrev pub invariant-loop-count : goal.invariant-loop-count
invariant-loop-count g l =
    Going l.client.name l.client.founders l.decoder (g.C.Cluster.took l.cluster) (g.R.Source.left l.fn.reader) (g.R.Source.left l.reader) (g.W.Sink.taken l.fn.writer) (g.W.Sink.taken l.writer)
    × (g.R.Source.failures l.reader ≡ g.R.Source.failures l.fn.reader)
    × (g.W.Sink.failures l.writer ≡ g.W.Sink.failures l.fn.writer)
    × (0 < length l.piece)

abbrev pub decreases-loop-count : goal.decreases-loop-count
decreases-loop-count g l = g.R.Source.reads_left l.reader
