use Rattle.std.proofs.Common.{◌≡◌, [], take, refl, sym, ap, ◌∙◌, subst, arith}
use Rattle.std.proofs.KnownBytes.{Consumes-nil, Appends-nil}
use Rattle.std.specs.Io.KnownBytes.{Appends}
use Rattle.rambo_atomic.specs.Streams.{Begins, counted}
use Rattle.rambo_resp.specs.Decoders.{DecoderState}
use Rattle.rambo_resp.specs.Streams.{Reads}
use Rattle.rambo_client.specs.Faults.{of_stream, reads_failed, writes_failed}
use Rattle.rambo_client.specs.declared.fault.LocalFault.{LocalFault}
use Rattle.rambo_client.specs.Talks.{is_faulty}
use Rattle.rambo_names.proofs.Errors.{err_kept, err_ok, on_err}
use Rattle.rambo_client.proofs.Gains.{none_done}
use Rattle.rambo_client.proofs.Pieces.{stopped, ended, broken_off, written_in_part, done_by_fault, goes_on}
use Rattle.rambo_client.proofs.serving.serve_pieces.Goals as goal

pub loop-count-init : goal.loop-count-init
loop-count-init g c =
    let d = c.args.decoder.now in
    let t = c.requires.taken in
    let none : d.waiting ≡ [] = ap (λ (d : DecoderState). d.waiting) c.requires.empty in (
      record {
        stream = [];
        commands = [];
        talk = record {
          reads = subst (λ cs. Reads [] cs d.ending) (sym t.waiting ∙ none) t.reads;
          given = none;
          calls = none_done c.args.client.now.name c.args.client.now.founders (g.C.Cluster.took c.args.cluster.now) c.requires.fresh;
        };
        goes_on = ap (λ (d : DecoderState). is_faulty d.ending) c.requires.empty;
        read = Consumes-nil (g.R.Source.left c.args.reader.now);
        written = Appends-nil (g.W.Sink.taken c.args.writer.now);
      },
      refl,
      refl,
      c.requires.room,
    )

pub returns-in_err-over-clause-err : goal.returns-in_err-over-clause-err
returns-in_err-over-clause-err g c =
    let l = c.loop-count in
    let going = l.invariant.0 in
    let piece = take c.in-Ok.count c.read.new.into in
    let read = c.in-Ok.ensures.bytes in
    on_err c.from_residual.result
    (broken_off c.args.client.now.name c.args.client.now.founders l.decoder (g.C.Cluster.took l.cluster) (g.R.Source.left c.args.reader.now) (g.R.Source.left l.reader) (g.W.Sink.taken c.args.writer.now) (g.W.Sink.taken l.writer) going (g.R.Source.left c.read.new.self) piece read
    (g.C.Cluster.took c.take.new.cluster) (c.in_err-over.ensures.err going.stream going.commands going.talk))

pub returns-in_err-write_all-clause-err : goal.returns-in_err-write_all-clause-err
returns-in_err-write_all-clause-err g c =
    let l = c.loop-count in
    let going = l.invariant.0 in
    let piece = take c.in-Ok.count c.read.new.into in
    let read = c.in-Ok.ensures.bytes in
    on_err c.from_residual-in_err-write_all.result
    (written_in_part c.args.client.now.name c.args.client.now.founders l.decoder (g.C.Cluster.took l.cluster) (g.R.Source.left c.args.reader.now) (g.R.Source.left l.reader) (g.W.Sink.taken c.args.writer.now) (g.W.Sink.taken l.writer) going (g.R.Source.left c.read.new.self) piece read
    c.take.new.decoder (g.C.Cluster.took c.take.new.cluster) c.take.new.out.items (c.in_ok-over.ensures.ok going.stream going.commands going.talk) (g.W.Sink.taken c.write_all.new.writer)
    (subst (Begins (g.W.Sink.taken l.writer) (g.W.Sink.taken c.write_all.new.writer)) c.as_slice.ensures c.in_err-write_all.ensures.err))

pub returns-then-over-clause-ok : goal.returns-then-over-clause-ok
returns-then-over-clause-ok g c =
    let l = c.loop-count in
    let going = l.invariant.0 in
    let piece = take c.in-Ok.count c.read.new.into in
    let read = c.in-Ok.ensures.bytes in
    done_by_fault c.args.client.now.name c.args.client.now.founders l.decoder (g.C.Cluster.took l.cluster) (g.R.Source.left c.args.reader.now) (g.R.Source.left l.reader) (g.W.Sink.taken c.args.writer.now) (g.W.Sink.taken l.writer) going (g.R.Source.left c.read.new.self) piece read
    c.take.new.decoder (g.C.Cluster.took c.take.new.cluster) c.take.new.out.items (c.in_ok-over.ensures.ok going.stream going.commands going.talk) (g.W.Sink.taken c.write_all.new.writer)
    (subst (Appends (g.W.Sink.taken l.writer) (g.W.Sink.taken c.write_all.new.writer)) c.as_slice.ensures c.in_ok-write_all.ensures.ok) (sym c.in_ok-over.ensures.over ∙ c.if-over.true)

pub loop-count-preserved : goal.loop-count-preserved
loop-count-preserved g c =
    let l = c.loop-count in
    let going = l.invariant.0 in
    let piece = take c.in-Ok.count c.read.new.into in
    let read = c.in-Ok.ensures.bytes in (
      goes_on c.args.client.now.name c.args.client.now.founders l.decoder (g.C.Cluster.took l.cluster) (g.R.Source.left c.args.reader.now) (g.R.Source.left l.reader) (g.W.Sink.taken c.args.writer.now) (g.W.Sink.taken l.writer) going (g.R.Source.left c.read.new.self) piece read
          c.take.new.decoder (g.C.Cluster.took c.take.new.cluster) c.take.new.out.items (c.in_ok-over.ensures.ok going.stream going.commands going.talk) (g.W.Sink.taken c.write_all.new.writer)
          (subst (Appends (g.W.Sink.taken l.writer) (g.W.Sink.taken c.write_all.new.writer)) c.as_slice.ensures c.in_ok-write_all.ensures.ok) (sym c.in_ok-over.ensures.over ∙ c.if-over.false),
      c.in-Ok.ensures.fine ∙ l.invariant.1,
      c.in_ok-write_all.ensures.fine ∙ l.invariant.2,
      omega (arith, l.invariant.3),
    )

pub returns-in_default-clause-err : goal.returns-in_default-clause-err
returns-in_default-clause-err g c =
    let l = c.loop-count in
    stopped c.args.client.now.name c.args.client.now.founders l.decoder (g.C.Cluster.took l.cluster) (g.R.Source.left c.args.reader.now) (g.R.Source.left l.reader) (g.W.Sink.taken c.args.writer.now) (g.W.Sink.taken l.writer) l.invariant.0 (g.R.Source.left c.read.new.self) c.in_default.ensures.kept

pub returns-in_default-clause-reads : goal.returns-in_default-clause-reads
returns-in_default-clause-reads g c = c.in_default.ensures.failed ∙ ap counted c.loop-count.invariant.1

pub returns-in_default-clause-writes : goal.returns-in_default-clause-writes
returns-in_default-clause-writes g c = c.loop-count.invariant.2

pub returns-then-count-eq0-clause-ok : goal.returns-then-count-eq0-clause-ok
returns-then-count-eq0-clause-ok g c =
    let l = c.loop-count in
    let zero : c.in-Ok.count ≡ 0 = omega (arith, c.if-count-eq0.true) in
    ended c.args.client.now.name c.args.client.now.founders l.decoder (g.C.Cluster.took l.cluster) (g.R.Source.left c.args.reader.now) (g.R.Source.left l.reader) (g.W.Sink.taken c.args.writer.now) (g.W.Sink.taken l.writer) l.invariant.0 (g.R.Source.left c.read.new.self) (take c.in-Ok.count c.read.new.into) (ap (λ n. take n c.read.new.into) zero) c.in-Ok.ensures.bytes (c.in-Ok.ensures.end zero)

pub returns-then-count-eq0-clause-fine_reader : goal.returns-then-count-eq0-clause-fine_reader
returns-then-count-eq0-clause-fine_reader g c = c.in-Ok.ensures.fine ∙ c.loop-count.invariant.1

pub returns-then-count-eq0-clause-fine_writer : goal.returns-then-count-eq0-clause-fine_writer
returns-then-count-eq0-clause-fine_writer g c = c.loop-count.invariant.2

pub returns-in_err-over-clause-ok : goal.returns-in_err-over-clause-ok
returns-in_err-over-clause-ok g c = err_ok c.from_residual.result _ _ c.from_residual.ensures.1

pub returns-in_err-over-clause-fine_reader : goal.returns-in_err-over-clause-fine_reader
returns-in_err-over-clause-fine_reader g c = err_ok c.from_residual.result _ _ c.from_residual.ensures.1

pub returns-in_err-over-clause-fine_writer : goal.returns-in_err-over-clause-fine_writer
returns-in_err-over-clause-fine_writer g c = err_ok c.from_residual.result _ _ c.from_residual.ensures.1

pub returns-in_err-write_all-clause-ok : goal.returns-in_err-write_all-clause-ok
returns-in_err-write_all-clause-ok g c = err_ok c.from_residual-in_err-write_all.result _ _ c.from_residual-in_err-write_all.ensures.1

pub returns-in_err-write_all-clause-fine_reader : goal.returns-in_err-write_all-clause-fine_reader
returns-in_err-write_all-clause-fine_reader g c = err_ok c.from_residual-in_err-write_all.result _ _ c.from_residual-in_err-write_all.ensures.1

pub returns-in_err-write_all-clause-fine_writer : goal.returns-in_err-write_all-clause-fine_writer
returns-in_err-write_all-clause-fine_writer g c = err_ok c.from_residual-in_err-write_all.result _ _ c.from_residual-in_err-write_all.ensures.1

pub returns-in_err-over-clause-reads : goal.returns-in_err-over-clause-reads
returns-in_err-over-clause-reads g c =
    let failed = λ (f : LocalFault). g.R.Source.failures c.read.new.self ≡ reads_failed f (g.R.Source.failures c.args.reader.now) in
    err_kept c.from_residual.result failed _ c.from_residual.ensures.1 (subst failed (sym c.in_err-over.ensures.refused) (c.in-Ok.ensures.fine ∙ c.loop-count.invariant.1))

pub returns-in_err-over-clause-writes : goal.returns-in_err-over-clause-writes
returns-in_err-over-clause-writes g c =
    let failed = λ (f : LocalFault). g.W.Sink.failures c.loop-count.writer ≡ writes_failed f (g.W.Sink.failures c.args.writer.now) in
    err_kept c.from_residual.result failed _ c.from_residual.ensures.1 (subst failed (sym c.in_err-over.ensures.refused) c.loop-count.invariant.2)

pub returns-in_err-write_all-clause-reads : goal.returns-in_err-write_all-clause-reads
returns-in_err-write_all-clause-reads g c =
    let failed = λ (f : LocalFault). g.R.Source.failures c.read.new.self ≡ reads_failed f (g.R.Source.failures c.args.reader.now) in
    err_kept c.from_residual-in_err-write_all.result failed _ c.from_residual-in_err-write_all.ensures.1
    (subst (λ f. failed (of_stream f)) (sym c.in_err-write_all.ensures.fault.0) (c.in-Ok.ensures.fine ∙ c.loop-count.invariant.1))

pub returns-in_err-write_all-clause-writes : goal.returns-in_err-write_all-clause-writes
returns-in_err-write_all-clause-writes g c =
    let failed = λ (f : LocalFault). g.W.Sink.failures c.write_all.new.writer ≡ writes_failed f (g.W.Sink.failures c.args.writer.now) in
    err_kept c.from_residual-in_err-write_all.result failed _ c.from_residual-in_err-write_all.ensures.1
    (subst (λ f. failed (of_stream f)) (sym c.in_err-write_all.ensures.fault.0) (c.in_err-write_all.ensures.fault.1 ∙ ap counted c.loop-count.invariant.2))

pub returns-then-over-clause-fine_reader : goal.returns-then-over-clause-fine_reader
returns-then-over-clause-fine_reader g c = c.in-Ok.ensures.fine ∙ c.loop-count.invariant.1

pub returns-then-over-clause-fine_writer : goal.returns-then-over-clause-fine_writer
returns-then-over-clause-fine_writer g c = c.in_ok-write_all.ensures.fine ∙ c.loop-count.invariant.2

pub loop-count-smaller : goal.loop-count-smaller
loop-count-smaller g c = omega (arith, c.read.ensures.reads, c.in-Ok.ensures.limit)
