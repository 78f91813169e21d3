use Rattle.std.proofs.Common.{◌≡◌, refl}
use Rattle.rambo_names.proofs.Errors.{err_kept, err_ok, on_err}
use Rattle.rambo_client.specs.Faults.{reads_failed, writes_failed}
use Rattle.rambo_client.specs.declared.fault.LocalFault.TheVariants.{Memory}
use Rattle.rambo_client.proofs.Pieces.{nothing}
use Rattle.rambo_client.proofs.serving.serve.Goals as goal

pub returns-in_err-resize-clause-ok : goal.returns-in_err-resize-clause-ok
returns-in_err-resize-clause-ok g c = err_ok c.from_residual.result _ _ c.from_residual.ensures.1

pub returns-in_err-resize-clause-err : goal.returns-in_err-resize-clause-err
returns-in_err-resize-clause-err g c =
    on_err c.from_residual.result (nothing c.args.client.now.name c.args.client.now.founders (g.R.Source.left c.args.reader.now) (g.W.Sink.taken c.args.writer.now) (g.C.Cluster.took c.args.cluster.now) c.requires)

pub returns-in_err-resize-clause-fine_reader : goal.returns-in_err-resize-clause-fine_reader
returns-in_err-resize-clause-fine_reader g c = err_ok c.from_residual.result _ _ c.from_residual.ensures.1

pub returns-in_err-resize-clause-fine_writer : goal.returns-in_err-resize-clause-fine_writer
returns-in_err-resize-clause-fine_writer g c = err_ok c.from_residual.result _ _ c.from_residual.ensures.1

pub returns-in_err-resize-clause-reads : goal.returns-in_err-resize-clause-reads
returns-in_err-resize-clause-reads g c =
    let n = g.R.Source.failures c.args.reader.now in
    err_kept c.from_residual.result (λ f. n ≡ reads_failed f n) Memory c.from_residual.ensures.1 refl

pub returns-in_err-resize-clause-writes : goal.returns-in_err-resize-clause-writes
returns-in_err-resize-clause-writes g c =
    let n = g.W.Sink.failures c.args.writer.now in
    err_kept c.from_residual.result (λ f. n ≡ writes_failed f n) Memory c.from_residual.ensures.1 refl
