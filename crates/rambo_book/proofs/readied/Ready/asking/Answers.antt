use Rattle.rambo_book.proofs.readied.Ready.asking.Goals as goal

pub returns-clause-ready : goal.returns-clause-ready
returns-clause-ready g c = λ agreed k ready f e.
    let r = ready f e in
    record { act = r.act; means = r.means; accepted = r.accepted; ready = r.ready; brings = r.brings }
