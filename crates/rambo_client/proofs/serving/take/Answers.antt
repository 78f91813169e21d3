use Rattle.std.proofs.Common.{◌++◌, Result, Ok, Err, OnOk, OnErr}
use Rattle.rambo_client.proofs.Fronts.{rest_answers, rest_breaks}
use Rattle.rambo_client.proofs.serving.take.Goals as goal

on_ok-then : {A E : Type 0} (r : Result A E) (P Q : Type 0) → (P → Q) → OnOk r P → OnOk r Q
on_ok-then (Ok x) P Q f p = f p
on_ok-then (Err e) P Q f p = tt

on_err-then : {A E : Type 0} (r : Result A E) (P Q : Type 0) → (P → Q) → OnErr r P → OnErr r Q
on_err-then (Ok x) P Q f p = tt
on_err-then (Err e) P Q f p = f p

pub returns-clause-ok : goal.returns-clause-ok
returns-clause-ok g c = λ stream commands talk.
    let name = c.args.client.now.name in
    let founders = c.args.client.now.founders in
    let front = c.in_ok-rest.ensures.ok stream commands talk in
    on_ok-then c.take_rest.result _ _
    (rest_answers name founders c.answer_front.new.decoder (g.C.Cluster.took c.answer_front.new.cluster) stream commands c.args.piece.now c.in_ok-rest.rest.now c.clear.new.self.items c.answer_front.new.out.items front
    c.take_rest.new.decoder (g.C.Cluster.took c.take_rest.new.cluster) c.take_rest.new.out.items c.clear.ensures.items)
    (c.take_rest.ensures.ok (stream ++ front.front) (commands ++ front.new) front.talk)

pub returns-clause-err : goal.returns-clause-err
returns-clause-err g c = λ stream commands talk.
    let name = c.args.client.now.name in
    let founders = c.args.client.now.founders in
    let front = c.in_ok-rest.ensures.ok stream commands talk in
    on_err-then c.take_rest.result _ _
    (rest_breaks name founders c.answer_front.new.decoder (g.C.Cluster.took c.answer_front.new.cluster) stream commands c.args.piece.now c.in_ok-rest.rest.now c.clear.new.self.items c.answer_front.new.out.items front
    (g.C.Cluster.took c.take_rest.new.cluster))
    (c.take_rest.ensures.err (stream ++ front.front) (commands ++ front.new) front.talk)
