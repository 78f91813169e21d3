use Rattle.std.proofs.Common.{◌≡◌, ◌++◌, length, arith, Some, None, refl, sym, ap, ◌∙◌, subst}
use Rattle.std.proofs.lemmas.List.{take_all}
use Rattle.rambo_resp.specs.Progresses.{ProgressState}
use Rattle.rambo_resp.specs.Decoders.{DecoderState, HasTaken}
use Rattle.rambo_resp.specs.Rests.{spelled}
use Rattle.rambo_resp.specs.Streams.{open_at, faulty}
use Rattle.rambo_resp.specs.Endings.{ending_of}
use Rattle.rambo_resp.proofs.Readings.{reached_sound}
use Rattle.rambo_resp.proofs.Feeding.{view, fresh_reached, read_reached, fed_ok, fed_fault, fault_stays}
use Rattle.rambo_resp.proofs.decoder.Decoder.feed.Goals as goal
use Rattle.rambo_resp.proofs.decoder.Decoder.feed.Goals.{in-OutOfMemory, in_default-fault}

pub returns-in-Some-clause-taken : goal.returns-in-Some-clause-taken
returns-in-Some-clause-taken c = λ stream given h _.
    let p = c.self.inside.progress in
    let is : view p (Some c.in-Some.fault) ≡ c.args.self.now = ap (view p) (sym c.in-Some.is) ∙ c.self.view_is in (
      subst (λ d. HasTaken d (stream ++ c.args.piece.now) given) is
          (fault_stays p.waiting c.in-Some.fault stream c.args.piece.now given (subst (λ d. HasTaken d stream given) (sym is) h)),
      ap (λ (d : DecoderState). d.ending) (sym is),
    )

pub invariant_of-self : goal.invariant_of-self
invariant_of-self c = fresh_reached c.cut_back.new.self.rest (ap (λ (p : ProgressState). p.rest) c.cut_back.ensures)

pub invariant_of-self-in_default-read : goal.invariant_of-self-in_default-read
invariant_of-self-in_default-read c = read_reached c.self.inside.progress c.read-read.new.self c.args.piece.now c.self.invariant c.in_default-read.ensures.ok

pub returns-after-fault-clause-taken : goal.returns-after-fault-clause-taken
returns-after-fault-clause-taken c = λ stream given h k.
    let p = c.self.inside.progress in
    let q = c.read-read.new.self in
    let is : view p None ≡ c.args.self.now = ap (view p) (sym c.in_default.is) ∙ c.self.view_is in
    let taken = fed_fault p q.waiting c.in-Err.fault c.args.piece.now stream given (reached_sound p.rest c.self.invariant) (c.in-Err.ensures.stopped k)
    (subst (λ d. HasTaken d stream given) (sym is) h) in
    let kept : c.match-fault.kept ≡ length q.waiting =
    elim c.match-fault.branch [
      | in-OutOfMemory w ↦ absurd (k w.in-OutOfMemory.is)
      | in_default-fault w ↦ w.kept-is ∙ w.count-kept.ensures
    ] in
    let all : q.waiting ≡ c.cut_back.new.self.waiting =
    sym (take_all c.match-fault.kept q.waiting (omega (arith, kept))) ∙ ap (λ (x : ProgressState). x.waiting) (sym c.cut_back.ensures) in
    (subst (λ w. HasTaken (record { waiting = w; ending = faulty c.in-Err.fault }) (stream ++ c.args.piece.now) given) all taken, refl)

pub returns-in_default-read-clause-taken : goal.returns-in_default-read-clause-taken
returns-in_default-read-clause-taken c = λ stream given h.
    let p = c.self.inside.progress in
    let q = c.read-read.new.self in
    let is : view p None ≡ c.args.self.now = ap (view p) (sym c.in_default.is) ∙ c.self.view_is in
    let taken = fed_ok p q c.args.piece.now stream given (reached_sound p.rest c.self.invariant) c.in_default-read.ensures.ok (subst (λ d. HasTaken d stream given) (sym is) h) in
    let now : view q None ≡ view q c.self.inside.fault = ap (view q) (sym c.in_default.is) in
    rw c.in_default-read.is (
      subst (λ d. HasTaken d (stream ++ c.args.piece.now) given) now taken,
      λ fault e.
          let l : open_at (spelled q.rest) q.place ≡ faulty fault = ap (λ o. ending_of o q) (sym c.in_default.is) ∙ e in cc,
    )
