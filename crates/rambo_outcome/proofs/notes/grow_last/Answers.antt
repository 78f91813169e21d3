use Rattle.std.proofs.Common.{◌+◌, ◌-◌, slice_set, ap, arith, ◌∙◌}
use Rattle.rambo_outcome.specs.declared.notes.Note.{Note}
use Rattle.rambo_outcome.proofs.ByPieces.{grown_set, last_within}
use Rattle.rambo_outcome.proofs.notes.grow_last.Goals as goal

pub overflow_add-note : goal.overflow_add-note
overflow_add-note c =
    let note = c.index-note.result.now in
    let within = last_within c.args.notes.now.items (c.len-last.result - 1) note (omega (arith, c.requires.some, c.len-last.ensures)) in
    let same = ap (λ (n : Note). n.len) c.index-note.ensures in
    omega (arith, within, same, c.requires.fits)

pub returns : goal.returns
returns c =
    let items = c.args.notes.now.items in
    let last = c.len-last.result - 1 in
    let note = c.index-note.result.now in
    ap (λ (n : Note). slice_set items last (record { events = n.events; len = n.len + c.args.len })) c.index-note.ensures
    ∙ grown_set items last note c.args.len (omega (arith, c.requires.some, c.len-last.ensures))
