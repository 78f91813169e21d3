use Rattle.std.proofs.Common.{refl}
use Rattle.rambo_text.proofs.Heads.{no_head, head_count, head_number, head_is}
use Rattle.rambo_text.proofs.WordsThere.{different, alike}
use Rattle.rambo_text.proofs.version.Version.told_by.Goals as goal

pub returns-then-ne-clause-found : goal.returns-then-ne-clause-found
returns-then-ne-clause-found c = no_head _ _ _ c.next_word.ensures (different _ _ _ c.as_slice.ensures c.if-ne.ensures)

pub returns-in_default-clause-fault : goal.returns-in_default-clause-fault
returns-in_default-clause-fault c = head_count _ _ _ _ c.next_word.ensures (alike _ _ _ c.as_slice.ensures c.if-ne.ensures) refl c.in_default.ensures.none

pub returns-then-ne-2-clause-fault : goal.returns-then-ne-2-clause-fault
returns-then-ne-2-clause-fault c =
    head_number _ _ _ _ c.next_word.ensures (alike _ _ _ c.as_slice.ensures c.if-ne.ensures) c.in-Some.ensures.found (different _ _ _ c.as_slice-2.ensures c.if-ne-2.ensures)

pub returns-clause-found : goal.returns-clause-found
returns-clause-found c =
    head_is _ _ _ _ c.next_word.ensures (alike _ _ _ c.as_slice.ensures c.if-ne.ensures) c.in-Some.ensures.found (alike _ _ _ c.as_slice-2.ensures c.if-ne-2.ensures)
