use Rattle.std.proofs.Common.{◌≡◌, ◌≤◌, ◌++◌, length, take}
use Rattle.rambo_text.specs.Signs.{pairs_text, AreBytes}
use Rattle.rambo_text.proofs.reading.short_front.Given as goal

abbrev pub invariant-loop-length : goal.invariant-loop-length
invariant-loop-length l = record {
  whole : l.text ≡ pairs_text (take l.length l.bytes) ++ l.rest;
  bytes : AreBytes (take l.length l.bytes);
  full : length l.bytes ≡ 15;
  few : l.length ≤ 15;
}

abbrev pub decreases-loop-length : goal.decreases-loop-length
decreases-loop-length l = length l.rest
