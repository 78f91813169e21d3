use Rattle.std.proofs.Common.{◌≡◌, ◌≤◌, ◌+◌, ◌*◌, ◌++◌, length, vec_len, vec_capacity}
use Rattle.rambo_text.specs.Signs.{pairs_text, AreBytes}
use Rattle.rambo_text.proofs.reading.read_pairs.Given as goal

abbrev pub invariant-loop-digits : goal.invariant-loop-digits
invariant-loop-digits l = record {
  whole : l.word ≡ pairs_text l.bytes.items ++ l.rest;
  bytes : AreBytes l.bytes.items;
  room : 2 * vec_len l.bytes + length l.rest ≤ 2 * vec_capacity l.bytes + 1;
}

abbrev pub decreases-loop-digits : goal.decreases-loop-digits
decreases-loop-digits l = length l.rest

abbrev pub invariant-loop-byte : goal.invariant-loop-byte
invariant-loop-byte l = record {
  whole : l.word ≡ pairs_text l.bytes.items ++ l.rest;
  bytes : AreBytes l.bytes.items;
  room : 2 * vec_len l.bytes + length l.rest ≤ 2 * vec_capacity l.bytes + 1;
}

abbrev pub decreases-loop-byte : goal.decreases-loop-byte
decreases-loop-byte l = length l.rest
