use Rattle.std.proofs.Common.{◌≡◌, ◌≤◌, ◌+◌, ◌*◌, ◌++◌, length, drop, vec_len, vec_capacity}
use Rattle.rambo_text.specs.Signs.{pairs_text}
use Rattle.rambo_text.proofs.digits.push_pairs.Given as goal

-- the digits so far and those to come are all digits, and there is room for those
abbrev pub invariant-loop-sixteen : goal.invariant-loop-sixteen
invariant-loop-sixteen l = record {
  items : l.out.items ++ pairs_text l.rest ≡ l.fn.out.items ++ pairs_text l.bytes;
  room : vec_len l.out + 2 * length l.rest ≤ vec_capacity l.out;
  len : vec_len l.out + 2 * length l.rest ≤ vec_len l.fn.out + 2 * length l.bytes;
  capacity : vec_capacity l.fn.out ≤ vec_capacity l.out;
}

abbrev pub decreases-loop-sixteen : goal.decreases-loop-sixteen
decreases-loop-sixteen l = length l.rest

abbrev pub invariant-loop-eight : goal.invariant-loop-eight
invariant-loop-eight l = record {
  items : l.out.items ++ pairs_text l.rest ≡ l.fn.out.items ++ pairs_text l.bytes;
  room : vec_len l.out + 2 * length l.rest ≤ vec_capacity l.out;
  len : vec_len l.out + 2 * length l.rest ≤ vec_len l.fn.out + 2 * length l.bytes;
  capacity : vec_capacity l.fn.out ≤ vec_capacity l.out;
}

abbrev pub decreases-loop-eight : goal.decreases-loop-eight
decreases-loop-eight l = length l.rest

abbrev pub invariant-loop-byte : goal.invariant-loop-byte
invariant-loop-byte l = record {
  items : l.out.items ++ pairs_text (drop l.byte-index l.byte-items) ≡ l.fn.out.items ++ pairs_text l.bytes;
  room : vec_len l.out + 2 * length (drop l.byte-index l.byte-items) ≤ vec_capacity l.out;
  len : vec_len l.out + 2 * length (drop l.byte-index l.byte-items) ≤ vec_len l.fn.out + 2 * length l.bytes;
  capacity : vec_capacity l.fn.out ≤ vec_capacity l.out;
}
