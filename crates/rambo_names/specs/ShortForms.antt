-- The bytes that lie in a value itself
use Rattle.std.specs.Prelude.{ℕ, List, take}
use Rattle.rambo_names.specs.declared.short_bytes.ShortBytes.{ShortBytes}

abbrev pub short_bytes : ShortBytes → List ℕ
short_bytes s = take s.length s.bytes
