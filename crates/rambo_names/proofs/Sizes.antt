-- A struct that has a size has fields that have one
use Rattle.std.proofs.Common.{◌<◌, ◌+◌, ℕ, max, arith}
use Rattle.std.proofs.Math.Nat.{le-max_left, le-max_right}
use prog.Memory.{up}

pub up_fits : (a e b : ℕ) → up a e < b → e < b
up_fits a e b h = omega (arith, h)

pub back_fits : (m n b : ℕ) → m + n < b → n < b
back_fits m n b h = omega (arith, h)

-- the fields but the last one
pub next : (a e s b : ℕ) → up a e + s < b → e < b
next a e s b h = omega (arith, h)

-- the one field of an enum's second and last variant, where the first has none
pub variant_fits : (a x s b : ℕ) → up a (max 1 (max (up x 1 + s) 1)) < b → s < b
variant_fits a x s b h = omega (arith, h, le-max_right 1 (max (up x 1 + s) 1), le-max_left (up x 1 + s) 1)
