-- How much room the values of a type take at most
use Rattle.std.specs.Prelude.{ℕ, ◌+◌, ◌-◌, ◌*◌, ◌%◌, ◌≤◌, ◌<◌, ◌^◌, max}
use Rattle.std.proofs.Common.{arith, zero, suc}
use Rattle.std.proofs.Math.Nat.{max-le, mod-le}
use mir.Syntax.{Width, w8, w16, w32, w64, w128, Ty, ty_int, ty_bool, ty_float, ty_ptr, ty_ref, ty_array, ty_unit, ty_struct, ty_enum, ty_param, ty_const, ty_array_p, ty_named, Tys, tnil, tcons, Tyss, ttnil, ttcons}
use mir.Val.{bytes, width_of}
use prog.Memory.{size, align, aligns, alignss, end_of, endss, up}
use denote.RattleType.{RattleType}
use denote.Param.{layout}

-- a bound on the bytes of a value of the type: each part counts for 16 more, since it may have to be aligned to as many
abbrev mutual
  pub wide : Ty → ℕ
  wide (ty_int w) = 16
  wide ty_bool = 1
  wide (ty_float f) = 16
  wide ty_ptr = 8
  wide (ty_ref κ μ τ) = 8
  wide (ty_array τ n) = n * wide τ
  wide ty_unit = 0
  wide (ty_struct ν τs) = 16 + wides τs
  wide (ty_enum ν τss) = 17 + widess τss
  wide (ty_param ι) = 0
  wide (ty_const ι) = 0
  wide (ty_array_p υ ι) = 0
  wide (ty_named ν θ) = 0

  pub wides : Tys → ℕ
  wides tnil = 0
  wides (tcons τ τs) = 16 + wide τ + wides τs

  pub widess : Tyss → ℕ
  widess ttnil = 0
  widess (ttcons τs τss) = wides τs + widess τss

-- a bound on the bytes that a value of the type takes
abbrev pub room_of : RattleType → ℕ
room_of R = wide (layout R)

bytes_le : (w : Width) → bytes w ≤ 16
bytes_le w8 = omega arith
bytes_le w16 = omega arith
bytes_le w32 = omega arith
bytes_le w64 = omega arith
bytes_le w128 = omega arith

max_at_most : (a b c : ℕ) → a ≤ c → b ≤ c → max a b ≤ c
max_at_most a b c h k = max-le h k

mutual
  align_le : (τ : Ty) → align τ ≤ 16
  align_le (ty_int w) = bytes_le w
  align_le ty_bool = omega arith
  align_le (ty_float f) = bytes_le (width_of f)
  align_le ty_ptr = omega arith
  align_le (ty_ref κ μ τ) = omega arith
  align_le (ty_array τ n) = align_le τ
  align_le ty_unit = omega arith
  align_le (ty_struct ν τs) = aligns_le τs
  align_le (ty_enum ν τss) = alignss_le τss
  align_le (ty_param ι) = omega arith
  align_le (ty_const ι) = omega arith
  align_le (ty_array_p υ ι) = omega arith
  align_le (ty_named ν θ) = omega arith

  aligns_le : (τs : Tys) → aligns τs ≤ 16
  aligns_le tnil = omega arith
  aligns_le (tcons τ τs) = max_at_most (align τ) (aligns τs) 16 (align_le τ) (aligns_le τs)

  alignss_le : (τss : Tyss) → alignss τss ≤ 16
  alignss_le ttnil = omega arith
  alignss_le (ttcons τs τss) = max_at_most (aligns τs) (alignss τss) 16 (aligns_le τs) (alignss_le τss)

up_le : (k e : ℕ) → k ≤ 16 → up k e ≤ e + 16
up_le k e h = omega (arith, h, mod-le (k - e % k) k)

times_le : (n a b : ℕ) → a ≤ b → n * a ≤ n * b
times_le zero a b h = omega arith
times_le (suc n) a b h = omega (arith, h, times_le n a b h)

mutual
  pub size_le : (τ : Ty) → size τ ≤ wide τ
  size_le (ty_int w) = bytes_le w
  size_le ty_bool = omega arith
  size_le (ty_float f) = bytes_le (width_of f)
  size_le ty_ptr = omega arith
  size_le (ty_ref κ μ τ) = omega arith
  size_le (ty_array τ n) = times_le n (size τ) (wide τ) (size_le τ)
  size_le ty_unit = omega arith
  size_le (ty_struct ν τs) = omega (arith, up_le (aligns τs) (end_of 0 τs) (aligns_le τs), end_le 0 τs)
  size_le (ty_enum ν τss) = omega (arith, up_le (alignss τss) (endss τss) (alignss_le τss), endss_le τss)
  size_le (ty_param ι) = omega arith
  size_le (ty_const ι) = omega arith
  size_le (ty_array_p υ ι) = omega arith
  size_le (ty_named ν θ) = omega arith

  end_le : (e : ℕ) (τs : Tys) → end_of e τs ≤ e + wides τs
  end_le e tnil = omega arith
  end_le e (tcons τ τs) = omega (arith, up_le (align τ) e (align_le τ), size_le τ, end_le (up (align τ) e + size τ) τs)

  endss_le : (τss : Tyss) → endss τss ≤ 1 + widess τss
  endss_le ttnil = omega arith
  endss_le (ttcons τs τss) =
      max_at_most (end_of 1 τs) (endss τss) (1 + (wides τs + widess τss)) (omega (arith, end_le 1 τs)) (omega (arith, endss_le τss))

-- a type whose values take less has a size
pub fits : (τ : Ty) → wide τ < 2 ^ 63 → size τ < 2 ^ 63
fits τ h = omega (arith, h, size_le τ)
