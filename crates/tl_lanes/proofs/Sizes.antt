-- The layout of values in memory: the alignment of a type, and how far a position is rounded up.
use Rattle.std.proofs.Common.{◌≤◌, ◌+◌, ◌%◌, ◌-◌, ℕ, arith}
use Rattle.std.proofs.Math.Nat.{mod-le}
use prog.Memory.{up, align, aligns, alignss}
use mir.Syntax.{Ty, Tys, Tyss, Width, w8, w16, w32, w64, w128, ty_int, ty_float, ty_array, ty_struct, ty_enum, tnil, tcons, ttnil, ttcons}
use mir.Val.{bytes}

width-small : (w : Width) → bytes w ≤ 16
width-small w8 = omega arith
width-small w16 = omega arith
width-small w32 = omega arith
width-small w64 = omega arith
width-small w128 = omega arith

-- no type is aligned to more than 16 bytes
mutual
  pub align-small : (τ : Ty) → align τ ≤ 16
  align-small (ty_int w) = width-small w
  align-small (ty_struct ν τs) = aligns-small τs
  align-small (ty_enum ν τss) = alignss-small τss
  align-small (ty_array τ n) = align-small τ
  align-small (ty_float f) = width-small _
  align-small τ = omega arith

  aligns-small : (τs : Tys) → aligns τs ≤ 16
  aligns-small tnil = omega arith
  aligns-small (tcons τ τs) = omega (arith, align-small τ, aligns-small τs)

  alignss-small : (τss : Tyss) → alignss τss ≤ 16
  alignss-small ttnil = omega arith
  alignss-small (ttcons τs τss) = omega (arith, aligns-small τs, alignss-small τss)

-- a place is rounded up by no more than the step
pub up_le : (k e : ℕ) → up k e ≤ e + k
up_le k e = let m : (k - e % k) % k ≤ k - e % k = mod-le (k - e % k) k in omega arith
