-- The memory that an owner for C owns: a boxed value behind an untyped pointer, or nothing.
use Rattle.std.specs.Prelude.{Option, Some, None}
use base.Fml.{Fml, ftrue}
use denote.RattleType.{RattleType}
use denote.RawPtr.{Ptr}
use Rattle.std.specs.Box.Ownership.{box_owns}
use Rattle.std.specs.Global.{Global}
use Rattle.std.specs.contracts.impls.GlobalAllocator.TheImpl.{ghosts}

-- the box at a pointer, whose block the C library's heap frees, or nothing
abbrev pub holds : (X : RattleType) → Global → Ptr → Option X.Denot → Fml
holds X alloc p None = ftrue
holds X alloc p (Some x) = box_owns (ghosts.dealloc_token alloc) X p x
