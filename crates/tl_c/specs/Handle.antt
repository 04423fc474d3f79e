-- What a handle of C owns.
use Rattle.std.specs.Prelude.{Bool, true, false, Option, None, Some, Box}
use Rattle.tl_c.specs.declared.loose.Loose.{Loose}
use base.Fml.{Fml, fsep, feq}
use denote.RattleType.{RattleType}
use denote.RawPtr.{Ptr}
use Rattle.std.specs.contracts.impls.GlobalAllocator.TheImpl.{ghosts}
use Rattle.std.specs.declared.alloc.Global.{Global}
use Rattle.std.specs.Box.Ownership.{box_owns}

-- nothing if it is empty; else the value at its pointer, and the right to free its block
abbrev pub handle_holds : (R : RattleType) → Global → Ptr → Bool → Option R.Denot → Fml
handle_holds R alloc p live None = feq Bool live false
handle_holds R alloc p live (Some x) = fsep (feq Bool live true) (box_owns (ghosts.dealloc_token alloc) R p x)

-- the value of a box, if there is one
abbrev pub unboxed : {A R : Type 0} → Option (Box R A) → Option R
unboxed None = None
unboxed (Some b) = Some b.value

-- the value of a box that lies open, if there is one
abbrev pub loosened : {R A : Type 0} → Option (Loose R A) → Option R
loosened None = None
loosened (Some l) = Some l.value
