-- What the pointer to the slot of a session owns.
use base.Fml.{Fml, ftrue}
use denote.RawPtr.{Ptr}
use Rattle.std.specs.Prelude.{Option, Some, None}
use Rattle.std.specs.declared.alloc.Global.{Global}
use Rattle.std.specs.contracts.impls.GlobalAllocator.TheImpl.{ghosts}
use Rattle.std_alloc.specs.Box.Ownership.{box_owns}
use Rattle.kpn_c.specs.declared.slot.Slot.{Slot}
use Rattle.kpn_c.specs.contracts.slot.Slot.{the_row}

-- a box of this allocator with this slot, or nothing
abbrev pub owns_slot : Global → Ptr → Option Slot → Fml
owns_slot a p None = ftrue
owns_slot a p (Some slot) = box_owns (ghosts.dealloc_token a) the_row p slot
