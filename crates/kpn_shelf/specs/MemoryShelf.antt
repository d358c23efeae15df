-- What a shelf in memory holds.
use Rattle.std.specs.Prelude.{◌≡◌, ◌≢◌, ◌<◌, ℕ, List, length, Option, Some, None, option_map, Result, Ok, Err, ⊤}
use Rattle.std.specs.BTreeMap.{get_by_text}
use Rattle.kpn_limits.specs.declared.TheConstants.{MAX_INPUT_BYTES}
use Rattle.kpn_text_items.specs.declared.fault.ItemFault.{ItemFault}
use Rattle.kpn_text_items.specs.declared.fault.ItemFault.TheVariants.{Read, BadItem, NoMemory}
use Rattle.kpn_shelf.specs.declared.memory.MemoryShelf.{MemoryShelf}

-- the bytes that it holds under a name
abbrev pub held : MemoryShelf → List ℕ → Option (List ℕ)
held shelf name = option_map (λ bytes. bytes.items) (get_by_text shelf.files name)

-- it holds nothing, or more bytes than a load gives
abbrev pub IsNotRead : Option (List ℕ) → Type 0
IsNotRead None = ⊤
IsNotRead (Some bytes) = MAX_INPUT_BYTES < length bytes

-- A load of the name may give the bytes that it holds, and no others. It is refused as `Read` only if there are none or
-- too many of them; memory may run out at any load.
abbrev pub may_give_held : MemoryShelf → (name : List ℕ) → Result (List ℕ) ItemFault → Type 0
may_give_held shelf name (Ok bytes) = held shelf name ≡ Some bytes
may_give_held shelf name (Err Read) = IsNotRead (held shelf name)
may_give_held shelf name (Err (BadItem line)) = ⊥
may_give_held shelf name (Err NoMemory) = ⊤

-- under each name it holds what it held
abbrev pub HoldsTheSame : MemoryShelf → MemoryShelf → Type 0
HoldsTheSame old new = (name : List ℕ) → held new name ≡ held old name

-- under each other name it holds what it held
abbrev pub HoldsTheSameBut : (name : List ℕ) → MemoryShelf → MemoryShelf → Type 0
HoldsTheSameBut name old new = (other : List ℕ) → other ≢ name → held new other ≡ held old other
