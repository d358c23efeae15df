-- What it does to a reader to read all of it, and why that fails.
use Rattle.std.specs.Prelude.{ℕ, List, ⊤}
use Rattle.std.specs.declared.option.Option.{Option}
use Rattle.std.specs.Io.KnownBytes.{Consumes, IsAtEnd}
use Rattle.kpn_text_items.specs.declared.fault.ItemFault.{ItemFault}
use Rattle.kpn_text_items.specs.declared.fault.ItemFault.TheVariants.{Read, BadItem, NoMemory}

-- what a reader has left is what it had, less some bytes from its front
abbrev pub LosesItsFront : Option (List ℕ) → Option (List ℕ) → Type 0
LosesItsFront old new = (front : List ℕ) × Consumes old new front

-- the fault comes from the device or from memory, and from no line
abbrev pub NamesNoLine : ItemFault → Type 0
NamesNoLine Read = ⊤
NamesNoLine (BadItem line) = ⊥
NamesNoLine NoMemory = ⊤

-- a fault that names a line comes only from a reader with nothing left
abbrev pub TellsLineAtEnd : Option (List ℕ) → ItemFault → Type 0
TellsLineAtEnd left Read = ⊤
TellsLineAtEnd left (BadItem line) = IsAtEnd left
TellsLineAtEnd left NoMemory = ⊤
