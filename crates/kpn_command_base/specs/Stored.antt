-- How a file is stored, or why it is not.
use Rattle.std.specs.Prelude.{◌≡◌, ◌≤◌, ℕ, List, length, Result, Ok, Err}
use Rattle.kpn_limits.specs.declared.TheConstants.{MAX_INPUT_BYTES}
use Rattle.kpn_shelf.specs.Shelf.{Loads, KeepsOthers}
use Rattle.kpn_command_base.specs.declared.refusal.Refusal.{Refusal}
use Rattle.kpn_command_base.specs.declared.refusal.Refusal.TheVariants.{NoMemory, Output}
use Rattle.kpn_command_base.specs.Conclusion.{StoredFile}

-- the file is stored: under its name the shelf may give its bytes, and its other files are as they were
abbrev pub IsStored : {S : Type 0} → (may_give : S → Loads) → StoredFile → (shelf kept : S) → Type 0
IsStored may_give file shelf kept =
    may_give kept file.name (Ok file.bytes) × KeepsOthers (may_give shelf) (may_give kept) file.name

-- The file is stored; or there was no memory for its bytes, and the shelf is as it was; or the shelf did not take them,
-- and its other files are as they were.
abbrev pub Stores : {S : Type 0} → (may_give : S → Loads) → StoredFile → (shelf kept : S) → Result (Unit {0}) Refusal
    → Type 0
Stores may_give file shelf kept (Ok done) = IsStored may_give file shelf kept
Stores may_give file shelf kept (Err NoMemory) = kept ≡ shelf
Stores may_give file shelf kept (Err (Output fault)) = KeepsOthers (may_give shelf) (may_give kept) file.name
Stores may_give file shelf kept (Err other) = ⊥

-- this many bytes are read of a file
abbrev pub IsReadable : (bytes : List ℕ) → Type 0
IsReadable bytes = length bytes ≤ MAX_INPUT_BYTES
