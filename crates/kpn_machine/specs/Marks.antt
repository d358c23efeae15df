-- Marks on the channels on which a process may wait. A reader of the public contracts needs none of it.
use Rattle.std.specs.Prelude.{◌≡◌, ℕ, Bool, true, List, slice_index_or}
use Rattle.kpn_net.specs.declared.wait.Wait.{Wait}
use Rattle.kpn_net.specs.declared.wait.Wait.TheVariants.{Empty, Full}
use Rattle.kpn_net.specs.Waits.{wait_at}

-- a channel is marked; so is each that has no mark in the list
abbrev pub is_marked : (marks : List Bool) → (c : ℕ) → Bool
is_marked marks c = slice_index_or marks c true

-- each channel on which a process waits is marked, as full or as empty
pub record AreMarked (waits : List Wait) (full empty : List Bool) : Type 0 where
  pub as_full : (q c : ℕ) → wait_at waits q ≡ Full c → is_marked full c ≡ true
  pub as_empty : (q c : ℕ) → wait_at waits q ≡ Empty c → is_marked empty c ≡ true
