-- What contracts see of the clocks that the code holds.
use Rattle.std.specs.Prelude.{◌≡◌, ℕ, ◌≤◌, length, slice_index_or}
use Rattle.kpn_net.specs.Tables.{Tables}
use Rattle.kpn_ticks.specs.declared.clocks.Clocks.{Clocks as Stored}
use Rattle.kpn_ticks.specs.Ticks.{Clocks, latest_of, written_of, read_of}

abbrev pub shown : Stored → Clocks
shown s = record {
  latest = s.latest.items;
  written = s.written.items;
  read = s.read.items;
  capacities = s.capacities.items;
  last = s.last;
}

-- each channel of the network has a place for its capacity, and no tick is larger than the last one
pub record AreClocks (t : Tables) (s : Clocks) : Type 0 where
  pub channels : length s.capacities ≡ length t.channels
  pub latest : (p : ℕ) → latest_of s p ≤ s.last
  pub written : (c k : ℕ) → slice_index_or (written_of s c) k 0 ≤ s.last
  pub read : (c k : ℕ) → slice_index_or (read_of s c) k 0 ≤ s.last
