-- Where the channels of a network are written: each in one part of a cut.
use Rattle.std.specs.Prelude.{◌≡◌, ℕ, ◌<◌, List, length, slice_index_or}
use Rattle.kpn_net.specs.Tables.{Tables}
use Rattle.kpn_parts.specs.declared.link.ChannelHome.{ChannelHome}
use Rattle.kpn_parts.specs.Cut.{Part, whole_channel, part_at, IsCutSource}

-- channel c of the whole is written in this part: it is channel d there, and no cut source
pub record IsWrittenIn (t : Tables) (part : Part) (d c : ℕ) : Type 0 where
  pub there : d < length part.tables.channels
  pub same : whole_channel part d ≡ c
  pub own : ¬ IsCutSource t part d

-- channel c of the whole is written there
abbrev pub IsHome : Tables → List Part → ChannelHome → (c : ℕ) → Type 0
IsHome t cut home c = IsWrittenIn t (part_at cut home.part) home.channel c

-- where each channel is written, in order of number
pub record AreHomes (t : Tables) (cut : List Part) (homes : List ChannelHome) : Type 0 where
  pub count : length homes ≡ length t.channels
  pub each : (c : ℕ) (d : ChannelHome) → c < length t.channels → IsHome t cut (slice_index_or homes c d) c
