-- The tables of a network, and the ends of its channels. As in Kahn 1974, one-way channels, each with one writer and
-- one reader, join sequential processes. As in Parks 1995, a channel has a capacity.
use Rattle.std.specs.Prelude.{ℕ, suc, ◌+◌, ◌*◌, min, Bool, true, false, nat_eq, nat_lt, length, if◌then◌else◌, List, [], ◌∷◌, ◌++◌, slice_index_or, Option, Some, None}
use Rattle.std.specs.List.{list_any}
use Rattle.kpn_lang.specs.Parts.{Parts}
use Rattle.kpn_net.specs.declared.tables.ChannelSpec.{ChannelSpec}
use Rattle.kpn_net.specs.declared.tables.ChannelSpec.TheVariants as channel
use Rattle.kpn_net.specs.declared.tables.Instance.{Instance}
use Rattle.kpn_net.specs.declared.tables.End.{End}
use Rattle.kpn_net.specs.declared.tables.End.TheVariants.{Process, Source, Sink}
use Rattle.kpn_net.specs.declared.tables.Policy.{Policy}
use Rattle.kpn_net.specs.declared.tables.Growth.{Growth}
use Rattle.kpn_net.specs.declared.tables.Growth.TheVariants.{One, Double}

-- the programs, the instances of them, which are the processes, and the channels; the limit of each capacity, which
-- channels grow, and how large a channel becomes then
pub record Tables : Type 0 where
  pub programs : List Parts
  pub instances : List Instance
  pub channels : List ChannelSpec
  pub limit : ℕ
  pub policy : Policy
  pub growth : Growth

-- the same tables under another policy and growth
abbrev pub under : Policy → Growth → Tables → Tables
under policy growth t = record t { policy = policy; growth = growth }

-- ---- the tables by number

-- a program without blocks stands for one that is not there
abbrev pub program_at : Tables → ℕ → Parts
program_at t i =
    slice_index_or t.programs i
    (record { ins = 0; outs = 0; pars = 0; vars = 0; free = 0; tables = []; blocks = [] })

-- an instance without ports stands for one that is not there
abbrev pub instance_at : Tables → ℕ → Instance
instance_at t p = slice_index_or t.instances p (record { program = 0; ins = []; outs = []; pars = [] })

-- a channel between processes stands for one that is not there
abbrev pub channel_at : Tables → ℕ → ChannelSpec
channel_at t c = slice_index_or t.channels c (channel.Inner 0)

-- the program of a process
abbrev pub program_of : Tables → ℕ → Parts
program_of t p = program_at t (instance_at t p).program

-- a program has cells of arrays or tables
abbrev pub any_has_cells : Tables → Bool
any_has_cells t = list_any (λ program. nat_lt 0 (program.free + length program.tables)) t.programs

-- ---- the ends of a channel

-- the caller writes it
abbrev pub is_source : ChannelSpec → Bool
is_source (channel.Inner cap) = false
is_source channel.Source = true
is_source (channel.Sink cap) = false

-- the caller reads it
abbrev pub is_sink : ChannelSpec → Bool
is_sink (channel.Inner cap) = false
is_sink channel.Source = false
is_sink (channel.Sink cap) = true

-- how many items may be unread on it; a source has no such bound
abbrev pub capacity : ChannelSpec → Option ℕ
capacity (channel.Inner cap) = Some cap
capacity channel.Source = None
capacity (channel.Sink cap) = Some cap

-- the capacity after one growth: 1 larger, or twice as large, but at most the limit
abbrev pub grown_capacity : Growth → (limit cap : ℕ) → ℕ
grown_capacity One limit cap = cap + 1
grown_capacity Double limit cap = min (2 * cap) limit

-- the capacity that a channel of this capacity has after one growth
abbrev pub larger_capacity : Tables → (cap : ℕ) → ℕ
larger_capacity t cap = grown_capacity t.growth t.limit cap

-- a process once for each place of a channel among these ports
abbrev pub ends_among : (c p : ℕ) → (ports : List ℕ) → List End
ends_among c p [] = []
ends_among c p (d ∷ ports) = if nat_eq d c then Process p ∷ ends_among c p ports else ends_among c p ports

-- the same for the ports of each instance, if the first has the number p
abbrev pub ends_from : (Instance → List ℕ) → (c p : ℕ) → List Instance → List End
ends_from ports c p [] = []
ends_from ports c p (instance ∷ instances) = ends_among c p (ports instance) ++ ends_from ports c (suc p) instances

-- all that writes a channel: the caller, if it is a source, and a process for each place among its out ports
abbrev pub writers_of : Tables → ℕ → List End
writers_of t c = (if is_source (channel_at t c) then Source ∷ [] else []) ++ ends_from (λ i. i.outs) c 0 t.instances

-- all that reads a channel: the caller, if it is a sink, and a process for each place among its in ports
abbrev pub readers_of : Tables → ℕ → List End
readers_of t c = (if is_sink (channel_at t c) then Sink ∷ [] else []) ++ ends_from (λ i. i.ins) c 0 t.instances

-- the writer of a channel: in a network it has one. If there is none it is the sink, which writes nothing
abbrev pub writer_of : Tables → ℕ → End
writer_of t c = slice_index_or (writers_of t c) 0 Sink

-- the reader of a channel: in a network it has one. If there is none it is the source, which reads nothing
abbrev pub reader_of : Tables → ℕ → End
reader_of t c = slice_index_or (readers_of t c) 0 Source
