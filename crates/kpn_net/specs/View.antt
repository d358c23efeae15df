-- The tables that the parts of a network make.
use Rattle.std.specs.Prelude.{◌≡◌, ℕ, List, map}
use Rattle.kpn_lang.specs.Parts.{Parts}
use Rattle.kpn_net.specs.declared.tables.ChannelSpec.{ChannelSpec}
use Rattle.kpn_net.specs.declared.tables.Instance.{Instance}
use Rattle.kpn_net.specs.declared.tables.End.{End}
use Rattle.kpn_net.specs.declared.tables.Policy.{Policy}
use Rattle.kpn_net.specs.declared.tables.Growth.{Growth}
use Rattle.kpn_net.specs.declared.network.parts.NetworkParts as held
use Rattle.kpn_net.specs.Tables.{Tables, writer_of, reader_of}
use Rattle.kpn_net.specs.Faults.{IsNetwork, channel_numbers}

-- the tables of the parts that a caller passes in
abbrev pub tables_with : List Parts → List Instance → List ChannelSpec → (limit : ℕ) → Policy → Growth → Tables
tables_with programs instances channels limit policy growth =
    record {
      programs = programs;
      instances = instances;
      channels = channels;
      limit = limit;
      policy = policy;
      growth = growth;
    }

-- ---- scaffolding

-- the tables that the code holds
abbrev pub tables_of : held.NetworkParts → Tables
tables_of p =
    record {
      programs = p.programs.items;
      instances = p.instances.items;
      channels = p.channels.items;
      limit = p.limit;
      policy = p.policy;
      growth = p.growth;
    }

-- what the code keeps of a network: tables that keep the rules, and the writer and the reader of each channel
pub record IsKeptNetwork (t : Tables) (writing reading : List End) : Type 0 where
  pub network : IsNetwork t
  pub writers : writing ≡ map (writer_of t) (channel_numbers t)
  pub readers : reading ≡ map (reader_of t) (channel_numbers t)
