-- Worked networks in two parts. Each process is the copy `while 1 { read i x; write o x; }`, so each part is the copy
-- from a source to a sink.
use Rattle.std.specs.Prelude.{ℕ, List, [], ◌∷◌}
use Rattle.kpn_limits.specs.declared.TheConstants.{MAX_CAPACITY}
use Rattle.kpn_net.specs.declared.tables.ChannelSpec.{ChannelSpec}
use Rattle.kpn_net.specs.declared.tables.ChannelSpec.TheVariants.{Inner, Source, Sink}
use Rattle.kpn_net.specs.declared.tables.Growth.TheVariants.{One}
use Rattle.kpn_net.specs.declared.tables.Instance.{Instance}
use Rattle.kpn_net.specs.declared.tables.Policy.TheVariants.{Cycles}
use Rattle.kpn_net.specs.Tables.{Tables}
use Rattle.kpn_net.specs.View.{tables_with}
use Rattle.kpn_parts.specs.Cut.{Part}
use Rattle.check_histories.specs.Networks.{copy_network}

-- a copy from one channel to another
abbrev copy : (from onto : ℕ) → Instance
copy from onto = record { program = 0; ins = from ∷ []; outs = onto ∷ []; pars = [] }

abbrev pub copies : List Instance → List ChannelSpec → Tables
copies instances channels = tables_with copy_network.programs instances channels MAX_CAPACITY Cycles One

-- process p of the whole, with these numbers of its source and its sink
abbrev pub copy_part : (p source sink : ℕ) → Part
copy_part p source sink =
    record { tables = copy_network; processes = p ∷ []; channels = source ∷ sink ∷ [] }

-- ---- a chain: one copy reads what the other writes

unfoldable pub chain_network : Tables
chain_network = copies (copy 0 1 ∷ copy 1 2 ∷ []) (Source ∷ Inner 1 ∷ Sink 1 ∷ [])

unfoldable pub chain_cut : List Part
chain_cut = copy_part 0 0 1 ∷ copy_part 1 1 2 ∷ []

-- ---- a ring: each copy reads what the other writes, so neither ever has an item

unfoldable pub ring_network : Tables
ring_network = copies (copy 1 0 ∷ copy 0 1 ∷ []) (Inner 1 ∷ Inner 1 ∷ [])

unfoldable pub ring_cut : List Part
ring_cut = copy_part 0 1 0 ∷ copy_part 1 0 1 ∷ []
