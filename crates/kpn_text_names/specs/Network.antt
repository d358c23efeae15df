-- The items of a network with numbers in place of names. A text may name a channel before it declares it.
use Rattle.std.specs.Prelude.{ℕ, min, List, [], ◌∷◌, ◌++◌, map, fold, Option, Some, None, Result, Ok}
use Rattle.std.specs.Option.{option_map_or}
use Rattle.kpn_limits.specs.declared.TheConstants.{MAX_CAPACITY}
use Rattle.kpn_net.specs.declared.tables.ChannelSpec.{ChannelSpec}
use Rattle.kpn_net.specs.declared.tables.ChannelSpec.TheVariants.{Inner, Source, Sink}
use Rattle.kpn_net.specs.declared.tables.Growth.{Growth}
use Rattle.kpn_net.specs.declared.tables.Growth.TheVariants as growth
use Rattle.kpn_net.specs.declared.tables.Policy.{Policy}
use Rattle.kpn_net.specs.declared.tables.Policy.TheVariants as policy
use Rattle.kpn_net.specs.declared.tables.Instance.{Instance}
use Rattle.kpn_text_grammar.specs.Syntax as grammar
use Rattle.kpn_text_grammar.specs.Syntax.{NameBytes, Item, channel, source, sink, instance, literal_value}
use Rattle.kpn_text_names.specs.Fault.{NameError, each}
use Rattle.kpn_text_tokens.specs.Results.{◌>>=◌}
use Rattle.kpn_text_names.specs.Names.{known, all_known, declared, with_name}

-- a capacity, or a limit, as the tables have it: as far as 32 bits can hold it
abbrev pub within_32_bits : ℕ → ℕ
within_32_bits n = min n 4294967295

-- the limit that the tables have: the greatest if none is written
abbrev pub limit_of : Option ℕ → ℕ
limit_of (Some n) = within_32_bits n
limit_of None = MAX_CAPACITY

-- the policy that the tables have: `cycles` if none is written
abbrev pub policy_of : Option Policy → Policy
policy_of (Some q) = q
policy_of None = policy.Cycles

-- the growth that the tables have: by one if none is written
abbrev pub growth_of : Option Growth → Growth
growth_of (Some g) = g
growth_of None = growth.One

-- the settings of a network
pub record Settings : Type 0 where
  pub limit : ℕ
  pub policy : Policy
  pub growth : Growth

-- those that the tables have
abbrev pub settings_of : grammar.NetworkNode → Settings
settings_of n = record { limit = limit_of n.limit; policy = policy_of n.policy; growth = growth_of n.growth }

-- the channel that an item declares: sources and sinks are channels
abbrev pub channel_name : Item → Option NameBytes
channel_name (channel x n) = Some x
channel_name (source x) = Some x
channel_name (sink x n) = Some x
channel_name (instance i) = None

abbrev pub with_channel_name : List NameBytes → Item → List NameBytes
with_channel_name table i = option_map_or (with_name table) (channel_name i) table

-- the channels that items declare, each once, in the order of the text
abbrev pub all_channels : List Item → List NameBytes
all_channels items = fold with_channel_name [] items

-- the channels and the instances so far, with their names
pub record Wiring : Type 0 where
  pub channel_names : List NameBytes
  pub channels : List ChannelSpec
  pub instance_names : List NameBytes
  pub instances : List Instance

abbrev pub with_wired_channel : Wiring → NameBytes → ChannelSpec → Result Wiring NameError
with_wired_channel w x spec =
    declared w.channel_names x >>= λ names.
    Ok (record w { channel_names = names; channels = w.channels ++ spec ∷ [] })

-- an instance: its program and its channels must be known, among these names
abbrev pub instance_of : (programs channels : List NameBytes) → grammar.InstanceNode → Result Instance NameError
instance_of programs channels i = do
  program ← known programs i.program
  ins ← all_known channels i.ins
  outs ← all_known channels i.outs
  Ok (record { program = program; ins = ins; outs = outs; pars = map literal_value i.values })

abbrev pub with_instance : (programs channels : List NameBytes) → Wiring → grammar.InstanceNode → Result Wiring NameError
with_instance programs channels w i = do
  names ← declared w.instance_names i.name
  made ← instance_of programs channels i
  Ok (record w { instance_names = names; instances = w.instances ++ made ∷ [] })

abbrev pub with_wired_item : (programs channels : List NameBytes) → Wiring → Item → Result Wiring NameError
with_wired_item programs channels w (channel x n) = with_wired_channel w x (Inner (within_32_bits n))
with_wired_item programs channels w (source x) = with_wired_channel w x Source
with_wired_item programs channels w (sink x n) = with_wired_channel w x (Sink (within_32_bits n))
with_wired_item programs channels w (instance i) = with_instance programs channels w i

-- the items in the order of the text, if these are the names of the processes. A name is looked up among all channels.
-- A declared name has to be new only beside those before it
abbrev pub wiring : (programs : List NameBytes) → List Item → Result Wiring NameError
wiring programs items =
    each (with_wired_item programs (all_channels items))
    (record { channel_names = []; channels = []; instance_names = []; instances = [] }) items
