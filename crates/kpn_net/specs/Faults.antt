-- The rules that the tables of a network keep, and the first rule that tables break.
use Rattle.std.specs.Prelude.{◌≡◌, ◌⊎◌, ℕ, Bool, true, false, not, ◌&&◌, ◌||◌, nat_lt, nat_le, nat_eq, if◌then◌else◌, List, [], ◌∷◌, length, map, Option, Some, None, Result, Ok, Err, position, All, slice_get}
use Rattle.std.specs.List.{list_any, range_with_len}
use Rattle.std.specs.Option.{option_map_or}
use Rattle.kpn_limits.specs.declared.TheConstants.{MAX_PROCESSES, MAX_CHANNELS, MAX_LARGE_PROCESSES, MAX_LARGE_CHANNELS, MAX_CAPACITY}
use Rattle.kpn_lang.specs.Parts.{Parts, IsProgram}
use Rattle.kpn_net.specs.declared.fault.NetFault.{NetFault}
use Rattle.kpn_net.specs.declared.fault.NetFault.TheVariants.{TooMany, NoSuchProgram, PortCount, NoSuchChannel, NoWriter, TwoWriters, NoReader, TwoReaders, Capacity, NoMemory}
use Rattle.kpn_net.specs.declared.tables.ChannelSpec.{ChannelSpec}
use Rattle.kpn_net.specs.declared.tables.ChannelSpec.TheVariants as channel
use Rattle.kpn_net.specs.declared.tables.Instance.{Instance}
use Rattle.kpn_net.specs.declared.tables.End.{End}
use Rattle.kpn_net.specs.declared.tables.NetworkSize.{NetworkSize}
use Rattle.kpn_net.specs.declared.tables.NetworkSize.TheVariants as size
use Rattle.kpn_net.specs.Tables.{Tables, writers_of, readers_of}

-- ---- 10: there are too many programs, instances or channels

abbrev pub most_processes : NetworkSize → ℕ
most_processes size.Usual = MAX_PROCESSES
most_processes size.Large = MAX_LARGE_PROCESSES

abbrev pub most_channels : NetworkSize → ℕ
most_channels size.Usual = MAX_CHANNELS
most_channels size.Large = MAX_LARGE_CHANNELS

abbrev pub has_too_many : NetworkSize → Tables → Bool
has_too_many s t =
    nat_lt MAX_PROCESSES (length t.programs) || nat_lt (most_processes s) (length t.instances)
    || nat_lt (most_channels s) (length t.channels)

-- ---- 11: an instance names a program that is not there

abbrev pub lacks_its_program : Tables → Instance → Bool
lacks_its_program t i = nat_le (length t.programs) i.program

-- ---- 12: an instance has other numbers of ports or parameters than its program

abbrev pub matches_program : Instance → Parts → Bool
matches_program i parts =
    nat_eq (length i.ins) parts.ins && nat_eq (length i.outs) parts.outs && nat_eq (length i.pars) parts.pars

abbrev pub differs_from_its_program : Tables → Instance → Bool
differs_from_its_program t i = not (option_map_or (matches_program i) (slice_get t.programs i.program) false)

-- ---- 19: an instance names a channel that is not there

abbrev pub lacks_a_channel : Tables → Instance → Bool
lacks_a_channel t i = list_any (nat_le (length t.channels)) i.ins || list_any (nat_le (length t.channels)) i.outs

-- ---- 13 to 16: a channel has no writer, more than one, no reader, or more than one

abbrev pub channel_numbers : Tables → List ℕ
channel_numbers t = range_with_len 0 (length t.channels)

abbrev pub is_none : List End → Bool
is_none [] = true
is_none (end ∷ ends) = false

abbrev pub are_several : List End → Bool
are_several [] = false
are_several (end ∷ []) = false
are_several (end ∷ other ∷ ends) = true

-- ---- 17: a capacity is 0 or above the limit

abbrev pub exceeds : (limit : ℕ) → (cap : ℕ) → Bool
exceeds limit cap = nat_eq cap 0 || nat_lt limit cap

-- a source has no capacity
abbrev pub has_no_such_capacity : (limit : ℕ) → ChannelSpec → Bool
has_no_such_capacity limit (channel.Inner cap) = exceeds limit cap
has_no_such_capacity limit channel.Source = false
has_no_such_capacity limit (channel.Sink cap) = exceeds limit cap

-- the first channel with such a capacity; the number of channels if the limit itself is 0 or above the greatest
-- capacity
abbrev pub wrong_capacity : Tables → Option ℕ
wrong_capacity t =
    if exceeds MAX_CAPACITY t.limit then Some (length t.channels)
    else position (has_no_such_capacity t.limit) t.channels

-- ---- the rules together

-- the fault at the least number if there is one, else what comes after
abbrev pub first_at : Option ℕ → (ℕ → NetFault) → Option NetFault → Option NetFault
first_at None fault after = after
first_at (Some number) fault after = Some (fault number)

-- one fault, else the other
abbrev pub or_else : Option NetFault → Option NetFault → Option NetFault
or_else None after = after
or_else (Some fault) after = Some fault

-- the first rule that the instances of a network of this size break
abbrev pub instances_fault : NetworkSize → Tables → Option NetFault
instances_fault s t =
    if has_too_many s t then Some TooMany else
    first_at (position (lacks_its_program t) t.instances) NoSuchProgram (
    first_at (position (differs_from_its_program t) t.instances) PortCount (
    first_at (position (lacks_a_channel t) t.instances) NoSuchChannel None))

-- the first rule that the channels break
abbrev pub channels_fault : Tables → Option NetFault
channels_fault t =
    first_at (position is_none (map (writers_of t) (channel_numbers t))) NoWriter (
    first_at (position are_several (map (writers_of t) (channel_numbers t))) TwoWriters (
    first_at (position is_none (map (readers_of t) (channel_numbers t))) NoReader (
    first_at (position are_several (map (readers_of t) (channel_numbers t))) TwoReaders (
    first_at (wrong_capacity t) Capacity None))))

-- the first rule that the tables of this size break: each is tested on the whole network before the next
abbrev pub first_network_fault : NetworkSize → Tables → Option NetFault
first_network_fault s t = or_else (instances_fault s t) (channels_fault t)

-- the tables of programs keep each rule; they may have the larger size
pub record IsNetwork (t : Tables) : Type 0 where
  pub programs : All IsProgram t.programs
  pub sound : first_network_fault size.Large t ≡ None

-- what a call for a network of this size makes of tables: the network, or the first rule that they break
abbrev pub MakesNetwork : NetworkSize → Tables → Result Tables NetFault → Type 0
MakesNetwork s t (Ok network) = (first_network_fault s t ≡ None) × (network ≡ t)
MakesNetwork s t (Err fault) = (fault ≡ NoMemory) ⊎ (first_network_fault s t ≡ Some fault)
