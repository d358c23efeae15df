-- Scaffolding: the tests by which the code compares a channel with its claim. Only contracts of private functions cite
-- it.
use Rattle.std.specs.Prelude.{ℕ, ◌+◌, Bool, true, not, ◌&&◌, ◌||◌, nat_le, nat_eq, length, Option, Some, None}
use Rattle.kpn_chan.specs.Channel.{ChannelState, unread, has_places_for}
use Rattle.kpn_region.specs.Local.{SideState}
use Rattle.kpn_region.specs.Joining.{items_put}

-- so much is within the capacity, if there is one, and these items
abbrev pub is_within_capacity : (wanted claimed : ℕ) → Option ℕ → Bool
is_within_capacity wanted claimed None = true
is_within_capacity wanted claimed (Some capacity) = nat_le wanted (capacity + claimed)

-- if the reader is there, the room and what is unread are within the capacity and what was claimed
abbrev pub keeps_capacity : SideState → ChannelState → Bool
keeps_capacity side channel =
    channel.is_retired
    || is_within_capacity (side.room + length (unread channel)) side.claimed channel.capacity

-- if the region empties the channel, it is a sink, its reader is there, and nothing was claimed
abbrev pub empties_a_sink : (is_sink : Bool) → SideState → ChannelState → Bool
empties_a_sink is_sink side channel =
    not side.is_drained || (is_sink && (not channel.is_retired && nat_eq side.claimed 0))

-- what was taken was claimed, or all that is unread was
abbrev pub takes_in_order : SideState → ChannelState → Bool
takes_in_order side channel =
    nat_le side.taken side.claimed || nat_eq side.claimed (length (unread channel))

-- what the region has put can be joined without memory
abbrev pub has_places : SideState → ChannelState → Bool
has_places side channel = has_places_for (length (items_put side)) channel

abbrev pub rest_agrees : (is_sink : Bool) → SideState → ChannelState → Bool
rest_agrees is_sink side channel =
    keeps_capacity side channel
    && (empties_a_sink is_sink side channel && (takes_in_order side channel && has_places side channel))
