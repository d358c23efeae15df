-- How much memory the channels of a run take that keeps nothing.
use Rattle.std.specs.Prelude.{ℕ, ◌+◌, ◌*◌}
use Rattle.std.specs.Option.{unwrap_or}
use Rattle.kpn_chan.specs.Channel.{ChannelState}
use Rattle.kpn_chan.specs.declared.channel.TheConstants.{FIRST_PLACES}
use Rattle.kpn_chan.specs.declared.chunks.TheConstants.{CHUNK}

-- how many items may ever be unread: as many as fill the channel, and on a source as many as ever were
abbrev pub may_be_unread : ChannelState → ℕ
may_be_unread c = unwrap_or c.capacity c.most

-- there is memory for this many items at most: those of a chunk, some to begin with, and twice as many as may be unread
abbrev pub most_places : ChannelState → ℕ
most_places c = CHUNK + FIRST_PLACES + 2 * may_be_unread c
