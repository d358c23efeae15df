-- What is kept of a run.
use Rattle.std.specs.Prelude.{ℕ, Bool, true, false, ◌||◌}
use Rattle.kpn_net.specs.Tables.{Tables, channel_at, is_source, is_sink}
use Rattle.kpn_history.specs.declared.keeping.Keeping.{Keeping}
use Rattle.kpn_history.specs.declared.keeping.Keeping.TheVariants.{All, Ends, Sinks, Nothing}

-- each event is kept
abbrev pub keeps_all : Keeping → Bool
keeps_all All = true
keeps_all Ends = false
keeps_all Sinks = false
keeps_all Nothing = false

-- the items of this channel are kept
abbrev pub keeps_items : Keeping → Tables → (c : ℕ) → Bool
keeps_items All t c = true
keeps_items Ends t c = is_source (channel_at t c) || is_sink (channel_at t c)
keeps_items Sinks t c = is_sink (channel_at t c)
keeps_items Nothing t c = false
