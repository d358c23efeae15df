-- How the sources of a stream that rests are closed.
use Rattle.std.specs.Prelude.{◌≡◌, ℕ, ◌<◌, Bool, true, false, length}
use Rattle.kpn_net.specs.Tables.{channel_at, is_source}
use Rattle.kpn_history.specs.declared.event.Event.{Event}
use Rattle.kpn_history.specs.declared.event.Event.TheVariants.{Close, Grow}
use Rattle.kpn_history.specs.Channels.{is_closed}
use Rattle.kpn_book.specs.Book.{Book}
use Rattle.kpn_stream.specs.Streaming.{HappensBesides}

-- an event that is neither the close of a source nor a growth
abbrev pub is_no_close : Event → Bool
is_no_close (Close c) = false
is_no_close (Grow p d n) = false
is_no_close e = true

-- each source with a number below k is closed, and nothing else happened but closes and growths that follow from them
pub record AreClosedBelow (k : ℕ) (before after : Book) : Type 0 where
  pub besides : HappensBesides is_no_close before after
  pub closed : (c : ℕ) → c < k → is_source (channel_at before.tables c) ≡ true → is_closed after.history c ≡ true

-- each source is closed
abbrev pub AreClosed : (before after : Book) → Type 0
AreClosed before after = AreClosedBelow (length before.tables.channels) before after
