-- What a call of the outside waits for.
use Rattle.std.specs.Prelude.{◌≡◌, ◌≢◌, ℕ, true, []}
use Rattle.kpn_net.specs.Tables.{Tables, channel_at, is_sink}
use Rattle.kpn_chan.specs.Channel.{unread}
use Rattle.kpn_machine.specs.Machine.{channel_in}
use Rattle.kpn_book.specs.Book.{Book}
use Rattle.kpn_book.specs.Refusals.{IsOpenSource, IsAtBound}
use Rattle.kpn_pool_desk.specs.declared.crew.Need.{Need}
use Rattle.kpn_pool_desk.specs.declared.crew.Need.TheVariants.{Item, Room}

-- an open source whose bound is reached: a feed is refused as full
abbrev pub IsFullSource : (c : ℕ) → (bound : ℕ) → Book → Type 0
IsFullSource c bound b = IsOpenSource b c × IsAtBound (channel_in b.machine c) bound

-- the sink has an item, or the network has no such sink; or the source has room, or a feed is refused as something else
abbrev pub IsMet : Tables → Need → Book → Type 0
IsMet t (Item sink) b = is_sink (channel_at t sink) ≡ true → unread (channel_in b.machine sink) ≢ []
IsMet t (Room source bound) b = ¬ IsFullSource source bound b
