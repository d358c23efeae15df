-- What a run by workers looks for at its end: that its sources were fed their whole lists and closed, and no sink left.
use Rattle.std.specs.Prelude.{◌≡◌, ℕ, ◌<◌, Bool, true, false, ℤ, List}
use Rattle.kpn_net.specs.Tables.{Tables, channel_at, is_source, is_sink}
use Rattle.kpn_net.specs.Iteration.{given_by}
use Rattle.kpn_history.specs.declared.event.Event.{Event}
use Rattle.kpn_history.specs.declared.keeping.Keeping.{Keeping}
use Rattle.kpn_history.specs.declared.keeping.Keeping.TheVariants.{All, Ends, Sinks, Nothing}
use Rattle.kpn_history.specs.declared.state.View.{View}
use Rattle.kpn_history.specs.Channels.{is_closed}
use Rattle.kpn_machine.specs.Machine.{channel_in}
use Rattle.kpn_book.specs.Book.{Book}
use Rattle.kpn_book.specs.Snapshot.{shown_on}

-- the items of the sources and of the sinks are kept, by which a report of workers is checked and made
abbrev pub keeps_ends : Keeping → Bool
keeps_ends All = true
keeps_ends Ends = true
keeps_ends Sinks = false
keeps_ends Nothing = false

-- the journal of each source with a number below k, as a view shows it, is its list
abbrev pub AreFedBelow : {A : Type 0} → Tables → (lists : List (List ℤ)) → View A → (k : ℕ) → Type 0
AreFedBelow t lists view k = (c : ℕ) → c < k → is_source (channel_at t c) ≡ true → shown_on view c ≡ given_by t lists c

-- each source with a number below k was closed
abbrev pub AreSourcesClosedBelow : Tables → List Event → (k : ℕ) → Type 0
AreSourcesClosedBelow t H k = (c : ℕ) → c < k → is_source (channel_at t c) ≡ true → is_closed H c ≡ true

-- no sink with a number below k was left: its reader is not gone
abbrev pub AreSinksKeptBelow : Book → (k : ℕ) → Type 0
AreSinksKeptBelow b k =
    (c : ℕ) → c < k → is_sink (channel_at b.tables c) ≡ true → (channel_in b.machine c).is_retired ≡ false
