-- What a book keeps in memory of what happens to it.
use Rattle.std.specs.Prelude.{◌≡◌, ℕ, ◌<◌, length}
use Rattle.kpn_history.specs.declared.keeping.Keeping.{Keeping}
use Rattle.kpn_history.specs.Keeping.{keeps_all, keeps_items}
use Rattle.kpn_machine.specs.Machine.{channel_in}
use Rattle.kpn_book.specs.Book.{Book}

-- the book keeps what this says: each event or none, and the items of each channel or none
pub record Remembers (keeping : Keeping) (b : Book) : Type 0 where
  pub events : b.keeps_events ≡ keeps_all keeping
  pub items : (c : ℕ) → c < length b.tables.channels
      → (channel_in b.machine c).is_kept ≡ keeps_items keeping b.tables c

-- the second book keeps what the first does
abbrev pub RemembersAsMuch : (before after : Book) → Type 0
RemembersAsMuch before after = (keeping : Keeping) → Remembers keeping before → Remembers keeping after
