-- What is kept while a run is ended. A reader of the public contracts needs none of it.
use Rattle.std.specs.Prelude.{◌≡◌}
use Rattle.kpn_book.specs.Book.{Book, held_count}
use Rattle.kpn_book.specs.Remembering.{RemembersAsMuch}

-- the network is the same, as many processes are held, as many commits were made, and as much is kept
pub record KeepsHeld (before after : Book) : Type 0 where
  pub tables : after.tables ≡ before.tables
  pub held : held_count after ≡ held_count before
  pub commits : after.commits ≡ before.commits
  pub remembers : RemembersAsMuch before after
