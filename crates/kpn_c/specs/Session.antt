-- A session: a document and a book of its network.
use Rattle.std.specs.Prelude.{Bool}
use Rattle.kpn_text.specs.Document.{Document}
use Rattle.kpn_book.specs.declared.detached.Detached.{Detached}
use Rattle.kpn_book.specs.Book.{Book}
use Rattle.kpn_book.specs.Detached.{book_on}

-- besides, whether it keeps what has happened
pub record Session : Type 0 where
  pub document : Document
  pub book : Book
  pub keeps : Bool

abbrev pub session_of : Document → Detached → (keeps : Bool) → Session
session_of document detached keeps =
    record { document = document; book = book_on document.tables detached; keeps = keeps }
