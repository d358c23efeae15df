-- A book is attached to the network of its session, and detached again.
use Rattle.std.proofs.Common.{◌≡◌, Bool, refl, sym, ap, ◌∙◌, subst}
use Rattle.kpn_text.specs.Document.{Document}
use Rattle.kpn_book.specs.declared.detached.Detached.{Detached}
use Rattle.kpn_c.proofs.Common.{Book, IsBook, book_on, Session, session_of}

-- from the attached book to the one that is detached
module _ (d : Document) (before : Detached) (opened last : Book) (after : Detached)
    (is : opened ≡ book_on d.tables before) (stays : last.tables ≡ opened.tables)
    (same : book_on last.tables after ≡ last) where
  tables_are : last.tables ≡ d.tables
  tables_are = stays ∙ ap (λ b. b.tables) is

  pub book_after : IsBook (book_on last.tables after) → IsBook (book_on d.tables after)
  book_after book = subst (λ t. IsBook (book_on t after)) tables_are book

  pub detached_is : book_on d.tables after ≡ last
  detached_is = ap (λ t. book_on t after) (sym tables_are) ∙ same

-- a book that was opened for a session, and stays on its network
pub stays_open : (opened last now : Book) → opened ≡ now → last.tables ≡ now.tables → last.tables ≡ opened.tables
stays_open opened last now is stays = stays ∙ ap (λ b. b.tables) (sym is)

-- nothing has happened in between
pub session_same : {keeps : Bool} (d : Document) (before : Detached) (opened : Book) (after : Detached)
    → opened ≡ book_on d.tables before → book_on opened.tables after ≡ opened
    → (session : Session) → session_of d before keeps ≡ session → session_of d after keeps ≡ session
session_same {keeps} d before opened after is same session view =
    ap (λ b. record { document = d; book = b; keeps = keeps })
    (detached_is d before opened opened after is refl same ∙ is) ∙ view

-- a session is what it shows
pub same_session : (before after : Session) → after.document ≡ before.document → after.keeps ≡ before.keeps
    → after.book ≡ before.book → after ≡ before
same_session before after document keeps book =
    ap (λ d. record after { document = d }) document ∙ ap (λ b. record before { book = b; keeps = after.keeps }) book
    ∙ ap (λ k. record before { keeps = k }) keeps
