-- A box with a session, what a session keeps, and what a call gives that is lent its book.
use Rattle.std.specs.Prelude.{◌≡◌, Bool, true, false, List, Option, Some, None, IsSome}
use Rattle.std.specs.Borrow.{MutBor}
use Rattle.std.specs.Fn.{Once}
use Rattle.kpn_history.specs.declared.keeping.Keeping.{Keeping}
use Rattle.kpn_history.specs.declared.keeping.Keeping.TheVariants.{All, Nothing}
use Rattle.kpn_book.specs.Book.{Book}
use Rattle.kpn_c.specs.Session.{Session}
use Rattle.kpn_c.specs.declared.slot.Slot.{Slot}

-- there is a box, and a session in it
abbrev pub IsOpen : Option Slot → Type 0
IsOpen None = ⊥
IsOpen (Some slot) = IsSome slot.session

-- a box with this session
abbrev pub slot_with : Session → Option Slot
slot_with session = Some (record { session = Some session })

-- all that happens is kept, or nothing
abbrev pub keeping_of : (keeps : Bool) → Keeping
keeping_of true = All
keeping_of false = Nothing

-- what a call that is lent a book and a slice asks for and gives back
abbrev pub Lent : Type 0 → Type 0
Lent I = MutBor Book × (MutBor (List I) × Unit {0})

-- a call that is lent this book and this slice may give this, and leave them so
pub record GivesWithRoom {F I T : Type 0} (calls : Once F (Lent I) (T × Lent I)) (call : F) (before : Book)
    (room : List I) (told : T) (after : Book) (kept : List I) : Type 0 where
  pub book : MutBor Book
  pub slice : MutBor (List I)
  pub book_is : book.now ≡ before
  pub slice_is : slice.now ≡ room
  pub book_then : MutBor Book
  pub slice_then : MutBor (List I)
  pub gives : calls.post call (book, (slice, tt)) (told, (book_then, (slice_then, tt)))
  pub book_was : book_then.now ≡ after
  pub slice_was : slice_then.now ≡ kept
