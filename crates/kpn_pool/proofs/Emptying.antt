-- What is taken from a sink keeps the network, the processes that are held, the number of commits and what is kept.
use Rattle.kpn_pool.proofs.Common.{ℕ, ℤ, Option, ◌∙◌, Book, IsBook, KeepsHeld}
use Rattle.kpn_book.specs.Refusals.{Takes}
use Rattle.kpn_book.proofs.Held.{held_after_take}
use Rattle.kpn_book.proofs.Remembered.{much-trans}
use Rattle.kpn_pool_desk.proofs.Keeping.{takes}

-- one call more
pub keeps_on : (c : ℕ) (item : Option ℤ) (first before after : Book) → IsBook before → KeepsHeld first before
    → Takes c item before after → KeepsHeld first after
keeps_on c item first before after book so_far done =
    let one = takes c item before after done.takes in
    record {
      tables = one.tables ∙ so_far.tables;
      held = held_after_take before book c item after done ∙ so_far.held;
      commits = one.commits ∙ so_far.commits;
      remembers = much-trans first before after so_far.remembers one.remembers;
    }
