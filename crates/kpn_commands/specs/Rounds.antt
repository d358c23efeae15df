-- What `kpn rounds` writes.
use Rattle.std.specs.Prelude.{◌≡◌, ℕ, ℤ, List}
use Rattle.kpn_net.specs.Iteration.{given_by, iterate, lists_of}
use Rattle.kpn_text.specs.Document.{Document}
use Rattle.kpn_command_base.specs.Inputs.{AreInputs}
use Rattle.kpn_commands.specs.RoundsText.{rounds_text}
use Rattle.kpn_shelf.specs.Shelf.{Loads}

-- the n-th iterate of the network of a document that the file spells. Each source has the items of the file that one of
-- these words names for it, and no items if no word does
pub record IsRounds (may_give : Loads) (file : List ℕ) (n : ℕ) (words : List (List ℕ))
    (text : List ℕ) : Type 0 where
  pub document : Document
  pub given : List (List ℤ)
  pub are_inputs : AreInputs may_give file words document given
  pub made : text
      ≡ rounds_text document.names.channels
      (lists_of document.tables (iterate document.tables (given_by document.tables given) n))
