-- What a command writes that makes a text of a description.
use Rattle.std.specs.Prelude.{◌≡◌, ℕ, List}
use Rattle.kpn_text.specs.Document.{Document}
use Rattle.kpn_command_base.specs.Description.{IsDescribed}
use Rattle.kpn_shelf.specs.Shelf.{Loads}

-- the text that is made of a document which the file spells
pub record IsTextOf (text_of : Document → List ℕ) (may_give : Loads) (file text : List ℕ) : Type 0
  where
    pub document : Document
    pub described : IsDescribed may_give file document
    pub made : text ≡ text_of document
