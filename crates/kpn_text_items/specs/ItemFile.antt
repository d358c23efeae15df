-- What the bytes of an item file spell, and the text in which its items are written. `lines` is std's word for the
-- lines of a text. A line ends at a line feed. One carriage return before that is not part of the line. The last line
-- may lack its line feed, and then keeps a carriage return at its end. An empty text has no line.
use Rattle.std.specs.Prelude.{◌≡◌, ℕ, ◌+◌, List, [], ◌∷◌, ◌++◌, length, ℤ, ⊤}
use Rattle.std.specs.List.{AllZip, flat_map}
use Rattle.std.specs.Str.Lines.{lines}
use Rattle.std.specs.Fmt.{signed_decimal}
use Rattle.kpn_text_items.specs.ItemLine.{SpellsItem}
use Rattle.kpn_text_items.specs.declared.fault.ItemFault.{ItemFault}
use Rattle.kpn_text_items.specs.declared.fault.ItemFault.TheVariants.{Read, BadItem, NoMemory}

-- the bytes spell the items: there are as many lines as items, and each line spells its item
abbrev pub Spells : List ℕ → List ℤ → Type 0
Spells bytes items = AllZip SpellsItem (lines bytes) items

-- of the lines, counted from 1, this one is the first that spells no item
pub record IsFirstBad (bytes : List ℕ) (line : ℕ) : Type 0 where
  pub before : List (List ℕ)
  pub items : List ℤ
  pub bad : List ℕ
  pub after : List (List ℕ)
  pub whole : lines bytes ≡ before ++ bad ∷ after
  pub spelled : AllZip SpellsItem before items
  pub spells_none : (item : ℤ) → ¬ SpellsItem bad item
  pub counted : line ≡ length before + 1

-- a fault that names a line names the first bad one
abbrev pub TellsFirstBadLine : List ℕ → ItemFault → Type 0
TellsFirstBadLine bytes Read = ⊤
TellsFirstBadLine bytes (BadItem line) = IsFirstBad bytes line
TellsFirstBadLine bytes NoMemory = ⊤

-- an item's line: a `-` if it is negative, its digits with no leading zero, and a line feed
abbrev pub item_line : ℤ → List ℕ
item_line item = signed_decimal item ++ (10 ∷ [])

-- the canonical text of a list of items: the line of each
abbrev pub item_text : List ℤ → List ℕ
item_text items = flat_map item_line items
