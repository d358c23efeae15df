-- What a shelf may give, before and after something is stored, and what a file is read as.
use Rattle.std.specs.Prelude.{◌≢◌, ◌↔◌, ℕ, List, Result, Ok, Err}
use Rattle.kpn_text_items.specs.Input.{NamesNoLine}
use Rattle.kpn_text_items.specs.declared.fault.ItemFault.{ItemFault}

-- what a load of each name may give: the bytes of a file, or why there are none
abbrev pub Loads : Type 1
Loads = (name : List ℕ) → Result (List ℕ) ItemFault → Type 0

-- which names may lead to one file
abbrev pub Aliases : Type 1
Aliases = (name other : List ℕ) → Type 0

-- why a load of a file is refused: the shelf may refuse it so, and no line is named
abbrev pub IsRefusalOfLoad : Loads → (file : List ℕ) → ItemFault → Type 0
IsRefusalOfLoad may_give file fault = NamesNoLine fault × may_give file (Err fault)

-- under each other name it gives what it might have given before, and nothing else
abbrev pub KeepsOthers : (before after : Loads) (name : List ℕ) → Type 0
KeepsOthers before after name = (other : List ℕ) → (answer : Result (List ℕ) ItemFault) → other ≢ name
    → (after other answer ↔ before other answer)

-- A file may give bytes that are read as this. How bytes are read is given: which of them spell a value, or which are
-- refused with a fault.
pub record IsLoadedAs {A : Type 0} (IsReadAs : List ℕ → A → Type 0) (may_give : Loads)
    (file : List ℕ) (a : A) : Type 0 where
  pub bytes : List ℕ
  pub loaded : may_give file (Ok bytes)
  pub read : IsReadAs bytes a
