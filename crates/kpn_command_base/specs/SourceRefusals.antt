-- Scaffolding: why options are refused, stage by stage: their words, the names in them, the files in them.
use Rattle.std.specs.Prelude.{◌≡◌, ◌⊎◌, ℕ, List, Err, ⊤}
use Rattle.std.specs.List.{Any}
use Rattle.kpn_text.specs.Document.{Document}
use Rattle.kpn_command_base.specs.declared.refusal.Refusal.{Refusal}
use Rattle.kpn_command_base.specs.declared.refusal.Refusal.TheVariants.{Input, Names, NoMemory}
use Rattle.kpn_command_base.specs.declared.sources.EndKind.{EndKind}
use Rattle.kpn_command_base.specs.Sources.{LacksEquals, ends_named, IsFaultOfFile, IsFaultOfItems}
use Rattle.kpn_shelf.specs.Shelf.{Loads}

-- a word has no `=`, which is refused as is given; or there is no memory
abbrev pub IsRefusalOfWords : (given : Refusal) (words : List (List ℕ)) → Refusal → Type 0
IsRefusalOfWords given words refusal = ((refusal ≡ given) × Any LacksEquals words) ⊎ (refusal ≡ NoMemory)

-- a name is no such end, or was named before
abbrev pub IsRefusalOfNames : EndKind → Document → (names : List (List ℕ)) → Refusal → Type 0
IsRefusalOfNames ends d names (Names fault) = ends_named ends d names ≡ Err fault
IsRefusalOfNames ends d names NoMemory = ⊤
IsRefusalOfNames ends d names other = ⊥

-- a file gives no items
abbrev pub IsRefusalOfFile : (may_give : Loads) (file : List ℕ) → Refusal → Type 0
IsRefusalOfFile may_give file (Input fault) = IsFaultOfFile may_give file fault
IsRefusalOfFile may_give file other = ⊥

-- one of these files gives no items, and those before it do
abbrev pub IsRefusalOfItems : (may_give : Loads) (files : List (List ℕ)) → Refusal → Type 0
IsRefusalOfItems may_give files (Input fault) = IsFaultOfItems may_give files fault
IsRefusalOfItems may_give files NoMemory = ⊤
IsRefusalOfItems may_give files other = ⊥
