-- What a command on a network is given: the file of a description, and words that give its sources files of items.
use Rattle.std.specs.Prelude.{◌≡◌, ◌⊎◌, ℕ, ℤ, List, [], All, map, Ok, Err, ⊤}
use Rattle.std.specs.List.{Any}
use Rattle.kpn_text_items.specs.declared.fault.ItemFault.{ItemFault}
use Rattle.kpn_net.specs.Iteration.{sources}
use Rattle.kpn_text.specs.Document.{Document}
use Rattle.kpn_command_base.specs.declared.refusal.Refusal.{Refusal}
use Rattle.kpn_command_base.specs.declared.refusal.Refusal.TheVariants.{SourceWord, Input, Description, Names, NoMemory}
use Rattle.kpn_command_base.specs.declared.sources.NamedEnd.{NamedEnd}
use Rattle.kpn_command_base.specs.declared.option_fault.OptionFault.{OptionFault}
use Rattle.kpn_command_base.specs.Description.{IsDescribed, IsRefusedDescription}
use Rattle.kpn_command_base.specs.Sources.{HasEquals, LacksEquals, name_in, file_in, sources_named, sinks_named, AreGiven, IsFaultOfItems}
use Rattle.kpn_shelf.specs.Shelf.{Loads, IsRefusalOfLoad}

-- the file may give bytes that spell this document, and each of its sources has the items of the file that one of the
-- words gives it, and else none
pub record AreInputs (may_give : Loads) (file : List ℕ) (words : List (List ℕ)) (d : Document)
    (given : List (List ℤ)) : Type 0 where
  pub cut : All HasEquals words
  pub described : IsDescribed may_give file d
  pub named : List ℕ
  pub are_sources : sources_named d (map name_in words) ≡ Ok named
  pub are_given : AreGiven may_give (sources d.tables) named (map file_in words) given

-- a document was read, and then a name in these words was refused
pub record AreRefusedNames (may_give : Loads) (file : List ℕ) (words : List (List ℕ))
    (fault : OptionFault) : Type 0 where
  pub document : Document
  pub described : IsDescribed may_give file document
  pub refused : sources_named document (map name_in words) ≡ Err fault

-- a document was read, all names were taken, those of sinks too, and then a file of items was refused
pub record AreRefusedItems (may_give : Loads) (file : List ℕ) (words names : List (List ℕ))
    (fault : ItemFault) : Type 0 where
  pub document : Document
  pub described : IsDescribed may_give file document
  pub named : List ℕ
  pub are_sources : sources_named document (map name_in words) ≡ Ok named
  pub sinks : List ℕ
  pub are_sinks : sinks_named document names ≡ Ok sinks
  pub refused : IsFaultOfItems may_give (map file_in words) fault

-- why there is nothing to run: the words are checked first, then the description, then the names, then the files
abbrev pub IsRefusalOfInputs : (may_give : Loads) (file : List ℕ) (words : List (List ℕ)) → Refusal
    → Type 0
IsRefusalOfInputs may_give file words SourceWord = Any LacksEquals words
IsRefusalOfInputs may_give file words (Description fault) =
    All HasEquals words × IsRefusedDescription may_give file fault
IsRefusalOfInputs may_give file words (Names fault) =
    All HasEquals words × AreRefusedNames may_give file words fault
IsRefusalOfInputs may_give file words (Input fault) =
    All HasEquals words × (IsRefusalOfLoad may_give file fault ⊎ AreRefusedItems may_give file words [] fault)
IsRefusalOfInputs may_give file words NoMemory = ⊤
IsRefusalOfInputs may_give file words other = ⊥

-- ---- for a run, which also has options that give files to its sinks

-- these are the sinks of these names, with these files
pub record AreNamedSinks (d : Document) (names files : List (List ℕ)) (sinks : List NamedEnd) : Type 0 where
  pub numbers : sinks_named d names ≡ Ok (map (λ end. end.number) sinks)
  pub given : map (λ end. end.file.now) sinks ≡ files

-- a document was read, all names of sources were taken, and then the name of a sink was refused
pub record AreRefusedSinks (may_give : Loads) (file : List ℕ) (words names : List (List ℕ))
    (fault : OptionFault) : Type 0 where
  pub document : Document
  pub described : IsDescribed may_give file document
  pub named : List ℕ
  pub are_sources : sources_named document (map name_in words) ≡ Ok named
  pub refused : sinks_named document names ≡ Err fault

-- Why there is nothing to run: the same, but these names of sinks are checked after those of sources, and before the
-- files.
abbrev pub IsRefusalOfRunInputs : (may_give : Loads) (file : List ℕ) (words names : List (List ℕ)) → Refusal
    → Type 0
IsRefusalOfRunInputs may_give file words names (Names fault) =
    All HasEquals words
    × (AreRefusedNames may_give file words fault ⊎ AreRefusedSinks may_give file words names fault)
IsRefusalOfRunInputs may_give file words names (Input fault) =
    All HasEquals words × (IsRefusalOfLoad may_give file fault ⊎ AreRefusedItems may_give file words names fault)
IsRefusalOfRunInputs may_give file words names other = IsRefusalOfInputs may_give file words other
