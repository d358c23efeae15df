-- The options `--source` and `--sink` of a command line: each names an end of the network and a file.
use Rattle.std.specs.Prelude.{◌≡◌, ◌⊎◌, ◌<◌, ℕ, suc, ℤ, ◌==◌, nat_eq, if◌then◌else◌, Bool, List, count_by, [], ◌∷◌, ◌++◌, length, replicate, slice_set, Option, Some, None, Result, Ok, Err}
use Rattle.std.specs.List.{AllZip, list_any, position_or_len, before_first, after_first}
use Rattle.std.specs.Str.{bytes_eq}
use Rattle.kpn_net.specs.declared.tables.ChannelSpec.{ChannelSpec}
use Rattle.kpn_net.specs.Tables.{Tables, is_source, is_sink}
use Rattle.kpn_text_items.specs.declared.fault.ItemFault.{ItemFault}
use Rattle.kpn_text_items.specs.ItemFile.{Spells, TellsFirstBadLine}
use Rattle.kpn_text_tokens.specs.Results.{and_then}
use Rattle.kpn_text_names.specs.Names.{name_at}
use Rattle.kpn_text.specs.Document.{Document}
use Rattle.kpn_command_base.specs.declared.sources.EndKind.{EndKind}
use Rattle.kpn_command_base.specs.declared.sources.EndKind.TheVariants.{Sources, Sinks}
use Rattle.kpn_command_base.specs.declared.sources.NamedEnd.{NamedEnd}
use Rattle.kpn_command_base.specs.declared.option_fault.OptionFault.{OptionFault}
use Rattle.kpn_command_base.specs.declared.option_fault.OptionFault.TheVariants.{Unknown, Double}
use Rattle.kpn_shelf.specs.Shelf.{Loads, IsRefusalOfLoad, IsLoadedAs}

-- a word has an `=` (byte 61), or has none
abbrev pub HasEquals : (word : List ℕ) → Type 0
HasEquals word = position_or_len (λ byte. byte == 61) word < length word

abbrev pub LacksEquals : (word : List ℕ) → Type 0
LacksEquals word = position_or_len (λ byte. byte == 61) word ≡ length word

-- a word is cut at its first `=` into a name and a file
abbrev pub name_in : (word : List ℕ) → List ℕ
name_in word = before_first (λ byte. byte == 61) word

abbrev pub file_in : (word : List ℕ) → List ℕ
file_in word = after_first (λ byte. byte == 61) word

-- the file that an option gives the end of this number, if one does
abbrev pub file_for : List NamedEnd → (number : ℕ) → Option (List ℕ)
file_for [] number = None
file_for (end ∷ ends) number = if nat_eq end.number number then Some end.file.now else file_for ends number

-- ---- which end a name is

-- the channels that are such ends
abbrev pub is_end : EndKind → ChannelSpec → Bool
is_end Sources = is_source
is_end Sinks = is_sink

-- how many such ends a network has
abbrev pub ends_of : EndKind → Tables → ℕ
ends_of ends t = count_by (is_end ends) t.channels

-- the number of the first such end with this name among the channels from c on, before which k such ends stand
abbrev pub end_from : (is : ChannelSpec → Bool) (names : List (List ℕ)) (name : List ℕ) → (k c : ℕ)
    → List ChannelSpec → Option ℕ
end_from is names name k c [] = None
end_from is names name k c (s ∷ channels) =
    if is s
    then (if bytes_eq name (name_at names c) then Some k else end_from is names name (suc k) (suc c) channels)
    else end_from is names name k (suc c) channels

-- the number of the end with this name: sources are numbered from 0 in order of their channels, and so are sinks
abbrev pub end_number : EndKind → Document → (name : List ℕ) → Option ℕ
end_number ends d name = end_from (is_end ends) d.names.channels name 0 0 d.tables.channels

-- ---- which ends the names of options are

-- the ends that were named so far and one more, which has to be there and to be new
abbrev pub with_named_end : (named : List ℕ) → Option ℕ → Result (List ℕ) OptionFault
with_named_end named None = Err (Unknown (length named))
with_named_end named (Some number) =
    if list_any (λ n. nat_eq n number) named then Err (Double (length named)) else Ok (named ++ number ∷ [])

-- the same for several names in order
abbrev pub with_ends : EndKind → Document → (named : List ℕ) → (names : List (List ℕ)) → Result (List ℕ) OptionFault
with_ends ends d named [] = Ok named
with_ends ends d named (name ∷ names) =
    and_then (with_named_end named (end_number ends d name)) (λ more. with_ends ends d more names)

-- the numbers of the ends that options name, or the first option that names none, or one that was named before
abbrev pub ends_named : EndKind → Document → (names : List (List ℕ)) → Result (List ℕ) OptionFault
ends_named ends d names = with_ends ends d [] names

-- the same for `--source`
abbrev pub sources_named : Document → (names : List (List ℕ)) → Result (List ℕ) OptionFault
sources_named d names = ends_named Sources d names

-- the same for `--sink`
abbrev pub sinks_named : Document → (names : List (List ℕ)) → Result (List ℕ) OptionFault
sinks_named d names = ends_named Sinks d names

-- ---- the lists that sources are given

-- each of these lists in the place of its source, and what was there for the others
abbrev pub placed_lists : (named : List ℕ) → List (List ℤ) → (given : List (List ℤ)) → List (List ℤ)
placed_lists [] lists given = given
placed_lists (source ∷ named) [] given = given
placed_lists (source ∷ named) (items ∷ lists) given = placed_lists named lists (slice_set given source items)

-- a file may give bytes that spell these items
abbrev pub IsItemFile : (may_give : Loads) (file : List ℕ) → List ℤ → Type 0
IsItemFile may_give file items = IsLoadedAs Spells may_give file items

-- a list for each source of a network: for those that are named the items of their files, and else the empty list
pub record AreGiven (may_give : Loads) (count : ℕ) (named : List ℕ) (files : List (List ℕ))
    (given : List (List ℤ)) : Type 0 where
  pub lists : List (List ℤ)
  pub read : AllZip (IsItemFile may_give) files lists
  pub each : given ≡ placed_lists named lists (replicate count [])

-- ---- files that give no items

-- a file is not loaded, or has a line that spells no item
abbrev pub IsFaultOfFile : (may_give : Loads) (file : List ℕ) → ItemFault → Type 0
IsFaultOfFile may_give file fault =
    IsRefusalOfLoad may_give file fault ⊎ IsLoadedAs TellsFirstBadLine may_give file fault

-- of these files, those before one spell items, and that one does not
pub record IsFaultOfItems (may_give : Loads) (files : List (List ℕ)) (fault : ItemFault) : Type 0
  where
    pub before : List (List ℕ)
    pub file : List ℕ
    pub after : List (List ℕ)
    pub order : files ≡ before ++ file ∷ after
    pub lists : List (List ℤ)
    pub read : AllZip (IsItemFile may_give) before lists
    pub fails : IsFaultOfFile may_give file fault
