-- Which input each source of a network gets, and which output each sink.
use Rattle.std.specs.Prelude.{◌≡◌, ℕ, ◌<◌, nat_eq, if◌then◌else◌, List, map, length, get_or, take, All, Option, Some, None, Ok, codes}
use Rattle.std.specs.List.{AllPairs}
use Rattle.kpn_text.specs.Document.{Document}
use Rattle.kpn_command_base.specs.declared.sources.EndKind.{EndKind}
use Rattle.kpn_command_base.specs.declared.sources.NamedEnd.{NamedEnd}
use Rattle.kpn_command_base.specs.Sources.{file_for, is_end, ends_named}
use Rattle.kpn_text_names.specs.Names.{name_at}
use Rattle.kpn_stream.specs.Ending.{end_numbers}
use Rattle.kpn_stream_devices.specs.Formats.{NamesFormat}
use Rattle.kpn_command_stream.specs.Formats.{format_word}
use Rattle.kpn_command_stream.specs.declared.places.EndPlace.{EndPlace}

-- the name of standard input and of standard output
abbrev pub standard : List ℕ
standard = codes "-"

-- the end of this number, of `count` ends, gets what an option names, and the only one may also have none
abbrev pub name_or_standard : Option (List ℕ) → (count : ℕ) → Option (List ℕ)
name_or_standard (Some name) count = Some name
name_or_standard None count = if nat_eq count 1 then Some standard else None

abbrev pub name_for : List NamedEnd → (number count : ℕ) → Option (List ℕ)
name_for named number count = name_or_standard (file_for named number) count

-- the items of a place are written as the words after `--format` say of its end
abbrev pub HasFormat : Document → (words : List (List ℕ)) → EndPlace → Type 0
HasFormat d words place = NamesFormat (format_word words (name_at d.names.channels place.channel)) place.format

-- The places of such ends in order of their channels, by the names in the options, the inputs or outputs there, and the
-- words after `--format`.
pub record ArePlacesOfEnds (ends : EndKind) (d : Document) (names files words : List (List ℕ))
    (places : List EndPlace) : Type 0
  where
    pub named : List NamedEnd
    pub numbers : ends_named ends d names ≡ Ok (map (λ end. end.number) named)
    pub given : map (λ end. end.file.now) named ≡ files
    pub channels : map (λ place. place.channel) places ≡ end_numbers (is_end ends) d.tables
    pub each : (number : ℕ) (place : EndPlace) → number < length places
        → name_for named number (length places) ≡ Some (get_or places number place).name.now
    pub formats : All (HasFormat d words) places

-- of each two of these places, each input has all that is there: no item goes to one of them alone
abbrev pub HaveOwnInputs : (are_two_inputs : List ℕ → List ℕ → Type 0) → List EndPlace → Type 0
HaveOwnInputs are_two_inputs places =
    AllPairs (λ (earlier later : EndPlace). are_two_inputs earlier.name.now later.name.now) places

-- of some two of these places, the inputs may be one
abbrev pub ShareAnInput : (may_share : List ℕ → List ℕ → Type 0) → List EndPlace → Type 0
ShareAnInput may_share places = ¬ HaveOwnInputs (λ name other. ¬ may_share name other) places

-- ---- scaffolding

-- the places of the first ends, as many as this number says
pub record ArePlaced (d : Document) (named : List NamedEnd) (words : List (List ℕ)) (ends : List ℕ) (number : ℕ)
    (places : List EndPlace) : Type 0 where
  pub channels : map (λ place. place.channel) places ≡ take number ends
  pub count : length places ≡ number
  pub each : (k : ℕ) (place : EndPlace) → k < length places
      → name_for named k (length ends) ≡ Some (get_or places k place).name.now
  pub formats : All (HasFormat d words) places

-- the places of all ends
abbrev pub AllPlaced : Document → List NamedEnd → (words : List (List ℕ)) → (ends : List ℕ) → List EndPlace → Type 0
AllPlaced d named words ends places = ArePlaced d named words ends (length ends) places
