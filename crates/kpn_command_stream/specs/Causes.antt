-- Why a stream is not begun.
use Rattle.std.specs.Prelude.{◌≡◌, ◌≢◌, ◌⊎◌, ℕ, ◌<◌, List, map, length, get_or, All, IfSome, Some, None, Err, Ok, codes, ⊤}
use Rattle.std.specs.List.{Any}
use Rattle.std.specs.String.{string_bytes}
use Rattle.kpn_text_names.specs.Names.{name_at}
use Rattle.kpn_text.specs.Document.{Document}
use Rattle.kpn_shelf.specs.Shelf.{Loads, Aliases}
use Rattle.kpn_command_base.specs.declared.refusal.Refusal.{Refusal}
use Rattle.kpn_command_base.specs.declared.refusal.Refusal.TheVariants as refusal
use Rattle.kpn_command_base.specs.declared.sources.EndKind.{EndKind}
use Rattle.kpn_command_base.specs.declared.sources.EndKind.TheVariants.{Sources, Sinks}
use Rattle.kpn_command_base.specs.declared.sources.NamedEnd.{NamedEnd}
use Rattle.kpn_command_base.specs.Description.{IsDescribed, IsRefusalOfDescription}
use Rattle.kpn_command_base.specs.Outputs.{IsRefusedTrace, IsRefusedSink}
use Rattle.kpn_command_base.specs.Sources.{LacksEquals, ends_named, file_in, is_end, name_in}
use Rattle.kpn_command_base.specs.StreamRequest.{StreamRequest}
use Rattle.kpn_stream.specs.Ending.{end_numbers}
use Rattle.kpn_command_stream.specs.declared.refusal.StreamRefusal.{StreamRefusal}
use Rattle.kpn_command_stream.specs.declared.refusal.StreamRefusal.TheVariants.{Common, Unnamed, SharedInput, FormatWord}
use Rattle.kpn_command_stream.specs.Formats.{AreForEnds, SaysFormat}
use Rattle.kpn_command_stream.specs.EndPlaces.{ArePlacesOfEnds, ShareAnInput, name_for, standard}
use Rattle.kpn_command_stream.specs.declared.places.EndPlace.{EndPlace}
use Rattle.kpn_command_stream.specs.Words.{AreStreamOutputsApart, stream_words_of}

-- ---- the words

-- the words after `--source` and `--sink`, and that for the trace: the trace is standard output, or it or a sink may
-- be written over an input or into another output, or a word has no `=`, or memory ran out
abbrev pub AreWordsRefused : (may_alias : Aliases) → StreamRequest → Refusal → Type 0
AreWordsRefused may_alias request refusal.TraceWord =
    (request.trace ≡ Some standard) ⊎ IsRefusedTrace may_alias (stream_words_of request)
AreWordsRefused may_alias request refusal.SourceWord = Any LacksEquals request.sources
AreWordsRefused may_alias request refusal.SinkWord = IsRefusedSink may_alias (stream_words_of request)
AreWordsRefused may_alias request refusal.NoMemory = ⊤
AreWordsRefused may_alias request other = ⊥

-- ---- the places

-- one of these channels has this name; no option names it, and it is not the only one
pub record IsLeftOut (d : Document) (named : List NamedEnd) (channels : List ℕ) (name : List ℕ) : Type 0 where
  pub number : ℕ
  pub there : number < length channels
  pub none : name_for named number (length channels) ≡ None
  pub called : name ≡ name_at d.names.channels (get_or channels number 0)

-- so is one of the ends
pub record LacksName (ends : EndKind) (d : Document) (names : List (List ℕ)) (name : List ℕ) : Type 0 where
  pub named : List NamedEnd
  pub numbers : ends_named ends d names ≡ Ok (map (λ end. end.number) named)
  pub left_out : IsLeftOut d named (end_numbers (is_end ends) d.tables) name

-- such ends have no places: a name is no such end, or was named before; or an end lacks one; or a word says no format
abbrev pub IsUnplaced : EndKind → Document → (names formats : List (List ℕ)) → StreamRefusal → Type 0
IsUnplaced ends d names formats (Common (refusal.Names fault)) = ends_named ends d names ≡ Err fault
IsUnplaced ends d names formats (Common refusal.NoMemory) = ⊤
IsUnplaced ends d names formats (Common other) = ⊥
IsUnplaced ends d names formats (Unnamed these name) = (these ≡ ends) × LacksName ends d names (string_bytes name)
IsUnplaced ends d names formats FormatWord = ¬ All SaysFormat formats
IsUnplaced ends d names formats SharedInput = ⊥

-- ---- the network

-- an input may be the file that standard output writes
abbrev pub MayBeInput : Aliases → Type 0
MayBeInput may_alias = (input : List ℕ) × may_alias (codes "/dev/stdout") input

-- one of these sinks writes standard output, and an input may be its file
abbrev pub MayWriteInto : Aliases → List EndPlace → Type 0
MayWriteInto may_alias sinks = Any (λ (sink : EndPlace). sink.name.now ≡ standard) sinks × MayBeInput may_alias

-- an input or an output can't be opened, made ready or emptied, or memory ran out: nothing is known of devices
abbrev pub IsDeviceRefusal : Refusal → Type 0
IsDeviceRefusal (refusal.Input fault) = ⊤
IsDeviceRefusal (refusal.Output fault) = ⊤
IsDeviceRefusal refusal.NoMemory = ⊤
IsDeviceRefusal other = ⊥

-- the options of a stream taken apart: the names of sources and sinks, their inputs and outputs, and the formats
pub record EndWords : Type 0 where
  pub sources : List (List ℕ)
  pub inputs : List (List ℕ)
  pub sinks : List (List ℕ)
  pub outputs : List (List ℕ)
  pub formats : List (List ℕ)

abbrev pub end_words_of : StreamRequest → EndWords
end_words_of request = record {
  sources = map name_in request.sources;
  inputs = map file_in request.sources;
  sinks = map name_in request.sinks;
  outputs = map file_in request.sinks;
  formats = request.formats;
}

-- these are the places of the sources, or of the sinks
abbrev pub AreSourcePlaces : Document → EndWords → List EndPlace → Type 0
AreSourcePlaces d words places = ArePlacesOfEnds Sources d words.sources words.inputs words.formats places

abbrev pub AreSinkPlaces : Document → EndWords → List EndPlace → Type 0
AreSinkPlaces d words places = ArePlacesOfEnds Sinks d words.sinks words.outputs words.formats places

-- A network is not streamed, by the words of the options: of the sources or of the sinks some have no places; or two
-- sources may have one input; or words after `--format` say none, are for no end, or for the same; or standard output
-- may be an input; or a device is not ready.
abbrev pub IsUnstreamed : (may_alias may_share : Aliases) → Document → EndWords → StreamRefusal → Type 0
IsUnstreamed may_alias may_share d words (Common (refusal.Names fault)) =
    (ends_named Sources d words.sources ≡ Err fault) ⊎ (ends_named Sinks d words.sinks ≡ Err fault)
IsUnstreamed may_alias may_share d words (Common refusal.SinkWord) =
    (sinks : List EndPlace) × AreSinkPlaces d words sinks × MayWriteInto may_alias sinks
IsUnstreamed may_alias may_share d words (Common other) = IsDeviceRefusal other
IsUnstreamed may_alias may_share d words (Unnamed Sources name) = LacksName Sources d words.sources (string_bytes name)
IsUnstreamed may_alias may_share d words (Unnamed Sinks name) = LacksName Sinks d words.sinks (string_bytes name)
IsUnstreamed may_alias may_share d words SharedInput =
    (sources : List EndPlace) × AreSourcePlaces d words sources × ShareAnInput may_share sources
IsUnstreamed may_alias may_share d words FormatWord =
    ¬ (All SaysFormat words.formats × AreForEnds d words.formats)

-- ---- the whole

-- the words are right: each after `--format` says a format, no output is an input or another output, and the trace has
-- a file
pub record AreWordsRight (request : StreamRequest) : Type 0 where
  pub formats : All SaysFormat request.formats
  pub apart : AreStreamOutputsApart request
  pub trace : IfSome request.trace (λ name. name ≢ standard)

-- a refusal that other commands have too
abbrev pub OfCommon : (Refusal → Type 0) → StreamRefusal → Type 0
OfCommon P (Common refusal) = P refusal
OfCommon P other = ⊥

-- Why a stream is not begun. The formats are looked at first, then the words that name files, then the description is
-- loaded, and then its network is looked at. What is looked at before the cause is right.
pub data IsUnbegun (may_give : Loads) (may_alias may_share : Aliases) (request : StreamRequest) (cause : StreamRefusal)
    : Type 0 where
  by_formats : cause ≡ FormatWord → ¬ All SaysFormat request.formats →
      IsUnbegun may_give may_alias may_share request cause
  by_words : All SaysFormat request.formats → OfCommon (AreWordsRefused may_alias request) cause →
      IsUnbegun may_give may_alias may_share request cause
  by_file : AreWordsRight request → OfCommon (IsRefusalOfDescription may_give request.file) cause →
      IsUnbegun may_give may_alias may_share request cause
  by_network : AreWordsRight request → (document : Document) → IsDescribed may_give request.file document →
      IsUnstreamed may_alias may_share document (end_words_of request) cause →
      IsUnbegun may_give may_alias may_share request cause

-- ---- scaffolding

-- such ends, of which these are named, have no places
abbrev pub IsUnplacedBy : EndKind → Document → List NamedEnd → (channels : List ℕ) → (formats : List (List ℕ))
    → StreamRefusal → Type 0
IsUnplacedBy ends d named channels formats (Common refusal.NoMemory) = ⊤
IsUnplacedBy ends d named channels formats (Common other) = ⊥
IsUnplacedBy ends d named channels formats (Unnamed these name) =
    (these ≡ ends) × IsLeftOut d named channels (string_bytes name)
IsUnplacedBy ends d named channels formats FormatWord = ¬ All SaysFormat formats
IsUnplacedBy ends d named channels formats SharedInput = ⊥

-- the end of this name lacks an option, or there is no memory to say so
abbrev pub IsUnnamed : EndKind → (name : List ℕ) → StreamRefusal → Type 0
IsUnnamed ends name (Common refusal.NoMemory) = ⊤
IsUnnamed ends name (Common other) = ⊥
IsUnnamed ends name (Unnamed these own) = (these ≡ ends) × (string_bytes own ≡ name)
IsUnnamed ends name FormatWord = ⊥
IsUnnamed ends name SharedInput = ⊥
