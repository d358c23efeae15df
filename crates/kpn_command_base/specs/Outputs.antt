-- The files that a command is to store: none is an input or another output. A run makes each ready before it begins.
use Rattle.std.specs.Prelude.{◌≡◌, ◌≢◌, ◌⊎◌, ◌<◌, ℕ, ℤ, List, [], ◌∷◌, ◌++◌, length, map, All, Option, Some, None, codes, ⊤}
use Rattle.std.specs.List.{Any, AllPairs}
use Rattle.kpn_command_base.specs.RunRequest.{RunRequest}
use Rattle.kpn_text.specs.Document.{Document}
use Rattle.kpn_command_base.specs.declared.refusal.Refusal.{Refusal}
use Rattle.kpn_command_base.specs.declared.refusal.Refusal.TheVariants.{TraceWord, SinkWord, Output, NoMemory}
use Rattle.kpn_shelf.specs.Shelf.{Loads, Aliases}
use Rattle.kpn_command_base.specs.declared.sources.NamedEnd.{NamedEnd}
use Rattle.kpn_command_base.specs.Inputs.{AreInputs, AreNamedSinks, IsRefusalOfRunInputs}
use Rattle.kpn_command_base.specs.Sources.{HasEquals, LacksEquals, name_in, file_in}

-- ---- the words that name files

-- the file of the description, the words after the `--source` options and those after the `--sink` options, and the
-- file for the trace
pub record FileWords : Type 0 where
  pub file : List ℕ
  pub sources : List (List ℕ)
  pub sinks : List (List ℕ)
  pub trace : Option (List ℕ)

-- those of a run
abbrev pub words_of : RunRequest → FileWords
words_of request = record {
  file = request.file;
  sources = request.sources;
  sinks = request.sinks;
  trace = request.trace;
}

-- ---- outputs that are apart

-- a name is not that of the description, nor that of a file of items
abbrev pub IsApart : FileWords → (name : List ℕ) → Type 0
IsApart asked name = (name ≢ asked.file) × All (λ word. HasEquals word → name ≢ file_in word) asked.sources

-- two outputs have two names, or that of the device that keeps nothing
abbrev pub AreTwoOutputs : (earlier later : List ℕ) → Type 0
AreTwoOutputs earlier later = (later ≢ earlier) ⊎ (later ≡ codes "/dev/null")

-- none of these outputs has the name of an input, and no two have one name but that of this device
pub record AreNamesApart (asked : FileWords) (outputs : List (List ℕ)) : Type 0 where
  pub no_inputs : All (IsApart asked) outputs
  pub each_other : AllPairs AreTwoOutputs outputs

-- the name of the trace, if one was asked for
abbrev pub trace_name : (trace : Option (List ℕ)) → List (List ℕ)
trace_name None = []
trace_name (Some name) = name ∷ []

-- the outputs in their order: the trace, and the files that the words after `--sink` name
abbrev pub outputs_of : FileWords → List (List ℕ)
outputs_of asked = trace_name asked.trace ++ map file_in asked.sinks

-- each word after `--sink` has an `=`, and the outputs are apart
pub record AreAllApart (asked : FileWords) : Type 0 where
  pub cut : All HasEquals asked.sinks
  pub apart : AreNamesApart asked (outputs_of asked)

-- the same of a run
abbrev pub AreOutputsApart : RunRequest → Type 0
AreOutputsApart request = AreAllApart (words_of request)

-- ---- outputs that may not be apart

-- two names are one, or the shelf may lead by both to one file
abbrev pub MayBeOne : (may_alias : Aliases) (name other : List ℕ) → Type 0
MayBeOne may_alias name other = (name ≡ other) ⊎ may_alias name other

-- a word after `--source` names a file of items that may be that of this output
abbrev pub MayGiveItems : (may_alias : Aliases) (name word : List ℕ) → Type 0
MayGiveItems may_alias name word = HasEquals word × MayBeOne may_alias name (file_in word)

-- the file of an output may be that of standard input, standard output or standard error
abbrev pub MayBeStandard : (may_alias : Aliases) (name : List ℕ) → Type 0
MayBeStandard may_alias name =
    may_alias name (codes "/dev/stdin") ⊎ may_alias name (codes "/dev/stdout") ⊎ may_alias name (codes "/dev/stderr")

-- an output may be written over an input, or into standard output or standard error
abbrev pub MayOverwrite : (may_alias : Aliases) → FileWords → (name : List ℕ) → Type 0
MayOverwrite may_alias asked name =
    MayBeOne may_alias name asked.file ⊎ Any (MayGiveItems may_alias name) asked.sources
    ⊎ MayBeStandard may_alias name

-- an output may be written over an input or into an earlier output
abbrev pub MayMeet : (may_alias : Aliases) → FileWords → (earlier : List (List ℕ)) (name : List ℕ) → Type 0
MayMeet may_alias asked earlier name =
    MayOverwrite may_alias asked name ⊎ Any (MayBeOne may_alias name) earlier

-- one of these outputs, which stand after earlier ones, may
pub record OneMayMeet (may_alias : Aliases) (asked : FileWords) (earlier outputs : List (List ℕ)) : Type 0 where
  pub before : List (List ℕ)
  pub name : List ℕ
  pub after : List (List ℕ)
  pub order : outputs ≡ before ++ name ∷ after
  pub meets : MayMeet may_alias asked (earlier ++ before) name

-- ---- why outputs are refused

-- the trace is checked first
abbrev pub IsRefusedTrace : (may_alias : Aliases) → FileWords → Type 0
IsRefusedTrace may_alias asked = OneMayMeet may_alias asked [] (trace_name asked.trace)

-- then a word after `--sink` that has no `=`, and then the files that these words name, in order
abbrev pub IsRefusedSink : (may_alias : Aliases) → FileWords → Type 0
IsRefusedSink may_alias asked =
    AreNamesApart asked (trace_name asked.trace)
    × (Any LacksEquals asked.sinks
    ⊎ OneMayMeet may_alias asked (trace_name asked.trace) (map file_in asked.sinks))

-- these are the sinks that the words after `--sink` name, with their files
abbrev pub AreSinksNamed : RunRequest → Document → List NamedEnd → Type 0
AreSinksNamed request d sinks = AreNamedSinks d (map name_in request.sinks) (map file_in request.sinks) sinks

-- the inputs are there
pub record HasInputs (may_give : Loads) (request : RunRequest) : Type 0 where
  pub document : Document
  pub given : List (List ℤ)
  pub are_inputs : AreInputs may_give request.file request.sources document given
  pub named : List NamedEnd
  pub are_sinks : AreSinksNamed request document named

-- Why a run is not begun. The words that name outputs are checked first, then the inputs are read, then the outputs, if
-- there are any, are made ready.
abbrev pub IsUnprepared : (may_give : Loads) (may_alias : Aliases) → RunRequest → Refusal → Type 0
IsUnprepared may_give may_alias request TraceWord = IsRefusedTrace may_alias (words_of request)
IsUnprepared may_give may_alias request SinkWord = IsRefusedSink may_alias (words_of request)
IsUnprepared may_give may_alias request (Output fault) =
    AreOutputsApart request × HasInputs may_give request × (0 < length (outputs_of (words_of request)))
IsUnprepared may_give may_alias request NoMemory = ⊤
IsUnprepared may_give may_alias request other =
    AreOutputsApart request × IsRefusalOfRunInputs may_give request.file request.sources (map name_in request.sinks) other

-- ---- scaffolding: what the parts of the code refuse

-- this output, which stands after earlier ones, is refused as is given; or there is no memory to compare files
abbrev pub IsRefusalOfOutput : (may_alias : Aliases) → FileWords → (earlier : List (List ℕ)) (name : List ℕ)
    (given : Refusal) → Refusal → Type 0
IsRefusalOfOutput may_alias asked earlier name given refusal =
    ((refusal ≡ given) × MayMeet may_alias asked earlier name) ⊎ (refusal ≡ NoMemory)

-- one of these outputs is
abbrev pub IsRefusalOfSome : (may_alias : Aliases) → FileWords → (earlier outputs : List (List ℕ))
    (given : Refusal) → Refusal → Type 0
IsRefusalOfSome may_alias asked earlier outputs given refusal =
    ((refusal ≡ given) × OneMayMeet may_alias asked earlier outputs) ⊎ (refusal ≡ NoMemory)

-- the words that name outputs are refused
abbrev pub IsRefusalOfOutputs : (may_alias : Aliases) → FileWords → Refusal → Type 0
IsRefusalOfOutputs may_alias asked refusal =
    ((refusal ≡ TraceWord) × IsRefusedTrace may_alias asked)
    ⊎ ((refusal ≡ SinkWord) × IsRefusedSink may_alias asked) ⊎ (refusal ≡ NoMemory)

-- one of this many outputs can't be stored
abbrev pub IsUnready : (outputs : ℕ) → Refusal → Type 0
IsUnready outputs (Output fault) = 0 < outputs
IsUnready outputs other = ⊥
