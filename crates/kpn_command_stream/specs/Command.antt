-- What `kpn stream` does.
use Rattle.std.specs.Prelude.{◌≡◌, ◌≢◌, ℕ, ◌-◌, ◌≤◌, ◌^◌, if◌then◌else◌, Bool, true, false, List, [], ◌∷◌, ◌++◌, map, All, Option, Some, None}
use Rattle.std.specs.Prelude.{⊤, unwrap_or, IfOk, OnOk, IfSome, Result, Ok, Err}
use Rattle.std.specs.List.{AllZip}
use Rattle.std.specs.Global.{Vec}
use Rattle.kpn_net.specs.Tables.{Tables}
use Rattle.kpn_text.specs.Document.{Document}
use Rattle.kpn_trace.specs.TraceText.{trace_text}
use Rattle.kpn_history.specs.declared.stored.Version.TheVariants as version
use Rattle.kpn_book.specs.Book.{Book}
use Rattle.kpn_book.specs.Kept.{IsBook}
use Rattle.kpn_book.specs.Remembering.{Remembers}
use Rattle.kpn_history.specs.declared.keeping.Keeping.{Keeping}
use Rattle.kpn_history.specs.declared.keeping.Keeping.TheVariants as keeping
use Rattle.kpn_book.specs.declared.outcome.Limits.{Limits}
use Rattle.kpn_command_base.specs.StreamRequest.{StreamRequest}
use Rattle.kpn_command_base.specs.declared.refusal.Refusal.{Refusal}
use Rattle.kpn_command_base.specs.Stored.{IsReadable, Stores}
use Rattle.kpn_shelf.specs.Shelf.{Loads, Aliases}
use Rattle.kpn_command_base.specs.Description.{IsDescribed}
use Rattle.kpn_stream.specs.declared.faults.SinkFault.{SinkFault}
use Rattle.kpn_stream.specs.declared.faults.SinkFault.TheVariants.{Gone}
use Rattle.kpn_stream.specs.declared.ending.StreamEnding.{StreamEnding}
use Rattle.kpn_stream.specs.Devices.{Fed, Served, Called, EndsFlushed}
use Rattle.kpn_stream.specs.Ending.{failed_source, failed_sink, IsEnding, LeavesNothing}
use Rattle.kpn_stream_devices.specs.declared.inputs.SourceInput.{SourceInput}
use Rattle.kpn_stream_devices.specs.declared.inputs.SourceInputs.{SourceInputs}
use Rattle.kpn_stream_devices.specs.declared.outputs.SinkOutput.{SinkOutput}
use Rattle.kpn_stream_devices.specs.declared.outputs.SinkOutputs.{SinkOutputs}
use Rattle.kpn_stream_devices.specs.Formats.{head_bytes}
use Rattle.kpn_stream_devices.specs.declared.formats.ItemFormat.{ItemFormat}
use Rattle.kpn_stream_devices.specs.Window.{fresh}
use Rattle.kpn_stream_devices.specs.SourceInputs.{InputsGive, InputsLook, IsAtHand}
use Rattle.kpn_stream_devices.specs.SinkOutputs.{OutputsTake, OutputsFlush}
use Rattle.kpn_command_stream.specs.declared.places.EndPlace.{EndPlace}
use Rattle.kpn_command_stream.specs.declared.places.EndPlaces.{EndPlaces}
use Rattle.kpn_command_stream.specs.declared.command.Words.{Words}
use Rattle.kpn_command_stream.specs.declared.ending.Over.{Over}
use Rattle.kpn_command_stream.specs.declared.running.Lost.{Lost}
use Rattle.kpn_command_stream.specs.declared.refusal.StreamRefusal.{StreamRefusal}
use Rattle.kpn_command_base.specs.Told.{IsLineTold}
use Rattle.kpn_command_stream.specs.Refusal.{refusal_status, refusal_text, ending_fault, lost_fault, trace_fault}
use Rattle.kpn_command_stream.specs.Refusal.{summary_fault, first_status}
use Rattle.kpn_command_stream.specs.Formats.{AreForEnds}
use Rattle.kpn_command_stream.specs.EndPlaces.{standard, HaveOwnInputs}
use Rattle.kpn_command_stream.specs.Causes.{AreSinkPlaces, AreSourcePlaces, AreWordsRight, EndWords, IsUnbegun, end_words_of}
use Rattle.kpn_command_stream.specs.Watching.{WasTold}
use Rattle.kpn_command_stream.specs.declared.summary.SinkEnd.{SinkEnd}
use Rattle.kpn_command_stream.specs.Summary.{stream_status, stream_summary_text}
use Rattle.kpn_command_stream.specs.Ending.{IsOver}

-- ---- what is known of devices

-- which two names are those of two inputs, which may be those of one, and by which names files were opened
pub record DeviceNames (S F G : Type 0) : Type 1 where
  pub are_two_inputs : S → List ℕ → List ℕ → Type 0
  pub may_share : S → Aliases
  pub comes_from : F → List ℕ
  pub goes_to : G → List ℕ

-- what is known of the bytes of the devices: what those for input have left, and what those for output hold
pub record KnownOfDevices (I F O G : Type 0) : Type 0 where
  pub left : I → Option (List ℕ)
  pub left_in : F → Option (List ℕ)
  pub holds : O → Option (List ℕ)
  pub holds_in : G → Option (List ℕ)

abbrev pub names_of : {S F G : Type 0} → (S → List ℕ → List ℕ → Type 0) → (S → Aliases) → (F → List ℕ)
    → (G → List ℕ) → DeviceNames S F G
names_of are_two_inputs may_share comes_from goes_to =
    record { are_two_inputs = are_two_inputs; may_share = may_share; comes_from = comes_from; goes_to = goes_to }

abbrev pub known_of : {I F O G : Type 0} → (I → Option (List ℕ)) → (F → Option (List ℕ)) → (O → Option (List ℕ))
    → (G → Option (List ℕ)) → KnownOfDevices I F O G
known_of left left_in holds holds_in = record { left = left; left_in = left_in; holds = holds; holds_in = holds_in }

-- ---- the devices at the beginning

-- standard input for the name `-`, and else the file of this name, which has left what the shelf may give
abbrev pub IsInputOf : {F : Type 0} → (may_give : Loads) (comes_from : F → List ℕ) (left_in : F → Option (List ℕ))
    (name : List ℕ) → Option F → Type 0
IsInputOf may_give comes_from left_in name None = name ≡ standard
IsInputOf may_give comes_from left_in name (Some file) =
    (name ≢ standard) × (comes_from file ≡ name) × IfSome (left_in file) (λ bytes. may_give name (Ok bytes))

-- standard output for the name `-`, and else the file of this name
abbrev pub IsOutputOf : {G : Type 0} → (goes_to : G → List ℕ) (name : List ℕ) → Option G → Type 0
IsOutputOf goes_to name None = name ≡ standard
IsOutputOf goes_to name (Some file) = (name ≢ standard) × (goes_to file ≡ name)

-- the input of a place: nothing was read
pub record IsInputFor {F : Type 0} (may_give : Loads) (comes_from : F → List ℕ) (left_in : F → Option (List ℕ))
    (place : EndPlace) (input : SourceInput F) : Type 0 where
  pub channel : input.channel ≡ place.channel
  pub format : input.format ≡ place.format
  pub file : IsInputOf may_give comes_from left_in place.name.now input.file
  pub window : input.window ≡ fresh
  pub failed : input.failed ≡ None

-- what an output begins with: a head tells 48,000 samples a second and one channel, unless an option says others
abbrev pub first_bytes : ItemFormat → StreamRequest → List ℕ
first_bytes format request = head_bytes format (unwrap_or request.rate 48000) (unwrap_or request.channels 1)

-- the output of a place, as the request asks for: only what it begins with is kept
pub record IsOutputFor {G : Type 0} (goes_to : G → List ℕ) (request : StreamRequest) (place : EndPlace)
    (output : SinkOutput G)
    : Type 0 where
  pub channel : output.channel ≡ place.channel
  pub format : output.format ≡ record { items = place.format; clips = request.clips }
  pub file : IsOutputOf goes_to place.name.now output.file
  pub bytes : output.bytes.items ≡ first_bytes place.format request

-- each output stays the one of its place
abbrev pub StayOutputs : {G : Type 0} → (goes_to : G → List ℕ) → List EndPlace → (before after : List (SinkOutput G))
    → Type 0
StayOutputs goes_to places before after =
    (request : StreamRequest) → AllZip (IsOutputFor goes_to request) places before
    → AllZip (IsOutputFor goes_to request) places after

-- its file, if it has one, holds nothing
abbrev pub IsEmptied : {G : Type 0} → (holds_in : G → Option (List ℕ)) → SinkOutput G → Type 0
IsEmptied holds_in output = IfSome output.file (λ file. IfSome (holds_in file) (λ bytes. bytes ≡ []))

-- ---- the run

-- the limit of commits of a stream that was given none: no stream comes to it. Without any, a stream keeps no order of
-- its turns, and the tables of `--stats` would tell of another one
abbrev pub most_commits : (stats : Bool) → ℕ
most_commits stats = if stats then 2 ^ 64 - 2 else 2 ^ 64 - 1

-- a stream has the limits that are asked for, and no end of its own
abbrev pub stream_limits_of : StreamRequest → Limits
stream_limits_of request = record {
  commits = unwrap_or request.commits (most_commits request.stats);
  take = request.take;
  quota = 1000;
}

-- only a trace reads what has happened
abbrev pub keeping_for : (trace : Option (List ℕ)) → Keeping
keeping_for (Some name) = keeping.All
keeping_for None = keeping.Nothing

-- what is lost if the output of sink c answers so at the end: nothing if nobody reads it
abbrev pub losses : (c : ℕ) → Result (Unit {0}) SinkFault → List Lost
losses c (Ok done) = []
losses c (Err Gone) = []
losses c (Err fault) = record { sink = c; fault = fault } ∷ []

-- the outputs of these sinks handed on what they kept, one after the other, and this was lost
pub data HandedOn {K : Type 0} (flushes : K → ℕ → Result (Unit {0}) SinkFault → K → Type 0) (first : K)
    : (sinks : List ℕ) → List Lost → K → Type 0 where
  none_yet : HandedOn flushes first [] [] first
  one_more : (sinks : List ℕ) (c : ℕ) (lost : List Lost) (answer : Result (Unit {0}) SinkFault) (before now : K) →
      HandedOn flushes first sinks lost before → flushes before c answer now →
      HandedOn flushes first (sinks ++ c ∷ []) (lost ++ losses c answer) now

-- what outputs do that hand on what they kept
abbrev pub flushes_of : {O G : Type 0} → (O → Option (List ℕ)) → (G → Option (List ℕ)) → SinkOutputs O G → ℕ
    → Result (Unit {0}) SinkFault → SinkOutputs O G → Type 0
flushes_of holds holds_in = OutputsFlush holds holds_in

-- The network ran over these devices, under these limits, from the beginning to this ending. Then the outputs of these
-- sinks handed on what they kept, and this was lost.
pub record RanOver {I F O G : Type 0} (known : KnownOfDevices I F O G) (limits : Limits) (t : Tables) (sinks : List ℕ)
    (inputs : SourceInputs I F) (read : SourceInputs I F) (outputs : SinkOutputs O G) (written : SinkOutputs O G)
    (ending : StreamEnding) (b : Book) (lost : List Lost) : Type 0 where
  pub same_input : read.standard.ghost_name ≡ inputs.standard.ghost_name
  pub same_output : written.standard.ghost_name ≡ outputs.standard.ghost_name
  pub tables : b.tables ≡ t
  pub book : IsBook b
  pub fed : Fed t (InputsGive known.left known.left_in) (InputsLook known.left known.left_in) inputs b.history
      (failed_source (Some ending)) read
  pub served : SinkOutputs O G
  pub is_served : Served (OutputsTake known.holds known.holds_in) (OutputsFlush known.holds known.holds_in)
      limits.take outputs b.history (failed_sink (Some ending)) served
  pub called : Called t (InputsGive known.left known.left_in) (InputsLook known.left known.left_in) IsAtHand
      (OutputsTake known.holds known.holds_in) (OutputsFlush known.holds known.holds_in) limits.take inputs outputs
      b.history read served
  pub flushed : EndsFlushed (OutputsTake known.holds known.holds_in) (OutputsFlush known.holds known.holds_in)
      limits.take t [] outputs (Some ending) b.history served
  pub is_ending : IsEnding limits ending b
  pub taken : LeavesNothing ending b
  pub commits : b.commits ≤ limits.commits
  pub handed_on : HandedOn (OutputsFlush known.holds known.holds_in) served sinks lost written

-- The same, over standard input and output and these files. Standard input and output are given as they were, and as
-- they are afterwards: they are those of the first and of the last devices.
pub record RanOverFiles {I F O G : Type 0} (known : KnownOfDevices I F O G) (request : StreamRequest) (t : Tables)
    (sinks : List ℕ)
    (inputs : List (SourceInput F)) (outputs : List (SinkOutput G)) (input read : I) (out written : O)
    (ending : StreamEnding)
    (b : Book) (lost : List Lost) : Type 0 where
  pub first_input : SourceInputs I F
  pub last_input : SourceInputs I F
  pub first_output : SinkOutputs O G
  pub last_output : SinkOutputs O G
  pub ran : RanOver known (stream_limits_of request) t sinks first_input last_input first_output last_output ending b
      lost
  pub inputs_are : first_input.each.now.items ≡ inputs
  pub input_is : first_input.standard.now ≡ input
  pub input_read : last_input.standard.now ≡ read
  pub outputs_are : first_output.each.now.items ≡ outputs
  pub output_is : first_output.standard.now ≡ out
  pub output_written : last_output.standard.now ≡ written

-- the sinks of places, in order
abbrev pub sinks_of : EndPlaces → List ℕ
sinks_of places = map (λ place. place.channel) places.sinks.items

-- the same, over standard input and output and the files of these places
pub record RanAt {S I F O G : Type 0} (may_give : Loads) (names : DeviceNames S F G) (known : KnownOfDevices I F O G)
    (request : StreamRequest) (t : Tables) (places : EndPlaces) (input read : I) (out written : O)
    (ending : StreamEnding)
    (b : Book) (lost : List Lost) : Type 0 where
  pub inputs : List (SourceInput F)
  pub are_inputs : AllZip (IsInputFor may_give names.comes_from known.left_in) places.sources.items inputs
  pub outputs : List (SinkOutput G)
  pub are_outputs : AllZip (IsOutputFor names.goes_to request) places.sinks.items outputs
  pub are_emptied : All (IsEmptied known.holds_in) outputs
  pub ran : RanOverFiles known request t (sinks_of places) inputs outputs input read out written ending b lost

-- ---- the end

-- The trace is stored, if one is asked for, or it is not, for this cause. No other file changes. One that is stored has
-- no more bytes than are read of a file.
abbrev pub IsTraceKept : {S : Type 0} → (may_give : S → Loads) (trace : Option (List ℕ)) → Tables → Over
    → (shelf kept : S) → Result (Unit {0}) Refusal → Type 0
IsTraceKept may_give None t over shelf kept stored = (kept ≡ shelf) × (stored ≡ Ok tt)
IsTraceKept may_give (Some name) t over shelf kept stored =
    Stores may_give
    (record { name = name; bytes = trace_text version.Two t.policy t.growth over.history.events }) shelf kept stored
    × OnOk stored (IsReadable (trace_text version.Two t.policy t.growth over.history.events))

-- The status at the end: that of the first fault that is told. They are told in this order: what has ended the stream,
-- what outputs have lost, the trace that could not be stored, the summary if there was no memory for it. Without a
-- fault it is that of the stream.
abbrev pub end_fault : StreamEnding → List Lost → (stored : Result (Unit {0}) Refusal) → (is_told : Bool) → Option ℕ
end_fault ending lost stored is_told =
    first_status (first_status (ending_fault ending) (lost_fault lost))
    (first_status (trace_fault stored) (summary_fault is_told))

abbrev pub end_status : StreamEnding → List Lost → (stored : Result (Unit {0}) Refusal) → (is_told : Bool) → Over → ℕ
end_status ending lost stored is_told over =
    unwrap_or (end_fault ending lost stored is_told)
    (stream_status over.sinks.items over.states over.rings over.outcome)

-- the summary of what a stream has come to, with what is told of its sinks
abbrev pub summary_with : Document → Over → List SinkEnd → List ℕ
summary_with d over sinks = stream_summary_text d sinks over.states over.rings over.outcome

-- the place for faults gets the summary, as far as it takes it; or nothing of a stream that is to be quiet
abbrev pub IsSummaryTold : {E : Type 0} → (tells : E → Option (List ℕ)) (quiet : Bool) (summary : List ℕ)
    → (err told : E) → Type 0
IsSummaryTold tells true summary err told = told ≡ err
IsSummaryTold tells false summary err told = IsLineTold (tells err) (tells told) summary

-- the same if no fault is told, and no tables
abbrev pub IsEndTold : {E : Type 0} → (tells : E → Option (List ℕ)) → StreamRequest → (fault : Option ℕ)
    (summary : List ℕ) (err told : E) → Type 0
IsEndTold tells request fault summary err told =
    fault ≡ None → request.stats ≡ false → IsSummaryTold tells request.quiet summary err told

-- A stream that has ended: what is told of it, its trace, and the status; or there was no memory for what is told, and
-- no trace is stored.
pub data IsStreamConcluded {S E : Type 0} (may_give : S → Loads) (tells : E → Option (List ℕ))
    (request : StreamRequest) (d : Document) (ending : StreamEnding) (b : Book) (lost : List Lost) (shelf kept : S)
    (err told : E) (status : ℕ) : Type 0 where
  with_end : (over : Over) → IsOver (stream_limits_of request) request.stats ending b over →
      (stored : Result (Unit {0}) Refusal) →
      IsTraceKept may_give request.trace d.tables over shelf kept stored → (is_told : Bool) →
      IsEndTold tells request (end_fault ending lost stored is_told) (summary_with d over over.sinks.items) err told →
      status ≡ end_status ending lost stored is_told over →
      IsStreamConcluded may_give tells request d ending b lost shelf kept err told status
  without_end : kept ≡ shelf → status ≡ unwrap_or (first_status (ending_fault ending) (lost_fault lost)) 6 →
      IsStreamConcluded may_give tells request d ending b lost shelf kept err told status

-- ---- the whole

-- each source has the input that is asked for, and each sink the output, and their items are written so
pub record AreAskedFor (request : StreamRequest) (d : Document) (places : EndPlaces) : Type 0 where
  pub sources : AreSourcePlaces d (end_words_of request) places.sources.items
  pub sinks : AreSinkPlaces d (end_words_of request) places.sinks.items
  pub formats : AreForEnds d request.formats

-- A stream of this network. Given are the shelf, standard input and output, and the place for faults, each as it was
-- and as it is afterwards. The place for faults hears of the stream while it runs, and then of its end.
pub record IsStreamedOf {S I F O G E : Type 0} (may_give : S → Loads) (names : DeviceNames S F G)
    (known : KnownOfDevices I F O G) (tells : E → Option (List ℕ)) (hears : E → Document → Book → E → Type 0)
    (request : StreamRequest) (d : Document)
    (shelf kept : S) (input read : I) (out written : O) (err told : E) (status : ℕ) : Type 0 where
  pub places : EndPlaces
  pub asked_for : AreAskedFor request d places
  pub own_inputs : HaveOwnInputs (names.are_two_inputs shelf) places.sources.items
  pub ending : StreamEnding
  pub book : Book
  pub lost : List Lost
  pub ran : RanAt (may_give shelf) names known request d.tables places input read out written ending book lost
  pub remembers : Remembers (keeping_for request.trace) book
  pub heard : E
  pub was_told : WasTold hears request d ending book err heard
  pub concluded : IsStreamConcluded may_give tells request d ending book lost shelf kept heard told status

-- A stream of what is asked for.
pub record IsStreamed {S I F O G E : Type 0} (may_give : S → Loads) (names : DeviceNames S F G)
    (known : KnownOfDevices I F O G) (tells : E → Option (List ℕ)) (hears : E → Document → Book → E → Type 0)
    (request : StreamRequest) (shelf kept : S)
    (input read : I) (out written : O) (err told : E) (status : ℕ) : Type 0 where
  pub document : Document
  pub described : IsDescribed (may_give shelf) request.file document
  pub words : AreWordsRight request
  pub streamed : IsStreamedOf may_give names known tells hears request document shelf kept input read out written err told
      status

-- nothing was begun: the shelf, standard input and standard output are as they were
pub record NothingBegun {S I O : Type 0} (shelf kept : S) (input read : I) (out written : O) : Type 0 where
  pub same_shelf : kept ≡ shelf
  pub same_input : read ≡ input
  pub same_output : written ≡ out

-- A stream; or nothing is begun for a cause that holds, the place for faults gets the line of the refusal, and this
-- gives the status.
pub data Streams {S I F O G E : Type 0} (may_give : S → Loads) (may_alias : S → Aliases) (names : DeviceNames S F G)
    (known : KnownOfDevices I F O G) (tells : E → Option (List ℕ)) (hears : E → Document → Book → E → Type 0)
    (request : StreamRequest) (shelf kept : S)
    (input read : I) (out written : O) (err told : E) (status : ℕ) : Type 0 where
  streamed : IsStreamed may_give names known tells hears request shelf kept input read out written err told status →
      Streams may_give may_alias names known tells hears request shelf kept input read out written err told status
  refused : (refusal : StreamRefusal) →
      IsUnbegun (may_give shelf) (may_alias shelf) (names.may_share shelf) request refusal →
      NothingBegun shelf kept input read out written →
      IsLineTold (tells err) (tells told) (refusal_text refusal ++ 10 ∷ []) →
      status ≡ refusal_status refusal →
      Streams may_give may_alias names known tells hears request shelf kept input read out written err told status

-- ---- scaffolding

-- the same by what is told of the sinks, if there was memory for that
abbrev pub IsSummaryMade : {E X : Type 0} → (tells : E → Option (List ℕ)) (quiet : Bool)
    → Result (Vec SinkEnd) X → (summary : List SinkEnd → List ℕ) (err told : E) → Type 0
IsSummaryMade tells true ends summary err told = told ≡ err
IsSummaryMade tells false (Ok ends) summary err told = IsLineTold (tells err) (tells told) (summary ends.items)
IsSummaryMade tells false (Err none) summary err told = ⊥

-- the summary with these ends, if there was memory for both
abbrev pub IsSummaryOf : {T X : Type 0} → (bytes : T → List ℕ) (summary : List SinkEnd → List ℕ) → Result (Vec SinkEnd) X
    → Result T X → Type 0
IsSummaryOf bytes summary (Ok ends) made = IfOk made (λ text. bytes text ≡ summary ends.items)
IsSummaryOf bytes summary (Err none) made = IfOk made (λ text. ⊥)

-- a text is told, if there was memory for it
abbrev pub IsTextTold : {T X : Type 0} → (bytes : T → List ℕ) → Result T X → (before after : Option (List ℕ)) → Type 0
IsTextTold bytes (Ok text) before after = IsLineTold before after (bytes text)
IsTextTold bytes (Err none) before after = ⊥

-- a file stays the one of its name
abbrev pub KeepsName : {G : Type 0} → (goes_to : G → List ℕ) → (before after : Option G) → Type 0
KeepsName goes_to None None = ⊤
KeepsName goes_to (Some file) (Some after) = goes_to after ≡ goes_to file
KeepsName goes_to before after = ⊥

-- the same options by the words taken apart
abbrev pub end_words_in : Words → (formats : List (List ℕ)) → EndWords
end_words_in words formats = record {
  sources = map (λ o. o.name.now) words.sources.items;
  inputs = map (λ o. o.file.now) words.sources.items;
  sinks = map (λ o. o.name.now) words.sinks.items;
  outputs = map (λ o. o.file.now) words.sinks.items;
  formats = formats;
}

-- these are the words of the request, taken apart
pub record AreWordsOf (request : StreamRequest) (words : Words) : Type 0 where
  pub ends : end_words_in words request.formats ≡ end_words_of request
  pub trace : IfSome request.trace (λ name. name ≢ standard)
