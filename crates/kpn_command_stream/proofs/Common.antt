-- The definitions that most proofs cite, passed on from one place. Declares nothing.
pub use Rattle.std.proofs.Common.{All, Bor, Err, List, None, Ok, Option, Result, Some, [], ap, arith, drop, get_or, inl, inr, length, length-append, length-take, map, not, option_map, refl, rules, subst, suc, sym, take, vec_capacity, ℕ, ℤ, ◌++◌, ◌+◌, ◌<◌, ◌∙◌, ◌∷◌, ◌≡◌, ◌≢◌, ◌≤◌}
pub use Rattle.std.proofs.lemmas.Bool.{cases_lt, false≢true, lt-ltb}
pub use Rattle.std.proofs.lemmas.List.{get_or-map, get_or-take, get_or_append_left, get_or_at, get_or_default, length-map, map-append, take_more, take_more_set}
pub use Rattle.std.proofs.lemmas.List.Elements.{All-map, All-push, All-same, filter_more}
pub use Rattle.std.proofs.lemmas.List.Quantifiers.{all_pairs_push}
pub use Rattle.std.proofs.lemmas.Result.{IfErr-weaker, IfOk-weaker}
pub use Rattle.std.specs.List.{AllPairs, AllZip, filter}
pub use Rattle.std.specs.Prelude.{◌&&◌}
pub use Rattle.std.specs.String.{string_bytes}
pub use Rattle.kpn_net.specs.Tables.{Tables, is_sink, is_source}
pub use Rattle.kpn_history.specs.declared.event.Event.{Event}
pub use Rattle.kpn_book.specs.Book.{Book}
pub use Rattle.kpn_book.specs.Kept.{IsBook}
pub use Rattle.kpn_book.specs.Schedule.{state_at}
pub use Rattle.kpn_book.specs.declared.outcome.Limits.{Limits}
pub use Rattle.kpn_command_base.proofs.Apart.{now}
pub use Rattle.kpn_command_base.specs.Faulted.{is_faulted}
pub use Rattle.kpn_command_base.specs.Outputs.{AreAllApart, FileWords, IsRefusalOfOutputs}
pub use Rattle.kpn_command_base.specs.Sources.{ends_named, file_in, is_end, name_in}
pub use Rattle.kpn_command_base.specs.StreamRequest.{StreamRequest}
pub use Rattle.kpn_command_base.specs.Told.{IsLineTold}
pub use Rattle.kpn_command_base.specs.declared.refusal.Refusal.{Refusal}
pub use Rattle.kpn_command_base.specs.declared.sources.EndKind.{EndKind}
pub use Rattle.kpn_command_base.specs.declared.sources.EndKind.TheVariants.{Sinks, Sources}
pub use Rattle.kpn_command_base.specs.declared.sources.NamedEnd.{NamedEnd}
pub use Rattle.kpn_deadlock.specs.Among.{AreStatesOf}
pub use Rattle.kpn_stream.specs.Ending.{end_numbers}
pub use Rattle.kpn_stream.specs.declared.ending.StreamEnding.{StreamEnding}
pub use Rattle.kpn_stream.specs.declared.faults.SinkFault.{SinkFault}
pub use Rattle.kpn_stream_devices.specs.Formats.{IsNoFormat, NamesFormat}
pub use Rattle.kpn_stream_devices.specs.SinkOutputs.{Flushes, OutputRel, OutputsDo, OutputsFlush, OutputsTake, Takes}
pub use Rattle.kpn_stream_devices.specs.SourceInputs.{InputsGive, InputsLook, at_input, at_none, by_input, by_none}
pub use Rattle.kpn_stream_devices.specs.declared.formats.ItemFormat.{ItemFormat}
pub use Rattle.kpn_stream_devices.specs.declared.inputs.SourceInputs.{SourceInputs}
pub use Rattle.kpn_stream_devices.specs.declared.outputs.SinkOutputs.{SinkOutputs}
pub use Rattle.kpn_text.specs.Document.{Document}
pub use Rattle.kpn_command_stream.specs.Causes.{AreSinkPlaces, AreSourcePlaces, AreWordsRefused, AreWordsRight, EndWords, IsDeviceRefusal, IsUnnamed, IsUnplaced, IsUnplacedBy, IsUnstreamed, OfCommon, by_file, by_formats, by_network, by_words, end_words_of}
pub use Rattle.kpn_command_stream.specs.Command.{HandedOn, IsEmptied, IsInputFor, IsOutputFor, IsStreamConcluded, IsSummaryMade, IsSummaryOf, IsSummaryTold, IsTextTold, IsTraceKept, KnownOfDevices, RanOver, StayOutputs, end_fault, end_words_in, flushes_of, refused, streamed, summary_with, with_end, without_end}
pub use Rattle.kpn_command_stream.specs.Counters.{AreCounted, IsCounted}
pub use Rattle.kpn_command_stream.specs.EndPlaces.{AllPlaced, ArePlaced, ArePlacesOfEnds, HasFormat, HaveOwnInputs, name_for}
pub use Rattle.kpn_command_stream.specs.Formats.{AreForEnds, IsForEnd, SaysFormat, common_format, first_that, format_end, format_in, format_word, has_equals, named_format}
pub use Rattle.kpn_command_stream.specs.Refusal.{ending_fault, first_status, lost_fault, refusal_text, summary_fault, trace_fault}
pub use Rattle.kpn_command_stream.specs.Summary.{IsSinkEnd, are_all_done, members_text, rings_text, sink_ends_text}
pub use Rattle.kpn_command_stream.specs.Watching.{HaveNotFaulted, KnowsEnded, LooksAt}
pub use Rattle.kpn_command_stream.specs.Words.{names_standard, stream_words_of}
pub use Rattle.kpn_command_stream.specs.declared.command.Words.{Words}
pub use Rattle.kpn_command_stream.specs.declared.places.EndPlace.{EndPlace}
pub use Rattle.kpn_command_stream.specs.declared.refusal.StreamRefusal.{StreamRefusal}
pub use Rattle.kpn_command_stream.specs.declared.running.Lost.{Lost}
pub use Rattle.kpn_command_stream.specs.declared.summary.SinkEnd.{SinkEnd}
