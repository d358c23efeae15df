-- The files that a run stores: the trace, and what the sinks received.
use Rattle.std.specs.Prelude.{ℕ, suc, ◌<◌, ℤ, List, [], ◌∷◌, ◌++◌, length, Option, Some, None, ⊤}
use Rattle.kpn_limits.specs.declared.TheConstants.{MAX_INPUT_BYTES}
use Rattle.kpn_net.specs.Tables.{Tables}
use Rattle.kpn_history.specs.declared.event.Event.{Event}
use Rattle.kpn_history.specs.declared.stored.Version.TheVariants.{Two}
use Rattle.kpn_trace.specs.TraceText.{trace_text}
use Rattle.kpn_text_items.specs.ItemFile.{item_text}
use Rattle.kpn_text_items.specs.declared.fault.WriteFault.TheVariants.{Write}
use Rattle.kpn_book.specs.Reports.{events_of}
use Rattle.kpn_command_base.specs.declared.refusal.Refusal.{Refusal}
use Rattle.kpn_command_base.specs.declared.refusal.Refusal.TheVariants.{NoMemory, Output}
use Rattle.kpn_command_base.specs.declared.sources.NamedEnd.{NamedEnd}
use Rattle.kpn_command_base.specs.Sources.{file_for}
use Rattle.kpn_command_base.specs.Conclusion.{StoredFile}
use Rattle.kpn_commands.specs.declared.reporting.Reported.{Reported}
use Rattle.kpn_command_base.specs.ReportText.{wanted_of}

-- the trace, if one was asked for: these events in version 2, with the policy and the growth of the network
abbrev pub trace_files : (trace : Option (List ℕ)) → Tables → List Event → List StoredFile
trace_files None t events = []
trace_files (Some name) t events =
    record { name = name; bytes = trace_text Two t.policy t.growth events } ∷ []

-- these items as an item file, if there is a file for them
abbrev pub sink_file : (file : Option (List ℕ)) → List ℤ → List StoredFile
sink_file None items = []
sink_file (Some name) items = record { name = name; bytes = item_text items } ∷ []

-- The files of the sinks that options name, in order of their numbers: the first items of each, as many as are wanted
-- at most, or all. What the sinks received is given in order, from sink k on.
abbrev pub sink_files : (sinks : List NamedEnd) (wanted : Option ℕ) (k : ℕ) (taken : List (List ℤ)) → List StoredFile
sink_files sinks wanted k [] = []
sink_files sinks wanted k (items ∷ taken) =
    sink_file (file_for sinks k) (wanted_of wanted items) ++ sink_files sinks wanted (suc k) taken

-- the trace, and then the sinks
abbrev pub files_of : (trace : Option (List ℕ)) (wanted : Option ℕ) → Reported → List StoredFile
files_of trace wanted reported =
    trace_files trace reported.inputs.document.tables (events_of reported.report)
    ++ sink_files reported.sinks.items wanted 0 reported.report.taken

-- why there are no files: there is no memory, or the trace has more bytes than are read of a file
abbrev pub IsRefusalOfFiles : (trace : Option (List ℕ)) → Tables → List Event → Refusal → Type 0
IsRefusalOfFiles trace t events NoMemory = ⊤
IsRefusalOfFiles (Some name) t events (Output Write) =
    MAX_INPUT_BYTES < length (trace_text Two t.policy t.growth events)
IsRefusalOfFiles trace t events other = ⊥
