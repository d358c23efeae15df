-- The status of the program if a stream is not begun, or if something has failed at its end.
use Rattle.std.specs.Prelude.{ℕ, Bool, true, false, List, [], ◌∷◌, ◌++◌, codes, Option, Some, None, Result, Ok, Err}
use Rattle.std.specs.String.{string_bytes}
use Rattle.kpn_command_base.specs.declared.refusal.Refusal.{Refusal}
use Rattle.kpn_command_base.specs.Refusal.{refusal_line, status_of}
use Rattle.kpn_command_base.specs.declared.sources.EndKind.{EndKind}
use Rattle.kpn_command_base.specs.declared.sources.EndKind.TheVariants.{Sources, Sinks}
use Rattle.kpn_stream.specs.declared.ending.StreamEnding.{StreamEnding}
use Rattle.kpn_stream.specs.declared.ending.StreamEnding.TheVariants as ending
use Rattle.kpn_stream.specs.declared.faults.SourceFault.{SourceFault}
use Rattle.kpn_stream.specs.declared.faults.SourceFault.TheVariants as input
use Rattle.kpn_stream.specs.declared.faults.SinkFault.{SinkFault}
use Rattle.kpn_stream.specs.declared.faults.SinkFault.TheVariants as output
use Rattle.kpn_command_stream.specs.declared.running.Lost.{Lost}
use Rattle.kpn_command_stream.specs.declared.refusal.StreamRefusal.{StreamRefusal}
use Rattle.kpn_command_stream.specs.declared.refusal.StreamRefusal.TheVariants.{Common, Unnamed, SharedInput, FormatWord}

-- 2 for an end that no option names, for an input that two sources may not share, and for a wrong word for a format
abbrev pub refusal_status : StreamRefusal → ℕ
refusal_status (Common refusal) = status_of refusal
refusal_status (Unnamed ends name) = 2
refusal_status SharedInput = 2
refusal_status FormatWord = 2

-- which option is missing: what stands before and after the name of the end
abbrev pub option_start : EndKind → List ℕ
option_start Sources = codes "kpn: usage: --source "
option_start Sinks = codes "kpn: usage: --sink "

abbrev pub option_end : EndKind → List ℕ
option_end Sources = codes "=IN"
option_end Sinks = codes "=OUT"

abbrev pub unnamed_text : EndKind → (name : List ℕ) → List ℕ
unnamed_text ends name = (option_start ends ++ name) ++ option_end ends

-- the line that reports a refusal, without its line feed
abbrev pub refusal_text : StreamRefusal → List ℕ
refusal_text (Common refusal) = refusal_line refusal
refusal_text (Unnamed ends name) = unnamed_text ends (string_bytes name)
refusal_text SharedInput = codes "kpn: usage: --source NAME=IN, a plain file if two sources have it"
refusal_text FormatWord =
    codes "kpn: usage: --format FORMAT and --format NAME=FORMAT, once for each source and sink: "
    ++ codes "lines, u8, s8, s16le, s24le, s32le, s64le, f32le, f32le:POWER, wav, wav16 or wav24"

-- 6 for want of memory, else 1
abbrev pub source_status : SourceFault → ℕ
source_status input.NoMemory = 6
source_status fault = 1

abbrev pub sink_status : SinkFault → ℕ
sink_status output.NoMemory = 6
sink_status fault = 1

-- ---- the statuses of what has failed, if it has

-- the device or the memory that the stream has ended by
abbrev pub ending_fault : StreamEnding → Option ℕ
ending_fault (ending.SourceFailed c fault) = Some (source_status fault)
ending_fault (ending.SinkFailed c fault) = Some (sink_status fault)
ending_fault ending.NoMemory = Some 6
ending_fault ending = None

-- the first output that could not hand on what it kept at the end
abbrev pub lost_fault : List Lost → Option ℕ
lost_fault [] = None
lost_fault (lost ∷ others) = Some (sink_status lost.fault)

-- the trace, which could not be stored
abbrev pub trace_fault : Result (Unit {0}) Refusal → Option ℕ
trace_fault (Ok stored) = None
trace_fault (Err refusal) = Some (status_of refusal)

-- the summary, if there was no memory to tell it
abbrev pub summary_fault : (is_told : Bool) → Option ℕ
summary_fault true = None
summary_fault false = Some 6

-- the one that is told first
abbrev pub first_status : Option ℕ → Option ℕ → Option ℕ
first_status (Some status) later = Some status
first_status None later = later
