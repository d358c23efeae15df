-- Refusals: the line that reports each, and the status that the program then ends with.
use Rattle.std.specs.Prelude.{ℕ, Bool, true, false, if◌then◌else◌, List, None, codes}
use Rattle.kpn_text_items.specs.declared.fault.ItemFault.TheVariants as item
use Rattle.kpn_text_items.specs.declared.fault.WriteFault.TheVariants as write
use Rattle.kpn_lang.specs.declared.program.ProgramFault.TheVariants as program
use Rattle.kpn_net.specs.declared.fault.NetFault.TheVariants as net
use Rattle.kpn_text.specs.declared.fault.TextFault.{TextFault}
use Rattle.kpn_text.specs.declared.fault.TextFault.TheVariants as text
use Rattle.kpn_trace.specs.declared.fault.TraceFault.TheVariants as trace
use Rattle.kpn_command_base.specs.declared.refusal.Refusal.{Refusal}
use Rattle.kpn_command_base.specs.declared.refusal.Refusal.TheVariants.{NotText, UnknownProcess, SourceWord, TraceWord, SinkWord, PictureWords, Input, Description, Names, Output, Trace, NoMemoryToAudit, PolicyDiffers, Threads, Abandoned, Foreign, NoMemory}
use Rattle.kpn_command_base.specs.declared.refusal.Line.{Line}
use Rattle.kpn_command_base.specs.declared.refusal.Line.TheVariants.{Usage, Fault}
use Rattle.kpn_command_base.specs.FaultLine.{told_line, fault_line, input_fault_line, output_fault_line, text_fault_line, name_fault_line, trace_fault_line}

-- the line, without its line feed
abbrev pub refusal_line : Refusal → List ℕ
refusal_line NotText = codes "kpn: usage: words of UTF-8 text"
refusal_line UnknownProcess = codes "kpn: usage: copy, double or sum"
refusal_line SourceWord = codes "kpn: usage: --source NAME=FILE"
refusal_line TraceWord = codes "kpn: usage: --trace OUT, a file that is no input and no other output"
refusal_line SinkWord = codes "kpn: usage: --sink NAME=OUT, a file that is no input and no other output"
refusal_line PictureWords =
    codes "kpn: usage: --from T and --to T, with at most 2000 gets, puts, waits and growths between them"
refusal_line (Input fault) = input_fault_line fault
refusal_line (Description fault) = text_fault_line fault
refusal_line (Names fault) = name_fault_line fault
refusal_line (Output fault) = output_fault_line fault
refusal_line (Trace fault) = trace_fault_line fault
refusal_line NoMemoryToAudit = fault_line 51 (codes "NoMemory") None
refusal_line PolicyDiffers = fault_line 53 (codes "PolicyDiffers") None
refusal_line Threads = fault_line 48 (codes "Threads") None
refusal_line Abandoned = fault_line 49 (codes "Abandoned") None
refusal_line Foreign = fault_line 47 (codes "Foreign") None
refusal_line NoMemory = fault_line 42 (codes "NoMemory") None

-- whether a fault of a description is want of memory
abbrev pub wants_memory : TextFault → Bool
wants_memory (text.Program process program.NoMemory) = true
wants_memory (text.Net net.NoMemory) = true
wants_memory text.NoMemory = true
wants_memory other = false

-- 2 for a word that is not understood, 6 for want of memory, 7 for what befell workers, 1 for a refused input and a
-- device's fault
abbrev pub status_of : Refusal → ℕ
status_of NotText = 2
status_of UnknownProcess = 2
status_of SourceWord = 2
status_of TraceWord = 2
status_of SinkWord = 2
status_of PictureWords = 2
status_of (Input item.NoMemory) = 6
status_of (Description fault) = if wants_memory fault then 6 else 1
status_of (Trace trace.NoMemory) = 6
status_of (Output write.NoMemory) = 6
status_of NoMemoryToAudit = 6
status_of NoMemory = 6
status_of Threads = 7
status_of Abandoned = 7
status_of Foreign = 7
status_of other = 1

-- ---- scaffolding

-- the text of a line that the code has made
abbrev pub line_text : Line → List ℕ
line_text (Usage text) = text.now
line_text (Fault line) = told_line line
