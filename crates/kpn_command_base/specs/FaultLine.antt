-- Fault lines: how the program reports a fault on standard error, without the line feed after it.
use Rattle.std.specs.Prelude.{ℕ, List, [], ◌++◌, Option, Some, None, codes}
use Rattle.std.specs.Fmt.{decimal}
use Rattle.kpn_command_base.specs.declared.fault_line.FaultLine.{FaultLine}
use Rattle.kpn_text_items.specs.declared.fault.ItemFault.{ItemFault}
use Rattle.kpn_text_items.specs.declared.fault.ItemFault.TheVariants as item
use Rattle.kpn_text_items.specs.declared.fault.WriteFault.{WriteFault}
use Rattle.kpn_text_items.specs.declared.fault.WriteFault.TheVariants as output
use Rattle.kpn_lang.specs.declared.program.ProgramFault.{ProgramFault}
use Rattle.kpn_lang.specs.declared.program.ProgramFault.TheVariants as program
use Rattle.kpn_net.specs.declared.fault.NetFault.{NetFault}
use Rattle.kpn_net.specs.declared.fault.NetFault.TheVariants as net
use Rattle.kpn_text.specs.declared.fault.TextFault.{TextFault}
use Rattle.kpn_text.specs.declared.fault.TextFault.TheVariants as text
use Rattle.kpn_trace.specs.declared.fault.TraceFault.{TraceFault}
use Rattle.kpn_trace.specs.declared.fault.TraceFault.TheVariants as trace
use Rattle.kpn_command_base.specs.declared.option_fault.OptionFault.{OptionFault}
use Rattle.kpn_command_base.specs.declared.option_fault.OptionFault.TheVariants as name_of

-- ` at PLACE` if a fault has a place
abbrev pub place_text : Option ℕ → List ℕ
place_text None = []
place_text (Some place) = codes " at " ++ decimal place

-- `kpn: NUMBER NAME`, and ` at PLACE` if the fault has a place
abbrev pub fault_line : (number : ℕ) (name : List ℕ) (place : Option ℕ) → List ℕ
fault_line number name place = codes "kpn: " ++ decimal number ++ codes " " ++ name ++ place_text place

-- a fault of an input
abbrev pub input_fault_line : ItemFault → List ℕ
input_fault_line (item.BadItem line) = fault_line 25 (codes "BadItem") (Some line)
input_fault_line item.Read = fault_line 26 (codes "Read") None
input_fault_line item.NoMemory = fault_line 28 (codes "NoMemory") None

-- a fault of an output
abbrev pub output_fault_line : WriteFault → List ℕ
output_fault_line output.Write = fault_line 27 (codes "Write") None
output_fault_line output.NoMemory = fault_line 42 (codes "NoMemory") None

-- the program of the process with this number breaks a rule
abbrev pub program_fault_line : (process : ℕ) → ProgramFault → List ℕ
program_fault_line process program.TooMany = fault_line 1 (codes "TooMany") (Some process)
program_fault_line process program.NoSuchBlock = fault_line 2 (codes "NoSuchBlock") (Some process)
program_fault_line process program.BlockOrder = fault_line 3 (codes "BlockOrder") (Some process)
program_fault_line process program.NoSuchVar = fault_line 4 (codes "NoSuchVar") (Some process)
program_fault_line process program.NoSuchPort = fault_line 5 (codes "NoSuchPort") (Some process)
program_fault_line process program.TooDeep = fault_line 6 (codes "TooDeep") (Some process)
program_fault_line process program.NoMemory = fault_line 28 (codes "NoMemory") None

-- the tables break a rule of networks: at an instance, or at a channel
abbrev pub net_fault_line : NetFault → List ℕ
net_fault_line net.TooMany = fault_line 10 (codes "TooMany") None
net_fault_line (net.NoSuchProgram instance) = fault_line 11 (codes "NoSuchProgram") (Some instance)
net_fault_line (net.PortCount instance) = fault_line 12 (codes "PortCount") (Some instance)
net_fault_line (net.NoSuchChannel instance) = fault_line 19 (codes "NoSuchChannel") (Some instance)
net_fault_line (net.NoWriter channel) = fault_line 13 (codes "NoWriter") (Some channel)
net_fault_line (net.TwoWriters channel) = fault_line 14 (codes "TwoWriters") (Some channel)
net_fault_line (net.NoReader channel) = fault_line 15 (codes "NoReader") (Some channel)
net_fault_line (net.TwoReaders channel) = fault_line 16 (codes "TwoReaders") (Some channel)
net_fault_line (net.Capacity channel) = fault_line 17 (codes "Capacity") (Some channel)
net_fault_line net.NoMemory = fault_line 28 (codes "NoMemory") None

-- a text is no description: at a byte of it, or of what it describes
abbrev pub text_fault_line : TextFault → List ℕ
text_fault_line (text.TooLong byte) = fault_line 24 (codes "TooLong") (Some byte)
text_fault_line (text.Token byte) = fault_line 20 (codes "Token") (Some byte)
text_fault_line (text.Grammar byte) = fault_line 21 (codes "Grammar") (Some byte)
text_fault_line (text.UnknownName byte) = fault_line 22 (codes "UnknownName") (Some byte)
text_fault_line (text.DoubleName byte) = fault_line 23 (codes "DoubleName") (Some byte)
text_fault_line (text.Program process fault) = program_fault_line process fault
text_fault_line (text.Net fault) = net_fault_line fault
text_fault_line text.NoMemory = fault_line 28 (codes "NoMemory") None

-- bytes are no trace
abbrev pub trace_fault_line : TraceFault → List ℕ
trace_fault_line (trace.BadEvent line) = fault_line 30 (codes "BadEvent") (Some line)
trace_fault_line trace.BadHead = fault_line 31 (codes "BadHead") None
trace_fault_line trace.NoMemory = fault_line 32 (codes "NoMemory") None

-- an option names no end of the network, or one that an earlier option names
abbrev pub name_fault_line : OptionFault → List ℕ
name_fault_line (name_of.Unknown option) = fault_line 22 (codes "UnknownName") (Some option)
name_fault_line (name_of.Double option) = fault_line 23 (codes "DoubleName") (Some option)

-- ---- scaffolding

-- the text of a fault line that the code has made
abbrev pub told_line : FaultLine → List ℕ
told_line fault = fault_line fault.number fault.name.now fault.place
