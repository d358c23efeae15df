-- The numbers of faults, and their places.
use Rattle.std.specs.Prelude.{ℕ, Some, None}
use Rattle.kpn_lang.specs.declared.program.ProgramFault.{ProgramFault}
use Rattle.kpn_lang.specs.declared.program.ProgramFault.TheVariants as program
use Rattle.kpn_net.specs.declared.fault.NetFault.{NetFault}
use Rattle.kpn_net.specs.declared.fault.NetFault.TheVariants as net
use Rattle.kpn_text.specs.declared.fault.TextFault.{TextFault}
use Rattle.kpn_text.specs.declared.fault.TextFault.TheVariants as text
use Rattle.kpn_book.specs.declared.answers.Refused.{Refused}
use Rattle.kpn_book.specs.declared.answers.Refused.TheVariants as refused
use Rattle.kpn_c.specs.declared.fault.NumberedFault.{NumberedFault}

-- a fault with this number, at this place
abbrev pub fault_at : (number place : ℕ) → NumberedFault
fault_at number place = record { number = number; place = Some place }

-- a fault with this number, which has no place
abbrev pub fault_alone : (number : ℕ) → NumberedFault
fault_alone number = record { number = number; place = None }

abbrev pub number_of_program : ProgramFault → ℕ
number_of_program program.TooMany = 1
number_of_program program.NoSuchBlock = 2
number_of_program program.BlockOrder = 3
number_of_program program.NoSuchVar = 4
number_of_program program.NoSuchPort = 5
number_of_program program.TooDeep = 6
number_of_program program.NoMemory = 7

-- what breaks a rule of networks: an instance or a channel
abbrev pub fault_of_net : NetFault → NumberedFault
fault_of_net net.TooMany = fault_alone 10
fault_of_net (net.NoSuchProgram p) = fault_at 11 p
fault_of_net (net.PortCount p) = fault_at 12 p
fault_of_net (net.NoWriter c) = fault_at 13 c
fault_of_net (net.TwoWriters c) = fault_at 14 c
fault_of_net (net.NoReader c) = fault_at 15 c
fault_of_net (net.TwoReaders c) = fault_at 16 c
fault_of_net (net.Capacity c) = fault_at 17 c
fault_of_net net.NoMemory = fault_alone 18
fault_of_net (net.NoSuchChannel p) = fault_at 19 p

-- the fault of a description: the place is a byte, or a process, an instance or a channel
abbrev pub fault_of_text : TextFault → NumberedFault
fault_of_text (text.Token at) = fault_at 20 at
fault_of_text (text.Grammar at) = fault_at 21 at
fault_of_text (text.UnknownName at) = fault_at 22 at
fault_of_text (text.DoubleName at) = fault_at 23 at
fault_of_text (text.TooLong at) = fault_at 24 at
fault_of_text (text.Program i fault) = fault_at (number_of_program fault) i
fault_of_text (text.Net fault) = fault_of_net fault
fault_of_text text.NoMemory = fault_alone 28

-- the number of the reason why a call is refused
abbrev pub number_of_refusal : Refused → ℕ
number_of_refusal refused.NotHeld = 40
number_of_refusal refused.Stranger = 41
number_of_refusal refused.NoMemory = 42
number_of_refusal refused.NoSuchEnd = 43
number_of_refusal refused.SourceClosed = 44
number_of_refusal (refused.Full item) = 45
number_of_refusal refused.SinkLeft = 46
