-- Why a text is no description, in words.
use Rattle.std.specs.Prelude.{◌≡◌, ◌≢◌, ◌⊎◌, ◌+◌, ◌==◌, ℕ, if◌then◌else◌, List, [], ◌++◌, take, fold, codes, Option, Some, None, Result, OnOk, String, string_bytes}
use Rattle.std.specs.Fmt.{decimal}
use Rattle.kpn_lang.specs.declared.program.ProgramFault.{ProgramFault}
use Rattle.kpn_lang.specs.declared.program.ProgramFault.TheVariants as program
use Rattle.kpn_net.specs.declared.fault.NetFault.{NetFault}
use Rattle.kpn_net.specs.declared.fault.NetFault.TheVariants as net
use Rattle.kpn_text.specs.declared.fault.TextFault.{TextFault}
use Rattle.kpn_text.specs.declared.fault.TextFault.TheVariants as of_text
use Rattle.kpn_text.specs.Phases.{Refuses}
use Rattle.kpn_c.specs.declared.positions.TextPosition.{TextPosition}
use Rattle.kpn_c.specs.declared.explaining.PlaceKind.{PlaceKind}
use Rattle.kpn_c.specs.declared.explaining.PlaceKind.TheVariants.{Byte, Process, Instance, Channel}
use Rattle.kpn_c.specs.Faults.{fault_of_text}
use Rattle.kpn_c.specs.Slices.{PutsToFront}
use Rattle.kpn_c.specs.Texts.{IsText}

-- if the call succeeded, the bytes stand after the text as it was
abbrev pub AppendsWords : {T E Z : Type 0} → Result T E → (old new : String Z) → List ℕ → Type 0
AppendsWords result old new bytes = OnOk result (string_bytes new ≡ string_bytes old ++ bytes)

-- ---- lines and columns, from 1

abbrev pub first_position : TextPosition
first_position = record { line = 1; column = 1 }

-- the position after a byte: a line feed ends its line
abbrev pub next_position : TextPosition → (byte : ℕ) → TextPosition
next_position p b =
    if b == 10 then record { line = p.line + 1; column = 1 } else record { line = p.line; column = p.column + 1 }

abbrev pub position_behind : (text : List ℕ) → TextPosition
position_behind text = fold next_position first_position text

-- the position of this byte of a text, or of its end
abbrev pub position_at : (text : List ℕ) → (at : ℕ) → TextPosition
position_at text at = position_behind (take at text)

-- ---- names

abbrev pub name_of_program : ProgramFault → List ℕ
name_of_program program.TooMany = codes "TooMany"
name_of_program program.NoSuchBlock = codes "NoSuchBlock"
name_of_program program.BlockOrder = codes "BlockOrder"
name_of_program program.NoSuchVar = codes "NoSuchVar"
name_of_program program.NoSuchPort = codes "NoSuchPort"
name_of_program program.TooDeep = codes "TooDeep"
name_of_program program.NoMemory = codes "NoMemory"

abbrev pub name_of_net : NetFault → List ℕ
name_of_net net.TooMany = codes "TooMany"
name_of_net (net.NoSuchProgram p) = codes "NoSuchProgram"
name_of_net (net.PortCount p) = codes "PortCount"
name_of_net (net.NoWriter c) = codes "NoWriter"
name_of_net (net.TwoWriters c) = codes "TwoWriters"
name_of_net (net.NoReader c) = codes "NoReader"
name_of_net (net.TwoReaders c) = codes "TwoReaders"
name_of_net (net.Capacity c) = codes "Capacity"
name_of_net net.NoMemory = codes "NoMemory"
name_of_net (net.NoSuchChannel p) = codes "NoSuchChannel"

abbrev pub name_of_text : TextFault → List ℕ
name_of_text (of_text.Token at) = codes "Token"
name_of_text (of_text.Grammar at) = codes "Grammar"
name_of_text (of_text.UnknownName at) = codes "UnknownName"
name_of_text (of_text.DoubleName at) = codes "DoubleName"
name_of_text (of_text.TooLong at) = codes "TooLong"
name_of_text (of_text.Program i fault) = name_of_program fault
name_of_text (of_text.Net fault) = name_of_net fault
name_of_text of_text.NoMemory = codes "NoMemory"

-- ---- places

-- what the place of a fault counts, if it has one
abbrev pub kind_of_net : NetFault → PlaceKind
kind_of_net (net.NoSuchProgram p) = Instance
kind_of_net (net.PortCount p) = Instance
kind_of_net (net.NoSuchChannel p) = Instance
kind_of_net other = Channel

abbrev pub kind_of_text : TextFault → PlaceKind
kind_of_text (of_text.Program i fault) = Process
kind_of_text (of_text.Net fault) = kind_of_net fault
kind_of_text other = Byte

abbrev pub byte_words : (place : ℕ) → TextPosition → List ℕ
byte_words place p =
    codes " at byte " ++ decimal place ++ codes ", line " ++ decimal p.line ++ codes ", column " ++ decimal p.column

abbrev pub place_words : (text : List ℕ) → PlaceKind → (place : ℕ) → List ℕ
place_words text Byte place = byte_words place (position_at text place)
place_words text Process place = codes " at process " ++ decimal place
place_words text Instance place = codes " at instance " ++ decimal place
place_words text Channel place = codes " at channel " ++ decimal place

abbrev pub place_words_if : (text : List ℕ) → PlaceKind → Option ℕ → List ℕ
place_words_if text kind None = []
place_words_if text kind (Some place) = place_words text kind place

-- ---- the words

-- the number and the name of a fault of a text, and its place if it has one
abbrev pub fault_words : (text : List ℕ) → TextFault → List ℕ
fault_words text fault =
    decimal (fault_of_text fault).number ++ codes " " ++ name_of_text fault
    ++ place_words_if text (kind_of_text fault) (fault_of_text fault).place

-- the words are put to the front of a slice, or memory ran out
abbrev pub ExplainsTextFault : (text : List ℕ) → TextFault → (code told : ℕ) → (room kept : List ℕ) → Type 0
ExplainsTextFault text fault code told room kept =
    PutsToFront (fault_words text fault) code told room kept ⊎ ((code ≡ 42) × (kept ≡ room))

-- the text is a description, and there are no words; or memory for it ran out, and nothing is told; or it is refused
-- for another fault, and the words are those of this
abbrev pub ExplainsText : (text : List ℕ) → (code told : ℕ) → (room kept : List ℕ) → Type 0
ExplainsText text code told room kept =
    (IsText text × PutsToFront [] code told room kept)
    ⊎ ((code ≡ 28) × (kept ≡ room))
    ⊎ ((fault : TextFault) × (fault ≢ of_text.NoMemory) × Refuses text fault
    × ExplainsTextFault text fault code told room kept)
