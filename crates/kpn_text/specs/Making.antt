-- What the calls of reading return. Scaffolding: only contracts of private calls cite it, and read_network says what a
-- caller needs.
use Rattle.std.specs.Prelude.{◌≡◌, ◌⊎◌, ℕ, List, Option, Some, None, Result, Ok, Err}
use Rattle.kpn_lang.specs.declared.program.ProgramFault.{ProgramFault}
use Rattle.kpn_lang.specs.declared.program.ProgramFault.TheVariants as rule
use Rattle.kpn_text_tokens.specs.declared.tokens.Language.{Language}
use Rattle.kpn_text_tokens.specs.declared.tokens.Lexeme.{Lexeme}
use Rattle.kpn_text.specs.declared.fault.TextFault.{TextFault}
use Rattle.kpn_text.specs.declared.fault.TextFault.TheVariants as fault
use Rattle.kpn_text.specs.Document.{Document}
use Rattle.kpn_text.specs.Phases.{Cause, Tells, Refuses, meant_in}
use Rattle.kpn_text.specs.Spells.{SpellsDocument}

-- a cause was found, and the fault states it
abbrev pub TellsCause : Option Cause → TextFault → Type 0
TellsCause (Some cause) f = Tells cause f
TellsCause None f = ⊥

-- a value of which this holds, if there is no cause; else a fault that states the cause, or memory ran out
abbrev pub Makes : {A : Type 0} → (A → Type 0) → Result A TextFault → Option Cause → Type 0
Makes P (Ok x) cause = (cause ≡ None) × P x
Makes P (Err f) cause = (f ≡ fault.NoMemory) ⊎ TellsCause cause f

-- the fault of the text that a fault of the program with this number becomes
abbrev pub program_told : ℕ → ProgramFault → TextFault
program_told number rule.NoMemory = fault.NoMemory
program_told number other = fault.Program number other

-- the document that the text spells, or a fault by which it is refused
abbrev pub TextReads : List ℕ → Result Document TextFault → Type 0
TextReads text (Ok d) = SpellsDocument text d
TextReads text (Err f) = Refuses text f

-- memory ran out, or the fault states the cause for which a text stands for no tokens
abbrev pub TokensFail : Language → List ℕ → TextFault → Type 0
TokensFail l text f = (f ≡ fault.NoMemory) ⊎ ((cause : Cause) × (meant_in l text ≡ Err cause) × Tells cause f)

-- the tokens that the text stands for, or a fault
abbrev pub TokensAre : Language → List ℕ → Result (List Lexeme) TextFault → Type 0
TokensAre l text (Ok found) = meant_in l text ≡ Ok found
TokensAre l text (Err f) = TokensFail l text f
