-- The phases of reading: tokens, constants, grammar, names, the programs in order, the network. Each goes on if the one
-- before it finds no fault, and the first that finds one is the cause of a refusal.
use Rattle.std.specs.Prelude.{◌≡◌, ◌⊎◌, ℕ, suc, List, [], ◌∷◌, length, Option, Some, None, Result, Ok, Err}
use Rattle.kpn_lang.specs.declared.program.ProgramFault.{ProgramFault}
use Rattle.kpn_lang.specs.Parts as lang
use Rattle.kpn_lang.specs.Parts.{Parts}
use Rattle.kpn_net.specs.declared.fault.NetFault.{NetFault}
use Rattle.kpn_net.specs.declared.tables.NetworkSize.{NetworkSize}
use Rattle.kpn_net.specs.Tables.{Tables}
use Rattle.kpn_net.specs.Faults as net
use Rattle.kpn_text_tokens.specs.declared.lexer.LexFault.{LexFault}
use Rattle.kpn_text_tokens.specs.declared.tokens.Language.{Language}
use Rattle.kpn_text_tokens.specs.declared.tokens.Lexeme.{Lexeme}
use Rattle.kpn_text_tokens.specs.Results.{◌>>=◌}
use Rattle.kpn_text_tokens.specs.Lexing.{lexemes_of}
use Rattle.kpn_text_tokens.specs.Opening.{language_of}
use Rattle.kpn_text_expand.specs.declared.fault.ExpandFault.{ExpandFault}
use Rattle.kpn_text_expand.specs.Expanding.{expanded}
use Rattle.kpn_text_grammar.specs.declared.fault.GrammarFault.{GrammarFault}
use Rattle.kpn_text_grammar.specs.Reading.{description_of}
use Rattle.kpn_text_names.specs.Fault.{NameError, unknown, double}
use Rattle.kpn_text_names.specs.Named.{resolve}
use Rattle.kpn_text.specs.declared.fault.TextFault.{TextFault}
use Rattle.kpn_text.specs.declared.fault.TextFault.TheVariants as fault
use Rattle.kpn_text.specs.Document.{Document, document_named, network_size}
use Rattle.kpn_text.specs.Fault.{lex_fault, expand_fault, grammar_fault, net_fault}

-- what a phase finds, without the place of a name in the text
pub data Cause : Type 0 where
  in_tokens : LexFault → Cause
  in_constants : ExpandFault → Cause
  in_grammar : GrammarFault → Cause
  in_names : NameError → Cause
  in_program : ℕ → ProgramFault → Cause
  in_network : NetFault → Cause

-- what a phase returns, or the cause
abbrev pub phase : {A E : Type 0} → (E → Cause) → Result A E → Result A Cause
phase cause (Ok x) = Ok x
phase cause (Err e) = Err (cause e)

-- a phase that looks for a cause and makes nothing
abbrev pub unless : {A : Type 0} → Option Cause → A → Result A Cause
unless None x = Ok x
unless (Some cause) x = Err cause

-- the fault of a program, else what comes after it
abbrev pub program_or : ℕ → Option ProgramFault → Option Cause → Option Cause
program_or i (Some fault) after = Some (in_program i fault)
program_or i None after = after

-- the first program that breaks a rule, if the first has the number i
abbrev pub programs_cause : (i : ℕ) → List Parts → Option Cause
programs_cause i [] = None
programs_cause i (p ∷ ps) = program_or i (lang.first_fault p) (programs_cause (suc i) ps)

abbrev pub network_cause : Option NetFault → Option Cause
network_cause (Some fault) = Some (in_network fault)
network_cause None = None

-- one cause, else the other
abbrev pub or_cause : Option Cause → Option Cause → Option Cause
or_cause (Some cause) after = Some cause
or_cause None after = after

-- the first rule that the tables of a network of this size break: the programs in order, then the network
abbrev pub tables_cause : NetworkSize → Tables → Option Cause
tables_cause s t = or_cause (programs_cause 0 t.programs) (network_cause (net.first_network_fault s t))

-- the tokens that a text of this language stands for
unfoldable pub meant_in : Language → List ℕ → Result (List Lexeme) Cause
meant_in l text = do
  tokens ← phase in_tokens (lexemes_of l text)
  phase in_constants (expanded l (length text) tokens)

-- the document of a text in this language, or the cause of its refusal
unfoldable pub document_in : Language → List ℕ → Result Document Cause
document_in l text = do
  tokens ← meant_in l text
  tree ← phase in_grammar (description_of l (length text) tokens)
  named ← phase in_names (resolve l tree)
  unless (tables_cause (network_size l) named.tables) (document_named l named)

-- the same in the language that the text is of
abbrev pub document_of : List ℕ → Result Document Cause
document_of text = document_in (language_of text) text

-- ---- how a fault states a cause

-- the fault states what is wrong with a name, and has some byte
abbrev pub TellsName : NameError → TextFault → Type 0
TellsName unknown f = (at : ℕ) × (f ≡ fault.UnknownName at)
TellsName double f = (at : ℕ) × (f ≡ fault.DoubleName at)

-- the fault states the cause: all of it, and for a name some byte
abbrev pub Tells : Cause → TextFault → Type 0
Tells (in_tokens e) f = f ≡ lex_fault e
Tells (in_constants e) f = f ≡ expand_fault e
Tells (in_grammar e) f = f ≡ grammar_fault e
Tells (in_names e) f = TellsName e f
Tells (in_program i e) f = f ≡ fault.Program i e
Tells (in_network e) f = f ≡ net_fault e

-- the phases find a cause, and the fault states it
abbrev pub TellsWhatIsFound : Result Document Cause → TextFault → Type 0
TellsWhatIsFound (Ok d) f = ⊥
TellsWhatIsFound (Err cause) f = Tells cause f

-- a text is refused with this fault: memory ran out, or it states the cause that the first phase finds
abbrev pub Refuses : List ℕ → TextFault → Type 0
Refuses text f = (f ≡ fault.NoMemory) ⊎ TellsWhatIsFound (document_of text) f
