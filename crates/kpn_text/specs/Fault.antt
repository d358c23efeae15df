-- Which fault of a text a fault of a part becomes.
use Rattle.kpn_lang.specs.declared.program.ProgramFault.TheVariants as program
use Rattle.kpn_net.specs.declared.fault.NetFault.{NetFault}
use Rattle.kpn_net.specs.declared.fault.NetFault.TheVariants as net
use Rattle.kpn_text_tokens.specs.declared.lexer.LexFault.{LexFault}
use Rattle.kpn_text_tokens.specs.declared.lexer.LexFault.TheVariants as lex
use Rattle.kpn_text_grammar.specs.declared.fault.GrammarFault.{GrammarFault}
use Rattle.kpn_text_grammar.specs.declared.fault.GrammarFault.TheVariants as grammar
use Rattle.kpn_text_expand.specs.declared.fault.ExpandFault.{ExpandFault}
use Rattle.kpn_text_expand.specs.declared.fault.ExpandFault.TheVariants as expand
use Rattle.kpn_text_names.specs.declared.fault.NameFault.{NameFault}
use Rattle.kpn_text_names.specs.declared.fault.NameFault.TheVariants as name
use Rattle.kpn_text.specs.declared.fault.TextFault.{TextFault}
use Rattle.kpn_text.specs.declared.fault.TextFault.TheVariants as text

abbrev pub lex_fault : LexFault → TextFault
lex_fault (lex.TooLong at) = text.TooLong at
lex_fault (lex.Token at) = text.Token at
lex_fault lex.NoMemory = text.NoMemory

abbrev pub expand_fault : ExpandFault → TextFault
expand_fault (expand.Grammar at) = text.Grammar at
expand_fault (expand.Token at) = text.Token at
expand_fault (expand.UnknownName at) = text.UnknownName at
expand_fault expand.NoMemory = text.NoMemory

-- a process that nests too deep is a fault of its program
abbrev pub grammar_fault : GrammarFault → TextFault
grammar_fault (grammar.Grammar at) = text.Grammar at
grammar_fault (grammar.TooDeep i) = text.Program i program.TooDeep
grammar_fault grammar.NoMemory = text.NoMemory

abbrev pub name_fault : NameFault → TextFault
name_fault (name.UnknownName at) = text.UnknownName at
name_fault (name.DoubleName at) = text.DoubleName at
name_fault name.NoMemory = text.NoMemory

-- if memory ran out, the fault is the same, wherever that was
abbrev pub net_fault : NetFault → TextFault
net_fault net.NoMemory = text.NoMemory
net_fault broken = text.Net broken
