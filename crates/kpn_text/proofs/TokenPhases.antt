-- The tokens that a text stands for, phase by phase.
use Rattle.std.proofs.Common.{◌≡◌, ◌⊎◌, ℕ, List, length, Result, Ok, Err, refl, sym, ap, ◌∙◌, inl, inr}
use Rattle.std.specs.Global.{Global}
use Rattle.kpn_text.proofs.Common.{LexFault, Language, Lexeme, lexemes_of, expanded, TextFault, lex_fault, expand_fault, TokensFail}
use Rattle.kpn_text_tokens.specs.declared.lexer.LexFault.TheVariants as lex
use Rattle.kpn_text_tokens.specs.Lexing as lexing
use Rattle.kpn_text_tokens.specs.Results.{and_then}
use Rattle.kpn_text_expand.specs.declared.fault.ExpandFault.{ExpandFault}
use Rattle.kpn_text_expand.specs.declared.fault.ExpandFault.TheVariants as expand
use Rattle.kpn_text_expand.specs.Results.{Fails}
use Rattle.kpn_text.specs.Phases.{Cause, in_tokens, in_constants, phase, meant_in}

pub phase_ok : {A D E : Type 0} (cause : E → Cause) (r : Result A E) (k : A → Result D Cause) (a : A) → r ≡ Ok a
    → and_then (phase cause r) k ≡ k a
unfolding and_then
phase_ok cause r k a e = rw e refl

pub phase_err : {A D E : Type 0} (cause : E → Cause) (r : Result A E) (k : A → Result D Cause) (fault : E)
    → r ≡ Err fault → and_then (phase cause r) k ≡ Err (cause fault)
unfolding and_then
phase_err cause r k fault e = rw e refl

module _ (l : Language) (text : List ℕ) where
  abbrev after : List Lexeme → Result (List Lexeme) Cause
  after ls = phase in_constants (expanded l (length text) ls)

  pub meant_right : (ls ms : List Lexeme) → lexemes_of l text ≡ Ok ls → expanded l (length text) ls ≡ Ok ms
      → meant_in l text ≡ Ok ms
  unfolding meant_in
  meant_right ls ms e f = phase_ok in_tokens (lexemes_of l text) after ls e ∙ ap (phase in_constants) f

  lexed : (e : LexFault) → lexemes_of l text ≡ Err e → meant_in l text ≡ Err (in_tokens e)
  unfolding meant_in
  lexed e is = phase_err in_tokens (lexemes_of l text) after e is

  pub lexed_wrong : (e : LexFault) (f : TextFault) → lexing.Gives {A = Global} (Err e) (lexemes_of l text)
      → f ≡ lex_fault e → TokensFail l text f
  lexed_wrong lex.NoMemory f g h = inl h
  lexed_wrong (lex.Token at) f g h = inr (in_tokens (lex.Token at), lexed (lex.Token at) g, h)
  lexed_wrong (lex.TooLong at) f g h = inr (in_tokens (lex.TooLong at), lexed (lex.TooLong at) g, h)

  meant_wrong : (ls : List Lexeme) (e : ExpandFault) → lexemes_of l text ≡ Ok ls
      → expanded l (length text) ls ≡ Err e → meant_in l text ≡ Err (in_constants e)
  unfolding meant_in
  meant_wrong ls e is wrong =
      phase_ok in_tokens (lexemes_of l text) after ls is ∙ ap (phase in_constants) wrong

  pub expanded_wrong : (ls : List Lexeme) (e : ExpandFault) (f : TextFault) → lexemes_of l text ≡ Ok ls
      → Fails e (expanded l (length text) ls) → f ≡ expand_fault e → TokensFail l text f
  expanded_wrong ls expand.NoMemory f is g h = inl h
  expanded_wrong ls (expand.Grammar at) f is g h =
      inr (in_constants (expand.Grammar at), meant_wrong ls (expand.Grammar at) is g, h)
  expanded_wrong ls (expand.Token at) f is g h =
      inr (in_constants (expand.Token at), meant_wrong ls (expand.Token at) is g, h)
  expanded_wrong ls (expand.UnknownName at) f is g h =
      inr (in_constants (expand.UnknownName at), meant_wrong ls (expand.UnknownName at) is g, h)
