-- The declaration of a constant: its name, `=` and its value, in which constants are numbers already. What follows it is
-- at the byte `stop`.
use Rattle.std.specs.Prelude.{ℕ, ℤ, pos, nat_le, int_lt, unsigned_abs, if◌then◌else◌, List, [], ◌∷◌, ◌++◌, Option, Some, None, Result, Ok, Err}
use Rattle.kpn_text_tokens.specs.declared.tokens.TheConstants.{MAX_NUMBER}
use Rattle.kpn_text_tokens.specs.declared.tokens.Language.TheVariants as language
use Rattle.kpn_text_tokens.specs.declared.tokens.Lexeme.{Lexeme}
use Rattle.kpn_text_tokens.specs.declared.tokens.Mark.TheVariants as mark
use Rattle.kpn_text_tokens.specs.declared.tokens.Token.{Token}
use Rattle.kpn_text_tokens.specs.declared.tokens.Token.TheVariants as token
use Rattle.kpn_text_tokens.specs.Results.{◌>>=◌}
use Rattle.kpn_text_grammar.specs.declared.fault.GrammarFault.{GrammarFault}
use Rattle.kpn_text_grammar.specs.declared.fault.GrammarFault.TheVariants as grammar
use Rattle.kpn_text_grammar.specs.Reading.{expression_of}
use Rattle.kpn_text_grammar.specs.Syntax.{ExpressionNode, NameBytes}
use Rattle.kpn_text_names.specs.Constant.{constant_value}
use Rattle.kpn_text_expand.specs.declared.declaration.Constant.{Constant}
use Rattle.kpn_text_expand.specs.declared.declaration.Value.{Value}
use Rattle.kpn_text_expand.specs.declared.fault.ExpandFault.{ExpandFault}
use Rattle.kpn_text_expand.specs.declared.fault.ExpandFault.TheVariants as fault
use Rattle.kpn_text_expand.specs.Results.{each}

-- a value as it is written: the number without its sign is at most 2 ^ 63 - 1 (MAX_NUMBER)
abbrev pub value_written : ℤ → Option Value
value_written v =
    if nat_le (unsigned_abs v) MAX_NUMBER
    then Some (record { is_negative = int_lt v (pos 0); size = unsigned_abs v })
    else None

abbrev pub written_if : Option ℤ → Option Value
written_if (Some v) = value_written v
written_if None = None

abbrev pub or_no_number : ℕ → Option Value → Result Value ExpandFault
or_no_number start (Some v) = Ok v
or_no_number start None = Err (fault.Token start)

-- the value of an expression that begins at this byte
abbrev pub value_computed : (start : ℕ) → ExpressionNode → Result Value ExpandFault
value_computed start e = or_no_number start (written_if (constant_value e))

-- an expression that nests too deep has no value
abbrev pub fault_told : (start : ℕ) → Result ExpressionNode GrammarFault → Result ExpressionNode ExpandFault
fault_told start (Ok e) = Ok e
fault_told start (Err (grammar.Grammar at)) = Err (fault.Grammar at)
fault_told start (Err (grammar.TooDeep process)) = Err (fault.Token start)
fault_told start (Err grammar.NoMemory) = Err fault.NoMemory

abbrev pub tree : (start stop : ℕ) → List Lexeme → Result ExpressionNode ExpandFault
tree start stop ls = fault_told start (expression_of language.Two stop ls)

-- one token more, which may be no name: each name that is left is no constant
abbrev pub with_nameless_by : Token → List Lexeme → Lexeme → Result (List Lexeme) ExpandFault
with_nameless_by (token.Name x) ms l = Err (fault.UnknownName l.start)
with_nameless_by _ ms l = Ok (ms ++ l ∷ [])

abbrev pub with_nameless : List Lexeme → Lexeme → Result (List Lexeme) ExpandFault
with_nameless ms l = with_nameless_by l.token ms l

-- the same tokens, if none is a name
abbrev pub nameless : List Lexeme → Result (List Lexeme) ExpandFault
nameless ls = each with_nameless [] ls

abbrev pub first_byte : (stop : ℕ) → List Lexeme → ℕ
first_byte stop [] = stop
first_byte stop (l ∷ ls) = l.start

-- the value that all these tokens are
unfoldable pub number : (stop : ℕ) → List Lexeme → Result Value ExpandFault
number stop ls = do
  own ← nameless ls
  e ← tree (first_byte stop own) stop own
  value_computed (first_byte stop own) e

abbrev pub named : Lexeme → List Lexeme → Token → Result (NameBytes × List Lexeme) ExpandFault
named l ls (token.Name x) = Ok (x, ls)
named l ls _ = Err (fault.Grammar l.start)

abbrev pub name_declared : (stop : ℕ) → List Lexeme → Result (NameBytes × List Lexeme) ExpandFault
name_declared stop [] = Err (fault.Grammar stop)
name_declared stop (l ∷ ls) = named l ls l.token

abbrev pub assigned : Lexeme → List Lexeme → Token → Result (List Lexeme) ExpandFault
assigned l ls (token.Mark mark.Assign) = Ok ls
assigned l ls _ = Err (fault.Grammar l.start)

abbrev pub behind_assign : (stop : ℕ) → List Lexeme → Result (List Lexeme) ExpandFault
behind_assign stop [] = Err (fault.Grammar stop)
behind_assign stop (l ∷ ls) = assigned l ls l.token

-- the constant that the tokens between `const` and `;` declare
unfoldable pub declared : (stop : ℕ) → List Lexeme → Result Constant ExpandFault
declared stop ls = do
  x ← name_declared stop ls
  rest ← behind_assign stop x.1
  v ← number stop rest
  Ok (record { name = x.0; value = v })
