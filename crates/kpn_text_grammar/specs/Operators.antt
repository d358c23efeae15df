-- The operators of the process language and the marks and names that stand for them: one table, for reading and for
-- printing.
use Rattle.std.specs.Prelude.{ℕ, suc, Bool, true, false, if◌then◌else◌, List, [], ◌∷◌, codes, Option, Some, None}
use Rattle.std.specs.List.{find}
use Rattle.std.specs.Str.{bytes_eq}
use Rattle.kpn_lang.specs.declared.syntax.Op.{Op}
use Rattle.kpn_lang.specs.declared.syntax.Op.TheVariants as op
use Rattle.kpn_text_tokens.specs.declared.tokens.Language.{Language}
use Rattle.kpn_text_tokens.specs.declared.tokens.Language.TheVariants as language
use Rattle.kpn_text_tokens.specs.declared.tokens.Mark.{Mark}
use Rattle.kpn_text_tokens.specs.declared.tokens.Mark.TheVariants as mark
use Rattle.kpn_text_grammar.specs.TokenTests.{same_mark}
use Rattle.kpn_text_grammar.specs.Syntax.{NameBytes}

-- the mark between the sides of an operator
abbrev pub operator_mark : Op → Mark
operator_mark op.Add = mark.Plus
operator_mark op.Sub = mark.Minus
operator_mark op.Mul = mark.Star
operator_mark op.Div = mark.Slash
operator_mark op.Rem = mark.Percent
operator_mark op.Lt = mark.Less
operator_mark op.Le = mark.LessOrEqual
operator_mark op.Gt = mark.Greater
operator_mark op.Ge = mark.GreaterOrEqual
operator_mark op.Eq = mark.Equal
operator_mark op.Ne = mark.NotEqual
operator_mark op.And = mark.And
operator_mark op.Or = mark.Or
operator_mark op.BitAnd = mark.BitAnd
operator_mark op.BitOr = mark.BitOr
operator_mark op.BitXor = mark.BitXor
operator_mark op.Shl = mark.ShiftLeft
operator_mark op.Shr = mark.ShiftRight
operator_mark op.Min = mark.Comma
operator_mark op.Max = mark.Comma

-- the name of an operator that is called: min(a, b), max(a, b)
abbrev pub operator_name : Op → Option NameBytes
operator_name op.Min = Some (codes "min")
operator_name op.Max = Some (codes "max")
operator_name _ = None

-- those that stand between their sides
abbrev pub operators_between : List Op
operators_between =
    op.Add ∷ op.Sub ∷ op.Mul ∷ op.Div ∷ op.Rem ∷ op.Lt ∷ op.Le ∷ op.Gt ∷ op.Ge ∷ op.Eq ∷ op.Ne ∷ op.And ∷ op.Or
    ∷ op.BitAnd ∷ op.BitOr ∷ op.BitXor ∷ op.Shl ∷ op.Shr ∷ []

-- the operator that a mark between two expressions stands for, if it stands for one
unfoldable pub operator_of : Mark → Option Op
operator_of m = find (λ o. same_mark (operator_mark o) m) operators_between

abbrev pub is_named : NameBytes → Option NameBytes → Bool
is_named x (Some y) = bytes_eq y x
is_named x None = false

-- the operator that a name with `(` behind it calls, if it calls one
unfoldable pub operator_called : Language → NameBytes → Option Op
operator_called language.One x = None
operator_called language.Two x = find (λ o. is_named x (operator_name o)) (op.Min ∷ op.Max ∷ [])

-- ---- precedence

abbrev pub is_comparison : Op → Bool
is_comparison op.Lt = true
is_comparison op.Le = true
is_comparison op.Gt = true
is_comparison op.Ge = true
is_comparison op.Eq = true
is_comparison op.Ne = true
is_comparison _ = false

-- How tight an operator binds, from 1 for the one that binds loosest. One that is called is an operand, whatever this
-- says.
abbrev pub tightness : Op → ℕ
tightness op.Or = 1
tightness op.And = 2
tightness op.Lt = 3
tightness op.Le = 3
tightness op.Gt = 3
tightness op.Ge = 3
tightness op.Eq = 3
tightness op.Ne = 3
tightness op.BitOr = 4
tightness op.BitXor = 5
tightness op.BitAnd = 6
tightness op.Shl = 7
tightness op.Shr = 7
tightness op.Add = 8
tightness op.Sub = 8
tightness op.Mul = 9
tightness op.Div = 9
tightness op.Rem = 9
tightness op.Min = 9
tightness op.Max = 9

-- how tight any expression binds at least, a side of a comparison, and an operand, which binds tighter than each
-- operator
abbrev pub LOOSEST : ℕ
LOOSEST = 1

abbrev pub COMPARED : ℕ
COMPARED = 7

abbrev pub OPERAND : ℕ
OPERAND = 10

-- how tight each expression of a language binds at least: in language 1 each is an operand
abbrev pub loosest : Language → ℕ
loosest language.One = OPERAND
loosest language.Two = LOOSEST

-- How tight the left side of an operator binds at least, and its right side. Operators group from the left, but for
-- comparisons, which do not group.
abbrev pub left_side : Op → ℕ
left_side o = if is_comparison o then COMPARED else tightness o

abbrev pub right_side : Op → ℕ
right_side o = if is_comparison o then COMPARED else suc (tightness o)
