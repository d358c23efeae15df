-- Scaffolding: what an operand of the table is.
use Rattle.kpn_lang.specs.Syntax.{Term, Num, Var, Neg, Not, BitNot, Bin, Choice, Cell}

-- a number, and no name
abbrev pub IsNumber : Term → Type 0
IsNumber (Num z) = Unit {0}
IsNumber (Var x) = ⊥
IsNumber (Neg e) = ⊥
IsNumber (Not e) = ⊥
IsNumber (BitNot e) = ⊥
IsNumber (Bin op a b) = ⊥
IsNumber (Choice c a b) = ⊥
IsNumber (Cell base size e) = ⊥
