-- The processes that `kpn alone` knows: their names and their programs.
use Rattle.std.specs.Prelude.{ℕ, List, [], ◌∷◌, pos, codes}
use Rattle.kpn_lang.specs.declared.syntax.Op.TheVariants.{Add, Mul}
use Rattle.kpn_lang.specs.Syntax.{Num, Var, Bin, Statement, Assign, Read, Write, While}
use Rattle.kpn_lang.specs.Parts.{Parts}
use Rattle.kpn_commands.specs.declared.built_in.BuiltIn.{BuiltIn}
use Rattle.kpn_commands.specs.declared.built_in.BuiltIn.TheVariants.{Copy, Double, Sum}

abbrev pub name_of : BuiltIn → List ℕ
name_of Copy = codes "copy"
name_of Double = codes "double"
name_of Sum = codes "sum"

-- what each does with one item: `read i x; write o x;`, `read i x; write o (x * 2);` and
-- `read i x; t = (t + x); write o t;`; x is variable 0 and t is variable 1
abbrev pub turn_of : BuiltIn → List Statement
turn_of Copy = Read 0 0 ∷ Write 0 (Var 0) ∷ []
turn_of Double = Read 0 0 ∷ Write 0 (Bin Mul (Var 0) (Num (pos 2))) ∷ []
turn_of Sum = Read 0 0 ∷ Assign 1 (Bin Add (Var 1) (Var 0)) ∷ Write 0 (Var 1) ∷ []

abbrev pub variables_of : BuiltIn → ℕ
variables_of Copy = 1
variables_of Double = 1
variables_of Sum = 2

-- one in port, one out port, no parameters, and `while 1 { TURN }` as the body
abbrev pub built_in_program : BuiltIn → Parts
built_in_program process =
    record {
      ins = 1;
      outs = 1;
      pars = 0;
      vars = variables_of process;
      free = 0;
      tables = [];
      blocks = (While (Num (pos 1)) 1 ∷ []) ∷ turn_of process ∷ [];
    }
