-- The syntax of processes as plain trees: what an expression and a statement are. Unlike the code's values they have no
-- places in memory, so two that are written alike are equal.
use Rattle.std.specs.Prelude.{ℕ, ◌+◌, ℤ, Bool, true, false, ◌&&◌, ◌||◌, nat_lt, nat_le}
use Rattle.kpn_lang.specs.declared.syntax.Op.{Op}
use Rattle.kpn_lang.specs.declared.syntax.Expr.{Expr}
use Rattle.kpn_lang.specs.declared.syntax.Expr.TheVariants as expr
use Rattle.kpn_lang.specs.declared.syntax.Stmt.{Stmt}
use Rattle.kpn_lang.specs.declared.syntax.Stmt.TheVariants as stmt

-- an expression; a cell is named by the number of the first cell of its row, the size of the row, and an index
pub data Term : Type 0 where
  Num : ℤ → Term
  Var : ℕ → Term
  Neg : Term → Term
  Not : Term → Term
  BitNot : Term → Term
  Bin : Op → Term → Term → Term
  Choice : (test first second : Term) → Term
  Cell : (base size : ℕ) → (index : Term) → Term

-- a statement, which names the blocks inside it by number
pub data Statement : Type 0 where
  Assign : (variable : ℕ) → Term → Statement
  Read : (port variable : ℕ) → Statement
  Write : (port : ℕ) → Term → Statement
  If : Term → (first second : ℕ) → Statement
  While : Term → (body : ℕ) → Statement
  Set : (base size : ℕ) → (index item : Term) → Statement

-- the expression that the code holds
abbrev pub term_of : Expr → Term
term_of (expr.Num z) = Num z
term_of (expr.Var x) = Var x
term_of (expr.Neg' p e) = Neg (term_of e)
term_of (expr.Not' p e) = Not (term_of e)
term_of (expr.BitNot' p e) = BitNot (term_of e)
term_of (expr.Bin' op p a q b) = Bin op (term_of a) (term_of b)
term_of (expr.Choice' p c q a r b) = Choice (term_of c) (term_of a) (term_of b)
term_of (expr.Cell' base size p e) = Cell base size (term_of e)

-- the statement that the code holds
abbrev pub statement_of : Stmt → Statement
statement_of (stmt.Assign x e) = Assign x (term_of e)
statement_of (stmt.Read i x) = Read i x
statement_of (stmt.Write o e) = Write o (term_of e)
statement_of (stmt.If e a b) = If (term_of e) a b
statement_of (stmt.While e b) = While (term_of e) b
statement_of (stmt.Set base size i e) = Set base size (term_of i) (term_of e)

-- an expression names a cell
abbrev pub has_cells : Term → Bool
has_cells (Num z) = false
has_cells (Var x) = false
has_cells (Neg e) = has_cells e
has_cells (Not e) = has_cells e
has_cells (BitNot e) = has_cells e
has_cells (Bin op a b) = has_cells a || has_cells b
has_cells (Choice c a b) = has_cells c || has_cells a || has_cells b
has_cells (Cell base size e) = true

-- each variable that an expression names is below this number, and it names no cell
abbrev pub names_below : ℕ → Term → Bool
names_below n (Num z) = true
names_below n (Var x) = nat_lt x n
names_below n (Neg e) = names_below n e
names_below n (Not e) = names_below n e
names_below n (BitNot e) = names_below n e
names_below n (Bin op a b) = names_below n a && names_below n b
names_below n (Choice c a b) = names_below n c && names_below n a && names_below n b
names_below n (Cell base size e) = false

-- a row of cells lies from the first of two numbers up to the second
abbrev pub lies_within : (first last base size : ℕ) → Bool
lies_within first last base size = nat_le first base && nat_le (base + size) last

-- each variable that an expression names is below the first of two numbers, and each row of cells lies from there up to
-- the second
abbrev pub names_within : (first last : ℕ) → Term → Bool
names_within n m (Num z) = true
names_within n m (Var x) = nat_lt x n
names_within n m (Neg e) = names_within n m e
names_within n m (Not e) = names_within n m e
names_within n m (BitNot e) = names_within n m e
names_within n m (Bin op a b) = names_within n m a && names_within n m b
names_within n m (Choice c a b) = names_within n m c && names_within n m a && names_within n m b
names_within n m (Cell base size e) = lies_within n m base size && names_within n m e
