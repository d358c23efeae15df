-- What a program is made of, the rules that it keeps, and the first rule that parts break.
use Rattle.std.specs.Prelude.{ℕ, zero, suc, ◌+◌, ℤ, pos, max, Bool, true, false, not, ◌&&◌, ◌||◌, nat_lt, nat_le, nat_eq, ◌≡◌, ◌≤◌, ◌<◌, if◌then◌else◌, List, [], ◌∷◌, ◌++◌, length, replicate, Option, Some, None, sum_by}
use Rattle.std.specs.List.{list_any, list_all, flat_map, range_with_len}
use Rattle.std.specs.Cmp.Lexicographic.{pointwise}
use Rattle.kpn_limits.specs.declared.TheConstants.{MAX_VARIABLES, MAX_CELLS, MAX_PORTS, MAX_NODES, MAX_LEVELS}
use Rattle.kpn_lang.specs.declared.program.ProgramFault.{ProgramFault}
use Rattle.kpn_lang.specs.declared.program.ProgramFault.TheVariants.{TooMany, NoSuchBlock, BlockOrder, NoSuchVar, NoSuchPort, TooDeep}
use Rattle.kpn_lang.specs.Syntax.{Term, Num, Var, Neg, Not, BitNot, Bin, Choice, Cell, Statement, Assign, Read, Write, If, While, Set, lies_within, names_within}
use Rattle.kpn_lang.specs.Tree.{block_at}

-- in ports, out ports, parameters, variables with the parameters first, how many cells the arrays have, the values of
-- the tables, and the blocks with the body first
pub record Parts : Type 0 where
  pub ins : ℕ
  pub outs : ℕ
  pub pars : ℕ
  pub vars : ℕ
  pub free : ℕ
  pub tables : List ℤ
  pub blocks : List (List Statement)

-- the cells at the start, which have the numbers after the variables: those of the arrays, which are free to be set,
-- and then those of the tables
abbrev pub cells_of : Parts → List ℤ
cells_of p = replicate p.free (pos 0) ++ p.tables

-- how many variables and cells there are
abbrev pub places : Parts → ℕ
places p = p.vars + p.free + length p.tables

-- the expressions of a statement
abbrev pub expressions : Statement → List Term
expressions (Assign x e) = e ∷ []
expressions (Read i x) = []
expressions (Write o e) = e ∷ []
expressions (If e a b) = e ∷ []
expressions (While e b) = e ∷ []
expressions (Set base size i e) = i ∷ e ∷ []

-- the blocks inside a statement, in the order of their opening braces
abbrev pub inner_blocks : Statement → List ℕ
inner_blocks (Assign x e) = []
inner_blocks (Read i x) = []
inner_blocks (Write o e) = []
inner_blocks (If e a b) = a ∷ b ∷ []
inner_blocks (While e b) = b ∷ []
inner_blocks (Set base size i e) = []

-- the blocks right inside a block, in the order of their opening braces
abbrev pub children : List (List Statement) → ℕ → List ℕ
children blocks b = flat_map inner_blocks (block_at blocks b)

-- ---- 1: a limit is passed: of the variables, of the ports each way, of the cells, of the nodes

-- the nodes of an expression: each number, name, operator, choice and index is one
abbrev pub nodes : Term → ℕ
nodes (Num z) = 1
nodes (Var x) = 1
nodes (Neg e) = nodes e + 1
nodes (Not e) = nodes e + 1
nodes (BitNot e) = nodes e + 1
nodes (Bin op a b) = nodes a + nodes b + 1
nodes (Choice c a b) = nodes c + nodes a + nodes b + 1
nodes (Cell base size e) = nodes e + 1

-- a statement is a node beside those of its expressions
abbrev pub statement_nodes : Statement → ℕ
statement_nodes s = sum_by nodes (expressions s) + 1

abbrev pub is_too_large : Parts → Bool
is_too_large p =
    nat_lt MAX_VARIABLES p.vars || nat_lt MAX_PORTS p.ins || nat_lt MAX_PORTS p.outs
    || nat_lt MAX_CELLS (p.free + length p.tables)
    || nat_lt MAX_NODES (sum_by (sum_by statement_nodes) p.blocks)

-- ---- 2: there is no body, or a statement names a block that is not there

-- a statement names a block of this number or above
abbrev pub names_from : ℕ → Statement → Bool
names_from count s = list_any (nat_le count) (inner_blocks s)

abbrev pub lacks_a_block : Parts → Bool
lacks_a_block p = nat_lt (length p.blocks) 1 || list_any (list_any (names_from (length p.blocks))) p.blocks

-- ---- 3: the blocks are not numbered in the order of their opening braces, each used once

-- a block and the blocks inside it in the order of their opening braces, down to a number of levels
abbrev pub order_to : List (List Statement) → ℕ → ℕ → List ℕ
order_to blocks zero b = b ∷ []
order_to blocks (suc levels) b = b ∷ flat_map (order_to blocks levels) (children blocks b)

-- from the body on they are 0, 1, 2 and so on, to the last
abbrev pub is_in_order : Parts → Bool
is_in_order p = pointwise nat_eq (order_to p.blocks (length p.blocks) 0) (range_with_len 0 (length p.blocks))

-- ---- 4: a statement names a variable or a cell that is not there, or sets a cell of a table

-- each variable is below the first of three numbers; from there on each cell is below the last, and below the second
-- if it is set
abbrev pub names_there : (vars free all : ℕ) → Statement → Bool
names_there vars free all (Assign x e) = nat_lt x vars && names_within vars all e
names_there vars free all (Read i x) = nat_lt x vars
names_there vars free all (Write o e) = names_within vars all e
names_there vars free all (If e a b) = names_within vars all e
names_there vars free all (While e b) = names_within vars all e
names_there vars free all (Set base size i e) =
    lies_within vars free base size && names_within vars all i && names_within vars all e

-- each variable and each cell that an expression names is there
abbrev pub is_there : Parts → Term → Bool
is_there p e = names_within p.vars (places p) e

-- each variable and each cell that a statement names is there, and it sets no cell of a table
abbrev pub names_its_own : Parts → Statement → Bool
names_its_own p s = names_there p.vars (p.vars + p.free) (places p) s

-- ---- 5: a statement names a port that is not there

abbrev pub names_ports_below : (ins outs : ℕ) → Statement → Bool
names_ports_below ins outs (Assign x e) = true
names_ports_below ins outs (Read i x) = nat_lt i ins
names_ports_below ins outs (Write o e) = nat_lt o outs
names_ports_below ins outs (If e a b) = true
names_ports_below ins outs (While e b) = true
names_ports_below ins outs (Set base size i e) = true

-- ---- 6: blocks or expressions nest too deep

-- a number or a name is at level 1, an operator, a choice or an index one above its parts
abbrev pub depth : Term → ℕ
depth (Num z) = 1
depth (Var x) = 1
depth (Neg e) = depth e + 1
depth (Not e) = depth e + 1
depth (BitNot e) = depth e + 1
depth (Bin op a b) = max (depth a) (depth b) + 1
depth (Choice c a b) = max (depth c) (max (depth a) (depth b)) + 1
depth (Cell base size e) = depth e + 1

-- a block and the blocks inside it go down at most this many levels
abbrev pub is_within : List (List Statement) → ℕ → ℕ → Bool
is_within blocks zero b = false
is_within blocks (suc levels) b = list_all (is_within blocks levels) (children blocks b)

-- ---- the rules together

-- each statement of each block passes a test
abbrev pub each_statement : (Statement → Bool) → List (List Statement) → Bool
each_statement test blocks = list_all (list_all test) blocks

abbrev pub nests_too_deep : Parts → Bool
nests_too_deep p =
    not (is_within p.blocks MAX_LEVELS 0)
    || not (each_statement (λ s. list_all (λ e. nat_le (depth e) MAX_LEVELS) (expressions s)) p.blocks)

-- the first rule that the parts break, in the order of the faults' numbers
abbrev pub first_fault : Parts → Option ProgramFault
first_fault p =
    if is_too_large p then Some TooMany else
    (if lacks_a_block p then Some NoSuchBlock else
    (if not (is_in_order p) then Some BlockOrder else
    (if not (each_statement (names_its_own p) p.blocks) then Some NoSuchVar else
    (if not (each_statement (names_ports_below p.ins p.outs) p.blocks) then Some NoSuchPort else
    (if nests_too_deep p then Some TooDeep else None)))))

-- the parts keep each rule, the parameters are among the variables, and cells have numbers from 64 on
pub record IsProgram (parts : Parts) : Type 0 where
  pub sound : first_fault parts ≡ None
  pub counted : parts.pars ≤ parts.vars
  pub apart : parts.vars < MAX_VARIABLES → parts.free + length parts.tables ≡ 0
