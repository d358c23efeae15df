-- What the code's statements and blocks stand for: their statements as plain trees.
use Rattle.std.specs.Prelude.{ℕ, max, nat_eq, if◌then◌else◌, ℤ, List, [], map}
use Rattle.std.specs.Global.{Vec}
use Rattle.kpn_limits.specs.declared.TheConstants.{MAX_VARIABLES}
use Rattle.kpn_lang.specs.declared.syntax.Stmt.{Stmt}
use Rattle.kpn_lang.specs.declared.program.parts.Parts as held
use Rattle.kpn_lang.specs.Syntax.{Statement, statement_of}
use Rattle.kpn_lang.specs.Parts.{Parts}

-- the statements of a block
abbrev pub statements_of : List Stmt → List Statement
statements_of block = map statement_of block

-- the statements of each block
abbrev pub blocks_of : List (Vec Stmt) → List (List Statement)
blocks_of blocks = map (λ block. statements_of block.items) blocks

-- the parts that a caller passes in
abbrev pub parts_with : (ins outs pars vars : ℕ) → List (Vec Stmt) → Parts
parts_with ins outs pars vars blocks =
    record { ins = ins; outs = outs; pars = pars; vars = vars; free = 0; tables = []; blocks = blocks_of blocks }

-- how many variables a program has, of which this many have names: with cells there are at least 64
abbrev pub vars_with : (named cells : ℕ) → ℕ
vars_with named cells = if nat_eq cells 0 then named else max named MAX_VARIABLES

-- the same with this many cells of arrays, and the values of tables
abbrev pub parts_with_cells : (ins outs pars vars free : ℕ) → List ℤ → List (Vec Stmt) → Parts
parts_with_cells ins outs pars vars free tables blocks =
    record {
      ins = ins;
      outs = outs;
      pars = pars;
      vars = vars;
      free = free;
      tables = tables;
      blocks = blocks_of blocks;
    }

-- ---- scaffolding

-- the parts that a program holds
abbrev pub parts_of : held.Parts → Parts
parts_of p = parts_with_cells p.ins p.outs p.pars p.vars p.free p.tables.items p.blocks.items
