-- The tree of a program: each block number is replaced by its block, and each statement holds what follows it.
use Rattle.std.specs.Prelude.{ℕ, zero, suc, List, [], ◌∷◌, length, slice_index_or}
use Rattle.kpn_lang.specs.Syntax.{Term, Statement}
use Rattle.kpn_lang.specs.Syntax as syntax

-- a list of statements with the blocks inside them
pub data Tree : Type 0 where
  End : Tree
  Assign : (variable : ℕ) → Term → (rest : Tree) → Tree
  Read : (port variable : ℕ) → (rest : Tree) → Tree
  Write : (port : ℕ) → Term → (rest : Tree) → Tree
  If : Term → (first second rest : Tree) → Tree
  While : Term → (body rest : Tree) → Tree
  Set : (base size : ℕ) → (index item : Term) → (rest : Tree) → Tree

-- the statements of a block over the trees of the blocks inside it
abbrev pub tree_over : (ℕ → Tree) → List Statement → Tree
tree_over inner [] = End
tree_over inner (syntax.Assign x e ∷ rest) = Assign x e (tree_over inner rest)
tree_over inner (syntax.Read i x ∷ rest) = Read i x (tree_over inner rest)
tree_over inner (syntax.Write o e ∷ rest) = Write o e (tree_over inner rest)
tree_over inner (syntax.If e a b ∷ rest) = If e (inner a) (inner b) (tree_over inner rest)
tree_over inner (syntax.While e b ∷ rest) = While e (inner b) (tree_over inner rest)
tree_over inner (syntax.Set base size i e ∷ rest) = Set base size i e (tree_over inner rest)

-- the statements of a block; none if there is no such block
abbrev pub block_at : List (List Statement) → ℕ → List Statement
block_at blocks b = slice_index_or blocks b []

-- the tree of a block down to a number of levels
abbrev pub tree_to : List (List Statement) → ℕ → ℕ → Tree
tree_to blocks zero b = End
tree_to blocks (suc levels) b = tree_over (tree_to blocks levels) (block_at blocks b)

-- the tree of a block: no nesting is deeper than there are blocks
abbrev pub tree_of : List (List Statement) → ℕ → Tree
tree_of blocks b = tree_to blocks (length blocks) b
