-- The blocks of a tree, numbered in the order of their opening braces in the text: first a block's own statements, then
-- the blocks inside it.
use Rattle.std.specs.Prelude.{ℕ, suc, ◌+◌, List, [], ◌∷◌, ◌++◌, Result, Ok}
use Rattle.kpn_lang.specs.Syntax as lang
use Rattle.kpn_lang.specs.Tree.{Tree, End, Assign, Read, Write, If, While, Set}
use Rattle.kpn_text_grammar.specs.Syntax.{NameBytes, Statements}
use Rattle.kpn_text_names.specs.declared.scope.NameScope.{NameScope}
use Rattle.kpn_text_names.specs.Fault.{NameError}
use Rattle.kpn_text_tokens.specs.Results.{◌>>=◌}
use Rattle.kpn_text_names.specs.Body.{tree_in}

-- how many blocks are inside, at any depth
abbrev pub blocks_in : Tree → ℕ
blocks_in End = 0
blocks_in (Assign x e rest) = blocks_in rest
blocks_in (Read i x rest) = blocks_in rest
blocks_in (Write o e rest) = blocks_in rest
blocks_in (If e a b rest) = suc (blocks_in a) + (suc (blocks_in b) + blocks_in rest)
blocks_in (While e a rest) = suc (blocks_in a) + blocks_in rest
blocks_in (Set base size i e rest) = blocks_in rest

-- the statements of a block, if the first block inside it has the number n
abbrev pub own : (n : ℕ) → Tree → List lang.Statement
own n End = []
own n (Assign x e rest) = lang.Assign x e ∷ own n rest
own n (Read i x rest) = lang.Read i x ∷ own n rest
own n (Write o e rest) = lang.Write o e ∷ own n rest
own n (If e a b rest) =
    let second : ℕ = n + suc (blocks_in a) in
    lang.If e n second ∷ own (second + suc (blocks_in b)) rest
own n (While e a rest) = lang.While e n ∷ own (n + suc (blocks_in a)) rest
own n (Set base size i e rest) = lang.Set base size i e ∷ own n rest

-- the blocks inside, the first of which has the number n
abbrev pub inner : (n : ℕ) → Tree → List (List lang.Statement)
inner n End = []
inner n (Assign x e rest) = inner n rest
inner n (Read i x rest) = inner n rest
inner n (Write o e rest) = inner n rest
inner n (If e a b rest) =
    let second : ℕ = n + suc (blocks_in a) in
    own (suc n) a ∷ inner (suc n) a
    ++ (own (suc second) b ∷ inner (suc second) b ++ inner (second + suc (blocks_in b)) rest)
inner n (While e a rest) = own (suc n) a ∷ inner (suc n) a ++ inner (n + suc (blocks_in a)) rest
inner n (Set base size i e rest) = inner n rest

-- all blocks of a body, which is block 0
abbrev pub body_blocks : Tree → List (List lang.Statement)
body_blocks body = own 1 body ∷ inner 1 body

-- what is written of a body: the names known so far, and the blocks so far
pub record WrittenBody : Type 0 where
  pub scope : NameScope
  pub blocks : List (List lang.Statement)

-- a body, if these names are known before it, and these are the shared tables
abbrev pub body_of : (shared : List NameBytes) → NameScope → Statements → Result WrittenBody NameError
body_of shared s b = tree_in shared s b >>= λ r. Ok (record { scope = r.0; blocks = body_blocks r.1 })
