-- The statements of a block, printed one after the other.
use Rattle.std.proofs.Common.{◌≡◌, ℕ, suc, ◌+◌, ◌-◌, true, false, ◌<◌, ◌≤◌, List, [], ◌∷◌, ◌++◌, length, get_or, drop, slice_get, Result, OnOk, codes, refl, ap, ◌∙◌, sym, arith}
use Rattle.kpn_text.proofs.Common.{◌==◌, list_all, and_from, drop_all, length-map, MAX_LEVELS, Parts, IsProgram, inner_blocks, is_within, Tree, tree_of, tree_over, block_at, statements_of, Language, ExpressionNode, Statements, no_statements, statement, choice, ProcessNames, statements_named, term_named, else_text, indented, otherwise_text, statements_text, unindented_text, whole_text, Writes}
use Rattle.kpn_lang.specs.declared.syntax.Stmt.{Stmt}
use Rattle.kpn_lang.specs.Syntax as lang
use Rattle.kpn_lang.specs.Syntax.{Statement, Assign, Read, Write, If, While, Set, statement_of}
use Rattle.kpn_lang.proofs.Programs.{AreWithin, tree_of_block, within_at, within_positive, within_read}
use Rattle.kpn_lang.proofs.Interpreting.{statement_read, statements_left}
use Rattle.kpn_text_tokens.specs.declared.tokens.Language.TheVariants as language
use Rattle.kpn_text.specs.Seconds.{HasBraces, IsLong}
use Rattle.kpn_text.proofs.PrintingLemmas.{same_prints, then_prints}

-- the text of statements over the trees of the blocks inside them
abbrev pub block_text : Language → ℕ → ProcessNames → (ℕ → Tree) → List Statement → List ℕ → List ℕ
block_text l level names inner ss more = statements_text l level (statements_named names (tree_over inner ss)) more

-- the first statement, and then the others
block_text-cons : (l : Language) (level : ℕ) (names : ProcessNames) (inner : ℕ → Tree) (s : Statement)
    (ss : List Statement) (more : List ℕ)
    → block_text l level names inner (s ∷ ss) more
    ≡ block_text l level names inner (s ∷ []) (block_text l level names inner ss more)
block_text-cons l level names inner (Assign x e) ss more = refl
block_text-cons l level names inner (Set base size i e) ss more = refl
block_text-cons l level names inner (Read i x) ss more = refl
block_text-cons l level names inner (Write o e) ss more = refl
block_text-cons l level names inner (If e a b) ss more = refl
block_text-cons l level names inner (While e a) ss more = refl

-- a block is its statements
pub block_text-is : (l : Language) (level : ℕ) (names : ProcessNames) (parts : Parts) → IsProgram parts
    → (b : ℕ) (statements : List Stmt) → statements_of statements ≡ block_at parts.blocks b
    → (more : List ℕ)
    → block_text l level names (tree_of parts.blocks) (statements_of statements) more
    ≡ statements_text l level (statements_named names (tree_of parts.blocks b)) more
block_text-is l level names parts program b statements e more =
    ap (λ ss. block_text l level names (tree_of parts.blocks) ss more) e
    ∙ ap (λ t. statements_text l level (statements_named names t) more) (sym (tree_of_block parts program b))

-- all statements were put
pub block_done : (l : Language) (level : ℕ) (names : ProcessNames) (parts : Parts) → IsProgram parts
    → (b : ℕ) (statements : List Stmt) (i : ℕ) (a now : List ℕ) → statements_of statements ≡ block_at parts.blocks b
    → length statements ≤ i
    → ((more : List ℕ)
    → now ++ block_text l level names (tree_of parts.blocks) (drop i (statements_of statements)) more
    ≡ a ++ block_text l level names (tree_of parts.blocks) (statements_of statements) more)
    → Writes a now (statements_text l level (statements_named names (tree_of parts.blocks b)))
block_done l level names parts program b statements i a now e all so_far more =
    let past : length (statements_of statements) ≤ i = omega (arith, length-map statements statement_of) in
    let none : drop i (statements_of statements) ≡ [] = drop_all i (statements_of statements) past in
    (rw none at (so_far more)) ∙ ap (λ t. a ++ t) (block_text-is l level names parts program b statements e more)

-- ---- levels

within_listed : (blocks : List (List Statement)) (levels : ℕ) (s : Statement) → AreWithin blocks levels s
    → list_all (is_within blocks levels) (inner_blocks s) ≡ true
within_listed blocks levels (Assign x e) h = refl
within_listed blocks levels (Set base size i e) h = refl
within_listed blocks levels (Read i x) h = refl
within_listed blocks levels (Write o e) h = refl
within_listed blocks levels (If e a c) h = and_from _ _ h.0 (and_from _ _ h.1 refl)
within_listed blocks levels (While e c) h = and_from _ _ h refl

-- what a statement of a block asks for
pub record IsReady (blocks : List (List Statement)) (depth : ℕ) (s : Statement) : Type 0 where
  pub level : depth ≤ MAX_LEVELS
  pub levels : list_all (is_within blocks (MAX_LEVELS - depth)) (inner_blocks s) ≡ true

pub ready : (parts : Parts) (level b i : ℕ) (statements : List Stmt) (s : Stmt)
    → is_within parts.blocks (MAX_LEVELS + 1 - level) b ≡ true → statements_of statements ≡ block_at parts.blocks b
    → i < length statements → s ≡ get_or statements i s → IsReady parts.blocks level (statement_of s)
ready parts level b i statements s within e below read =
    let some = within_positive parts.blocks (MAX_LEVELS + 1 - level) b within in
    let less : MAX_LEVELS + 1 - level ≡ suc (MAX_LEVELS - level) = omega arith in
    let inside : i < length (statements_of statements) = omega (arith, length-map statements statement_of) in
    record {
      level = omega arith;
      levels = within_listed parts.blocks (MAX_LEVELS - level) (statement_of s)
          (within_read parts.blocks (MAX_LEVELS - level) b i (statement_of s) (rw less at within) (rw e at inside)
          (rw e at (statement_read statements i s below read)));
    }

-- what the blocks of an `if` ask for that stands alone in a second block
pub record AreInner (blocks : List (List Statement)) (level a b : ℕ) : Type 0 where
  pub below : level + 1 ≤ MAX_LEVELS
  pub first : is_within blocks (MAX_LEVELS + 1 - (level + 2)) a ≡ true
  pub second : is_within blocks (MAX_LEVELS - (level + 1)) b ≡ true

pub inner : (parts : Parts) (level b : ℕ) (test : lang.Term) (first second : ℕ)
    → is_within parts.blocks (MAX_LEVELS - level) b ≡ true → block_at parts.blocks b ≡ If test first second ∷ []
    → AreInner parts.blocks level first second
inner parts level b test first second within e =
    let some = within_positive parts.blocks (MAX_LEVELS - level) b within in
    let less : MAX_LEVELS - level ≡ suc (MAX_LEVELS - (level + 1)) = omega arith in
    let same : MAX_LEVELS + 1 - (level + 2) ≡ MAX_LEVELS - (level + 1) = omega arith in
    let inside =
    within_at parts.blocks (MAX_LEVELS - (level + 1)) b 0 (If test first second) (rw less at within)
    (ap (λ ss. slice_get ss 0) e) in
    record {
      below = omega arith;
      first = rw same inside.0;
      second = inside.1;
    }

-- ---- statements

module _ (l : Language) (level : ℕ) (names : ProcessNames) (parts : Parts) (statements : List Stmt) (i : ℕ) (s : Stmt)
    (within : i < length statements) (read : s ≡ get_or statements i s) where
  -- a statement more
  pub statement_more : (a now next : List ℕ)
      → ((more : List ℕ)
      → now ++ block_text l level names (tree_of parts.blocks) (drop i (statements_of statements)) more
      ≡ a ++ block_text l level names (tree_of parts.blocks) (statements_of statements) more)
      → Writes now next (block_text l level names (tree_of parts.blocks) (statement_of s ∷ []))
      → (more : List ℕ)
      → next ++ block_text l level names (tree_of parts.blocks) (drop (i + 1) (statements_of statements)) more
      ≡ a ++ block_text l level names (tree_of parts.blocks) (statements_of statements) more
  statement_more a now next so_far put more =
      let rest = drop (i + 1) (statements_of statements) in
      put (block_text l level names (tree_of parts.blocks) rest more)
      ∙ ap (λ t. now ++ t) (sym (block_text-cons l level names (tree_of parts.blocks) (statement_of s) rest more))
      ∙ (rw (statements_left statements i s within read) at (so_far more))

-- the parts of an `if`, after the words before its condition
pub branch_text : {X E : Type 0} (r : Result X E) (l : Language) (level : ℕ) (word : List ℕ) (test : ExpressionNode)
    (first second : Statements) (a b c d e f : List ℕ)
    → Writes a b (indented level) → Writes b c (λ more. word ++ more)
    → Writes c d (λ more. whole_text l test (codes " {\n" ++ more)) → Writes d e (statements_text l (level + 1) first)
    → OnOk r (Writes e f (else_text l level second))
    → OnOk r
    (Writes a f
    (λ more.
    indented level
    (word
    ++ whole_text l test
    (codes " {\n" ++ statements_text l (suc level) first (else_text l level second more)))))
branch_text r l level word test first second a b c d e f h1 h2 h3 h4 h5 =
    let next : suc level ≡ level + 1 = omega arith in
    let h : Writes a e
    (λ more.
    indented level (word ++ whole_text l test (codes " {\n" ++ statements_text l (level + 1) first more))) =
    λ more. h4 more ∙ h3 (statements_text l (level + 1) first more)
    ∙ h2 (whole_text l test (codes " {\n" ++ statements_text l (level + 1) first more))
    ∙ h1 (word ++ whole_text l test (codes " {\n" ++ statements_text l (level + 1) first more)) in
    same_prints r a f _ _
    (λ more.
    ap
    (λ k.
    indented level
    (word ++ whole_text l test (codes " {\n" ++ statements_text l k first (else_text l level second more))))
    (sym next))
    (then_prints r a e f _ _ h h5)

-- ---- second blocks

module _ (l : Language) (level : ℕ) (names : ProcessNames) (parts : Parts) (program : IsProgram parts) (b : ℕ) where
  -- the block by its statements
  else_is : (ss : List Statement) → block_at parts.blocks b ≡ ss
      → statements_named names (tree_of parts.blocks b)
      ≡ statements_named names (tree_over (tree_of parts.blocks) ss)
  else_is ss e =
      ap (λ t. statements_named names t) (tree_of_block parts program b)
      ∙ ap (λ t. statements_named names (tree_over (tree_of parts.blocks) t)) e

  -- an empty one
  pub nothing_text : l ≡ language.Two → block_at parts.blocks b ≡ [] → (more : List ℕ)
      → indented level (codes "}\n" ++ more) ≡ else_text l level (statements_named names (tree_of parts.blocks b)) more
  nothing_text two e more = λ i. else_text (sym two i) level (sym (else_is [] e) i) more

  -- one `if`
  pub if_alone : (test : lang.Term) (first second : ℕ) → l ≡ language.Two
      → block_at parts.blocks b ≡ If test first second ∷ [] → (more : List ℕ)
      → indented level
      (codes "} else if "
      ++ whole_text l (term_named names test)
      (codes " {\n"
      ++ statements_text l (suc level) (statements_named names (tree_of parts.blocks first))
      (else_text l level (statements_named names (tree_of parts.blocks second)) more)))
      ≡ else_text l level (statements_named names (tree_of parts.blocks b)) more
  if_alone test first second two e more =
      let ss : Statements =
      statement
      (choice (term_named names test) (statements_named names (tree_of parts.blocks first))
      (statements_named names (tree_of parts.blocks second))) no_statements in
      let head : List ℕ =
      indented level
      (codes "} else if "
      ++ whole_text language.Two (term_named names test)
      (codes " {\n"
      ++ statements_text language.Two (suc level) (statements_named names (tree_of parts.blocks first))
      (else_text language.Two level (statements_named names (tree_of parts.blocks second)) more))) in
      let there : head ≡ else_text language.Two level ss more = refl in
      (rw two there) ∙ ap (λ t. else_text l level t more) (sym (else_is (If test first second ∷ []) e))

-- several statements are no single one
several : (l : Language) (level : ℕ) (names : ProcessNames) (below : ℕ → Tree) (e : ExpressionNode) (a c : Statements)
    (s : Statement) (ss : List Statement) (inside branch : List ℕ → List ℕ) (more : List ℕ)
    → indented level (codes "} else {\n" ++ inside (indented level (codes "}\n" ++ more)))
    ≡ otherwise_text l level (statement (choice e a c) (statements_named names (tree_over below (s ∷ ss)))) inside
    branch more
several language.One level names below e a c s ss inside branch more = refl
several language.Two level names below e a c (Assign x v) ss inside branch more = refl
several language.Two level names below e a c (Set base size i v) ss inside branch more = refl
several language.Two level names below e a c (Read i x) ss inside branch more = refl
several language.Two level names below e a c (Write o v) ss inside branch more = refl
several language.Two level names below e a c (If v d f) ss inside branch more = refl
several language.Two level names below e a c (While v d) ss inside branch more = refl

with_braces : (l : Language) (level : ℕ) (names : ProcessNames) (below : ℕ → Tree) (ss : List Statement)
    → HasBraces l ss → (inside branch : List ℕ → List ℕ) (more : List ℕ)
    → indented level (codes "} else {\n" ++ inside (indented level (codes "}\n" ++ more)))
    ≡ otherwise_text l level (statements_named names (tree_over below ss)) inside branch more
with_braces language.One level names below ss has inside branch more = refl
with_braces language.Two level names below [] has inside branch more = absurd has
with_braces language.Two level names below (If e a c ∷ []) has inside branch more = absurd has
with_braces language.Two level names below (If e a c ∷ s ∷ ss) has inside branch more =
    several language.Two level names below (term_named names e) (statements_named names (below a))
    (statements_named names (below c)) s ss inside branch more
with_braces language.Two level names below (Assign x e ∷ ss) has inside branch more = refl
with_braces language.Two level names below (Set base size i e ∷ ss) has inside branch more = refl
with_braces language.Two level names below (Read i x ∷ ss) has inside branch more = refl
with_braces language.Two level names below (Write o e ∷ ss) has inside branch more = refl
with_braces language.Two level names below (While e a ∷ ss) has inside branch more = refl

-- a block in braces
pub braces_text : {X E : Type 0} (r : Result X E) (l : Language) (level : ℕ) (names : ProcessNames) (parts : Parts)
    → IsProgram parts → (k : ℕ) → HasBraces l (block_at parts.blocks k) → (a b c d e : List ℕ)
    → Writes a b (indented level) → Writes b c (λ more. codes "} else {\n" ++ more)
    → Writes c d (statements_text l (level + 1) (statements_named names (tree_of parts.blocks k)))
    → OnOk r (Writes d e (λ more. indented level (codes "}\n" ++ more)))
    → OnOk r (Writes a e (else_text l level (statements_named names (tree_of parts.blocks k))))
braces_text r l level names parts program k has a b c d e h1 h2 h3 h4 =
    let block : Statements = statements_named names (tree_of parts.blocks k) in
    let next : suc level ≡ level + 1 = omega arith in
    let h : Writes a d (λ more. indented level (codes "} else {\n" ++ statements_text l (level + 1) block more)) =
    λ more. h3 more ∙ h2 (statements_text l (level + 1) block more)
    ∙ h1 (codes "} else {\n" ++ statements_text l (level + 1) block more) in
    let same : (more : List ℕ)
    → indented level (codes "} else {\n" ++ statements_text l (suc level) block (indented level (codes "}\n" ++ more)))
    ≡ else_text l level block more =
    λ more.
    with_braces l level names (tree_of parts.blocks) (block_at parts.blocks k) has
    (λ rest. statements_text l (suc level) block rest) (λ rest. unindented_text l level block rest) more
    ∙ ap
    (λ t.
    otherwise_text l level t (λ rest. statements_text l (suc level) block rest)
    (λ rest. unindented_text l level block rest) more)
    (ap (λ t. statements_named names t) (sym (tree_of_block parts program k))) in
    same_prints r a e _ _ same (rw next (then_prints r a d e _ _ h h4))

-- a block of several statements is long
pub long_more : (s : Statement) (others : List Stmt) → false ≡ (length others == 0)
    → IsLong (s ∷ statements_of others)
long_more s [] some = absurd cc
long_more (Assign x e) (t ∷ ts) some = tt
long_more (Set base size i e) (t ∷ ts) some = tt
long_more (Read i x) (t ∷ ts) some = tt
long_more (Write o e) (t ∷ ts) some = tt
long_more (If e a b) (t ∷ ts) some = tt
long_more (While e a) (t ∷ ts) some = tt
