-- The steps of the plain program: why its calls go to greater block numbers, and what a block has done after one
-- statement more and a loop after one turn more.
use Rattle.kpn_lang.proofs.Common.{◌≡◌, ℕ, suc, ◌+◌, ◌-◌, ◌*◌, ◌<◌, ◌≤◌, max, true, Ok, Some, None, List, [], ◌∷◌, length, get_or, drop, refl, sym, ap, ◌∙◌, arith, lt-ltb, drop_more, get_or-map, length-map, and_from, nat_tests, Stmt, Ending, value, Parts, IsProgram, names_its_own, names_ports_below, statements_of, Next, run, turns}
use Rattle.std.specs.Prelude.{nat_le}
use Rattle.kpn_lang.specs.Syntax.{Term, Statement, Assign, Read, Write, If, While, Set, statement_of, lies_within}
use Rattle.kpn_lang.specs.Tree.{Tree, block_at, tree_of, tree_over}
use Rattle.kpn_lang.specs.Plain.{Standing, goes_on, holds, LeadsTo, MayRun}
use Rattle.kpn_lang.proofs.Programs.{KeepsRules, rules_read, tree_of_block}
use Rattle.kpn_lang.proofs.Following.{LeadsTo-refl, LeadsTo-trans, LeadsTo-next, LeadsTo-next_ends, LeadsTo-turn, LeadsTo-turn_ends}

-- ---- measures

-- how many block numbers there are from those inside a statement on
abbrev pub blocks_inside : ℕ → Statement → ℕ
blocks_inside n (Assign x e) = 0
blocks_inside n (Read i x) = 0
blocks_inside n (Write o e) = 0
blocks_inside n (If e a b) = max (n - a) (n - b)
blocks_inside n (While e b) = n - b
blocks_inside n (Set base size i e) = 0

-- what a call on a statement of a block asks for
pub record IsReady (parts : Parts) (b : ℕ) (s : Statement) : Type 0 where
  pub names : names_its_own parts s ≡ true
  pub ports : names_ports_below parts.ins parts.outs s ≡ true
  pub falls : 3 * blocks_inside (length parts.blocks) s + 2 < 3 * (length parts.blocks - b)

up_to : (a b : ℕ) → a ≤ b → nat_le a b ≡ true
up_to a b h = grind (arith, nat_tests, h)

row_lies : (n m base size : ℕ) → n ≤ base → base + size ≤ m → lies_within n m base size ≡ true
row_lies n m base size h k = and_from _ _ (up_to n base h) (up_to (base + size) m k)

ready_by_rules : (parts : Parts) (b : ℕ) (s : Statement) → b < length parts.blocks → KeepsRules parts b s →
    IsReady parts b s
ready_by_rules parts b (Assign x e) h k =
    record { names = and_from _ _ (lt-ltb x parts.vars k.0) k.1; ports = refl; falls = omega arith }
ready_by_rules parts b (Read i x) h k =
    record { names = lt-ltb x parts.vars k.1; ports = lt-ltb i parts.ins k.0; falls = omega arith }
ready_by_rules parts b (Write o e) h k =
    record { names = k.1; ports = lt-ltb o parts.outs k.0; falls = omega arith }
ready_by_rules parts b (If e a c) h k =
    let after_a = k.1 in
    let after_c = k.3 in
    record { names = k.0; ports = refl; falls = omega arith }
ready_by_rules parts b (While e c) h k =
    let after_c = k.1 in
    record { names = k.0; ports = refl; falls = omega arith }
ready_by_rules parts b (Set base size i e) h k =
    record {
      names = and_from _ _ (and_from _ _ (row_lies _ _ base size k.0 k.1) k.2) k.3;
      ports = refl;
      falls = omega arith;
    }

module _ (statements : List Stmt) (i : ℕ) (s : Stmt) (within : i < length statements)
    (read : s ≡ get_or statements i s) where
  -- the statement that was read, among those of its block
  pub statement_read : get_or (statements_of statements) i (statement_of s) ≡ statement_of s
  statement_read = get_or-map statement_of statements i s (statement_of s) within ∙ ap statement_of (sym read)

  pub statements_left : drop i (statements_of statements) ≡ statement_of s ∷ drop (i + 1) (statements_of statements)
  statements_left =
      let within' : i < length (statements_of statements) = omega (arith, length-map statements statement_of) in
      drop_more (statements_of statements) i (statement_of s) within'
      ∙ ap (λ t. t ∷ drop (i + 1) (statements_of statements)) statement_read

  pub IsReady-read : (parts : Parts) (b : ℕ) → IsProgram parts → b < length parts.blocks →
      statements_of statements ≡ block_at parts.blocks b → IsReady parts b (statement_of s)
  IsReady-read parts b program h e =
      let within' : i < length (statements_of statements) = omega (arith, length-map statements statement_of) in
      ready_by_rules parts b (statement_of s) h
      (rules_read parts program b i (statement_of s) (rw e at within') (rw e at statement_read))

-- ---- a block

-- nothing is done at its start
pub LeadsTo-block : (parts : Parts) → IsProgram parts → (b n : ℕ) (statements : List Stmt) (here : Standing) →
    statements_of statements ≡ block_at parts.blocks b →
    LeadsTo (run (tree_of parts.blocks b) n) (run (tree_over (tree_of parts.blocks) (statements_of statements)) n) here
    here
LeadsTo-block parts program b n statements here e =
    rw (tree_of_block parts program b, e) (LeadsTo-refl
    (run (tree_over (tree_of parts.blocks) (block_at parts.blocks b)) n) here)

module _ (whole : Next → Next) (inner : ℕ → Tree) (n : ℕ) (statements : List Stmt) (i : ℕ) (s : Stmt)
    (here before after : Standing) (within : i < length statements) (read : s ≡ get_or statements i s)
    (so_far : LeadsTo whole (run (tree_over inner (drop i (statements_of statements))) n) here before) where
  so_far_left : LeadsTo whole (run (tree_over inner (statement_of s ∷ drop (i + 1) (statements_of statements))) n) here
      before
  so_far_left = rw (statements_left statements i s within read) at so_far

  pub LeadsTo-statement : LeadsTo (run (tree_over inner (statement_of s ∷ [])) n) (goes_on None) before after →
      LeadsTo whole (run (tree_over inner (drop (i + 1) (statements_of statements))) n) here after
  LeadsTo-statement d =
      LeadsTo-trans _ _ _ here before after so_far_left
      (LeadsTo-next inner n (statement_of s) (drop (i + 1) (statements_of statements)) before after d)

  pub LeadsTo-statement_ends : (ending : Ending) →
      LeadsTo (run (tree_over inner (statement_of s ∷ [])) n) (goes_on (Some ending)) before after →
      LeadsTo whole (goes_on (Some ending)) here after
  LeadsTo-statement_ends ending d =
      LeadsTo-trans _ _ _ here before after so_far_left
      (LeadsTo-next_ends inner n (statement_of s) (drop (i + 1) (statements_of statements)) ending before after d)

-- ---- a loop

module _ (whole : Next → Next) (test : Term) (body : Next → Next) (n i : ℕ) (here before after : Standing)
    (below : i < n) (so_far : LeadsTo whole (turns (n - i) test body) here before)
    (on : holds (value test before.variables) ≡ Ok true) where
  turn_left : LeadsTo whole (turns (suc (n - (i + 1))) test body) here before
  turn_left = let e : n - i ≡ suc (n - (i + 1)) = omega arith in rw e at so_far

  pub LeadsTo-one_turn : LeadsTo body (goes_on None) before after →
      LeadsTo whole (turns (n - (i + 1)) test body) here after
  LeadsTo-one_turn d =
      LeadsTo-trans _ _ _ here before after turn_left (LeadsTo-turn test body before (n - (i + 1)) after on d)

  pub LeadsTo-turn_that_ends : (ending : Ending) → LeadsTo body (goes_on (Some ending)) before after →
      LeadsTo whole (goes_on (Some ending)) here after
  LeadsTo-turn_that_ends ending d =
      LeadsTo-trans _ _ _ here before after turn_left
      (LeadsTo-turn_ends test body before (n - (i + 1)) ending after on d)

pub MayRun-does : (parts : Parts) (part left : Next → Next) (before after : Standing) → LeadsTo part left before after →
    MayRun parts before → MayRun parts after
MayRun-does parts part left before after d f =
    record { program = f.program; variables = d.variables ∙ f.variables; lists = d.lists ∙ f.lists }

-- the trees of the blocks
abbrev pub trees : Parts → ℕ → Tree
trees parts = tree_of parts.blocks

-- the body of a loop
abbrev pub body_at : Parts → (block n : ℕ) → Next → Next
body_at parts block n = run (tree_of parts.blocks block) n
