-- What the code's tests of the rules compute, in steps as the code takes them.
use Rattle.kpn_lang.proofs.Common.{◌≡◌, ℕ, zero, suc, ◌+◌, ◌<◌, Bool, true, false, not, ◌&&◌, ◌||◌, cond, List, [], ◌∷◌, ◌++◌, length, Option, Some, None, refl, sym, ◌∙◌, ap, arith, map, drop, get_or, zero-add, list_any, list_all, flat_map, range_with_len, nat_tests, pointwise, slice_get-map, slice_get-get_or, option_and_then, option_map, Vec, Stmt, Term, Num, Var, Neg, Not, BitNot, Bin, Choice, Cell, Statement, statement_of, block_at, statements_of, blocks_of, Parts, nodes, depth, each_statement, inner_blocks, order_to, is_in_order, lacks_a_block, names_from, count_through}
use Rattle.std.specs.Prelude.{nat_eq, nat_lt, nat_le, slice_get}
use Rattle.std.proofs.lemmas.List.Folds.{list_all-map, list_all-append, list_any-append}
use Rattle.std.proofs.lemmas.List.{drop_more, append_assoc, append-nil, get_or-map, length-map}
use Rattle.kpn_lang.proofs.Programs.{count_through-append, neither, any_at, any_blocks}

-- an expression is at least one level deep
pub no_depth_at_zero : (e : Term) → nat_le (depth e) 0 ≡ false
no_depth_at_zero (Num z) = refl
no_depth_at_zero (Var x) = refl
no_depth_at_zero (Neg e) = grind (arith, nat_tests)
no_depth_at_zero (Not e) = grind (arith, nat_tests)
no_depth_at_zero (BitNot e) = grind (arith, nat_tests)
no_depth_at_zero (Bin op a b) = grind (arith, nat_tests)
no_depth_at_zero (Choice c a b) = grind (arith, nat_tests)
no_depth_at_zero (Cell base size e) = grind (arith, nat_tests)

-- and has at least one node
pub some_node : (e : Term) → 0 < nodes e
some_node (Num z) = omega arith
some_node (Var x) = omega arith
some_node (Neg e) = omega arith
some_node (Not e) = omega arith
some_node (BitNot e) = omega arith
some_node (Bin op a b) = omega arith
some_node (Choice c a b) = omega arith
some_node (Cell base size e) = omega arith

-- ---- a test of each statement that the code holds, block after block

-- the statements of all blocks
abbrev pub statements : List (Vec Stmt) → List Stmt
statements blocks = flat_map (λ block. block.items) blocks

-- a test of each, and of some, by the statements that contracts see
pub all_statements : (test : Statement → Bool) (blocks : List (Vec Stmt)) →
    list_all (λ s. test (statement_of s)) (statements blocks) ≡ each_statement test (blocks_of blocks)
all_statements test [] = refl
all_statements test (block ∷ blocks) =
    list_all-append (λ s. test (statement_of s)) block.items (statements blocks)
    ∙ (λ i. sym (list_all-map test statement_of block.items) i && all_statements test blocks i)

list_any-map : {X Y : Type 0} (test : Y → Bool) (f : X → Y) (xs : List X) →
    list_any (λ x. test (f x)) xs ≡ list_any test (map f xs)
list_any-map test f [] = refl
list_any-map test f (x ∷ xs) = ap (λ b. test (f x) || b) (list_any-map test f xs)

pub any_statement : (test : Statement → Bool) (blocks : List (Vec Stmt)) →
    list_any (λ s. test (statement_of s)) (statements blocks) ≡ list_any (list_any test) (blocks_of blocks)
any_statement test [] = refl
any_statement test (block ∷ blocks) =
    list_any-append (λ s. test (statement_of s)) block.items (statements blocks)
    ∙ (λ i. list_any-map test statement_of block.items i || any_statement test blocks i)

-- ---- the blocks inside statements

-- those blocks in the order of their opening braces, each with the blocks inside it
abbrev pub order_of : List (List Statement) → ℕ → List Stmt → List ℕ
order_of blocks levels block = flat_map (order_to blocks levels) (flat_map inner_blocks (statements_of block))

flat_map-append : {X Y : Type 0} (f : X → List Y) (xs ys : List X) →
    flat_map f (xs ++ ys) ≡ flat_map f xs ++ flat_map f ys
flat_map-append f [] ys = refl
flat_map-append f (x ∷ xs) ys =
    ap (λ zs. f x ++ zs) (flat_map-append f xs ys) ∙ sym (append_assoc (f x) (flat_map f xs) (flat_map f ys))

-- a statement and those after it
rest_of : {X Y : Type 0} (f : X → Y) (xs : List X) (i : ℕ) (x : X) → i < length xs → x ≡ get_or xs i x →
    map f (drop i xs) ≡ f x ∷ map f (drop (i + 1) xs)
rest_of f xs i x h e = ap (map f) (drop_more xs i x h) ∙ ap (λ y. f y ∷ map f (drop (i + 1) xs)) (sym e)

-- the count of what is left of a block goes over its next statement, and then over those after it
pub count_through_rest : (blocks : List (List Statement)) (levels : ℕ) (block : List Stmt) (i : ℕ) (s : Stmt)
    (next : ℕ) → i < length block → s ≡ get_or block i s →
    count_through (order_of blocks levels (drop i block)) next
    ≡ option_and_then (count_through (order_of blocks levels (drop (i + 1) block)))
    (count_through (flat_map (order_to blocks levels) (inner_blocks (statement_of s))) next)
count_through_rest blocks levels block i s next h e =
    let rest = flat_map inner_blocks (statements_of (drop (i + 1) block)) in
    ap (λ ss. count_through (flat_map (order_to blocks levels) (flat_map inner_blocks ss)) next)
    (rest_of statement_of block i s h e)
    ∙ ap (λ bs. count_through bs next) (flat_map-append (order_to blocks levels) (inner_blocks (statement_of s)) rest)
    ∙ count_through-append (flat_map (order_to blocks levels) (inner_blocks (statement_of s)))
    (flat_map (order_to blocks levels) rest) next

-- the statements of a block that is there
pub block_read : (blocks : List (Vec Stmt)) (b : ℕ) (block : Vec Stmt) → b < length blocks →
    block ≡ get_or blocks b block → statements_of block.items ≡ block_at (blocks_of blocks) b
block_read blocks b block h e =
    ap (λ v. statements_of v.items) e ∙ sym (get_or-map (λ v. statements_of v.items) blocks b block [] h)

-- no statement names a block that is not there
pub inner_in : (parts : Parts) → lacks_a_block parts ≡ false → (b : ℕ) (block : List Stmt) →
    statements_of block ≡ block_at parts.blocks b →
    (i : ℕ) (s : Stmt) → i < length block → s ≡ get_or block i s →
    names_from (length parts.blocks) (statement_of s) ≡ false
inner_in parts h b block e i s k at =
    let missing = neither (nat_lt (length parts.blocks) 1)
    (list_any (list_any (names_from (length parts.blocks))) parts.blocks) h in
    any_at (names_from (length parts.blocks)) (block_at parts.blocks b) i (statement_of s)
    (any_blocks (list_any (names_from (length parts.blocks))) parts.blocks b missing.1 refl)
    (ap (λ ss. slice_get ss i) (sym e) ∙ slice_get-map statement_of block i
    ∙ ap (option_map statement_of) (slice_get-get_or block i s k ∙ ap (λ x. Some x) (sym at)))

-- the same, read in the code's program
pub inner_read : (parts : Parts) (blocks : List (Vec Stmt)) → parts.blocks ≡ blocks_of blocks →
    lacks_a_block parts ≡ false →
    (b : ℕ) (block : Vec Stmt) (items : List Stmt) → b < length parts.blocks → block ≡ get_or blocks b block →
    items ≡ block.items →
    (i : ℕ) (s : Stmt) → i < length items → s ≡ get_or items i s →
    names_from (length parts.blocks) (statement_of s) ≡ false
inner_read parts blocks same h b block items k at held i s within e =
    let long : b < length blocks = omega (arith, ap length same, length-map blocks (λ v. statements_of v.items)) in
    let read : statements_of items ≡ block_at parts.blocks b =
    ap (λ xs. statements_of xs) held ∙ block_read blocks b block long at ∙ ap (λ bs. block_at bs b) (sym same) in
    inner_in parts h b items read i s within e

-- one block after the other
pub count_through_pair : (xs ys : List ℕ) (next : ℕ) →
    count_through (xs ++ (ys ++ [])) next ≡ option_and_then (count_through ys) (count_through xs next)
count_through_pair xs ys next =
    ap (λ zs. count_through (xs ++ zs) next) (append-nil ys) ∙ count_through-append xs ys next

-- ---- the order of the blocks, by the count

-- a count that came to this number
abbrev pub ends_at : ℕ → Option ℕ → Bool
ends_at m None = false
ends_at m (Some end) = nat_eq end m

-- a count never comes to a number below its start
ends_past : (bs : List ℕ) (a m : ℕ) → m < a → ends_at m (count_through bs a) ≡ false
ends_past [] a m h = grind (arith, nat_tests)
ends_past (b ∷ bs) a m h =
    elim (nat_eq b a) as (λ t. ends_at m (cond t (count_through bs (a + 1)) None) ≡ false)
    [ true ↦ ends_past bs (a + 1) m (omega arith) | false ↦ refl ]

-- a list is a, a + 1, .., a + k - 1 if and only if its count from a comes to a + k
pub in_order : (bs : List ℕ) (a k : ℕ) → ends_at (a + k) (count_through bs a) ≡ pointwise nat_eq bs (range_with_len a k)
in_order [] a zero = grind (arith, nat_tests)
in_order [] a (suc k) = grind (arith, nat_tests)
in_order (b ∷ bs) a zero =
    elim (nat_eq b a) as (λ t. ends_at (a + 0) (cond t (count_through bs (a + 1)) None) ≡ false)
    [ true ↦ ends_past bs (a + 1) (a + 0) (omega arith) | false ↦ refl ]
in_order (b ∷ bs) a (suc k) =
    let sum : a + 1 + k ≡ a + suc k = omega arith in
    let rest : ends_at (a + suc k) (count_through bs (a + 1)) ≡ pointwise nat_eq bs (range_with_len (a + 1) k) =
    ap (λ m. ends_at m (count_through bs (a + 1))) (sym sum) ∙ in_order bs (a + 1) k in
    elim (nat_eq b a) as (λ t. ends_at (a + suc k) (cond t (count_through bs (a + 1)) None)
    ≡ (t && pointwise nat_eq bs (range_with_len (a + 1) k))) [ true ↦ rest | false ↦ refl ]

-- what the code's count says of the order
pub order_read : (parts : Parts) (count : ℕ) (o : Option ℕ) → count ≡ length parts.blocks →
    o ≡ count_through (order_to parts.blocks count 0) 0 → ends_at count o ≡ is_in_order parts
order_read parts count o same e =
    let n = length parts.blocks in
    ap (ends_at count) e
    ∙ ap (λ m. ends_at m (count_through (order_to parts.blocks m 0) 0)) same
    ∙ ap (λ m. ends_at m (count_through (order_to parts.blocks n 0) 0)) (sym (zero-add n))
    ∙ in_order (order_to parts.blocks n 0) 0 n

-- ---- levels

-- if the blocks are within their levels, the expressions decide
pub too_deep : (within all : Bool) → within ≡ true → not all ≡ (not within || not all)
too_deep true all h = refl
too_deep false all h = absurd (cc)
