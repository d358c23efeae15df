-- What it means for the blocks and statements of a program that it keeps the rules, for the layers above.
use Rattle.kpn_lang.proofs.Common.{◌≡◌, ℕ, zero, suc, ◌+◌, ◌<◌, ◌≤◌, Bool, true, false, not, ◌&&◌, ◌||◌, cond, List, [], ◌∷◌, ◌++◌, length, max, Option, Some, None, refl, sym, ◌∙◌, ap, subst, arith, inl, inr, eqb, bytes_decides, option_and_then, nat_tests, cases_lt, get_or_past, same_Some, option_and_then_some, slice_get-get_or, MAX_VARIABLES, MAX_CELLS, MAX_PORTS, MAX_LEVELS, TooMany, NoSuchBlock, BlockOrder, NoSuchVar, NoSuchPort, TooDeep, Parts, IsProgram, inner_blocks, children, order_to, is_in_order, is_within, is_too_large, names_from, lacks_a_block, each_statement, is_there, names_its_own, names_ports_below, nests_too_deep, count_through, vars_with}
use Rattle.std.specs.Prelude.{nat_lt, nat_le, slice_index_or, slice_get}
use Rattle.std.specs.List.{list_any, list_all, flat_map, range_with_len, AllByRecursion as Each}
use Rattle.kpn_lang.specs.declared.program.ProgramFault.{ProgramFault}
use Rattle.kpn_lang.specs.Syntax.{Term, Statement, Assign, Read, Write, If, While, Set, lies_within}
use Rattle.kpn_lang.specs.Tree as tree
use Rattle.kpn_lang.specs.Tree.{Tree, End, tree_over, block_at, tree_to, tree_of}

-- ---- the rules one by one

-- each rule by itself
pub record Kept (parts : Parts) : Type 0 where
  pub small : is_too_large parts ≡ false
  pub blocks : lacks_a_block parts ≡ false
  pub ordered : is_in_order parts ≡ true
  pub names : each_statement (names_its_own parts) parts.blocks ≡ true
  pub ports : each_statement (names_ports_below parts.ins parts.outs) parts.blocks ≡ true
  pub shallow : nests_too_deep parts ≡ false

none : (fault : ProgramFault) {A : Type 0} → ◌≡◌ {A = Option ProgramFault} (Some fault) None → A
none fault h = absurd (cc)

chain : (large lacks ordered names ports deep : Bool) →
    (cond large (Some TooMany) (cond lacks (Some NoSuchBlock)
    (cond (not ordered) (Some BlockOrder) (cond (not names) (Some NoSuchVar)
    (cond (not ports) (Some NoSuchPort) (cond deep (Some TooDeep) None)))))) ≡ None →
    (large ≡ false) × (lacks ≡ false) × (ordered ≡ true) × (names ≡ true) × (ports ≡ true) × (deep ≡ false)
chain false false true true true false h = (refl, refl, refl, refl, refl, refl)
chain true _ _ _ _ _ h = none TooMany h
chain false true _ _ _ _ h = none NoSuchBlock h
chain false false false _ _ _ h = none BlockOrder h
chain false false true false _ _ h = none NoSuchVar h
chain false false true true false _ h = none NoSuchPort h
chain false false true true true true h = none TooDeep h

pub kept : (parts : Parts) → IsProgram parts → Kept parts
kept parts h =
    let each = chain (is_too_large parts) (lacks_a_block parts) (is_in_order parts)
    (each_statement (names_its_own parts) parts.blocks)
    (each_statement (names_ports_below parts.ins parts.outs) parts.blocks) (nests_too_deep parts) h.sound in
    record { small = each.0; blocks = each.1; ordered = each.2; names = each.3; ports = each.4; shallow = each.5 }

-- ---- tests of lists, at their elements

pub both : (a b : Bool) → (a && b) ≡ true → (a ≡ true) × (b ≡ true)
both true b h = (refl, h)
both false b h = absurd (cc)

pub neither : (a b : Bool) → (a || b) ≡ false → (a ≡ false) × (b ≡ false)
neither false b h = (refl, h)
neither true b h = absurd (cc)

all_at : {X : Type 0} (test : X → Bool) (xs : List X) (i : ℕ) (x : X) → list_all test xs ≡ true →
    slice_get xs i ≡ Some x → test x ≡ true
all_at test [] i x h e = absurd (cc)
all_at test (y ∷ ys) zero x h e = subst (λ z. test z ≡ true) (same_Some y x e) (both (test y) _ h).0
all_at test (y ∷ ys) (suc i) x h e = all_at test ys i x (both (test y) _ h).1 e

pub any_at : {X : Type 0} (test : X → Bool) (xs : List X) (i : ℕ) (x : X) → list_any test xs ≡ false →
    slice_get xs i ≡ Some x → test x ≡ false
any_at test [] i x h e = absurd (cc)
any_at test (y ∷ ys) zero x h e = subst (λ z. test z ≡ false) (same_Some y x e) (neither (test y) _ h).0
any_at test (y ∷ ys) (suc i) x h e = any_at test ys i x (neither (test y) _ h).1 e

-- what holds of each block, and of no statements at all, holds of a block that may not be there
all_blocks : (test : List Statement → Bool) (blocks : List (List Statement)) (b : ℕ) → list_all test blocks ≡ true →
    test [] ≡ true → test (block_at blocks b) ≡ true
all_blocks test [] b h empty = empty
all_blocks test (x ∷ xs) zero h empty = (both (test x) _ h).0
all_blocks test (x ∷ xs) (suc b) h empty = all_blocks test xs b (both (test x) _ h).1 empty

pub any_blocks : (test : List Statement → Bool) (blocks : List (List Statement)) (b : ℕ) →
    list_any test blocks ≡ false → test [] ≡ false → test (block_at blocks b) ≡ false
any_blocks test [] b h empty = empty
any_blocks test (x ∷ xs) zero h empty = (neither (test x) _ h).0
any_blocks test (x ∷ xs) (suc b) h empty = any_blocks test xs b (neither (test x) _ h).1 empty

each_at : (test : Statement → Bool) (blocks : List (List Statement)) (b i : ℕ) (s : Statement) →
    each_statement test blocks ≡ true → slice_get (block_at blocks b) i ≡ Some s → test s ≡ true
each_at test blocks b i s h e = all_at test (block_at blocks b) i s (all_blocks (list_all test) blocks b h refl) e

-- ---- a fact of each element, by recursion on the list

each_weaker : {X : Type 0} (P Q : X → Type 0) → ((x : X) → P x → Q x) → (xs : List X) → Each P xs → Each Q xs
each_weaker P Q f [] h = h
each_weaker P Q f (x ∷ xs) h = (f x h.0, each_weaker P Q f xs h.1)

each_front : {X : Type 0} (P : X → Type 0) (xs ys : List X) → Each P (xs ++ ys) → Each P xs
each_front P [] ys h = tt
each_front P (x ∷ xs) ys h = (h.0, each_front P xs ys h.1)

each_back : {X : Type 0} (P : X → Type 0) (xs ys : List X) → Each P (xs ++ ys) → Each P ys
each_back P [] ys h = h
each_back P (x ∷ xs) ys h = each_back P xs ys h.1

each_flat : {X Y : Type 0} (P : Y → Type 0) (f : X → List Y) (xs : List X) (i : ℕ) (x : X) → Each P (flat_map f xs) →
    slice_get xs i ≡ Some x → Each P (f x)
each_flat P f [] i x h e = absurd (cc)
each_flat P f (y ∷ ys) zero x h e = subst (λ z. Each P (f z)) (same_Some y x e) (each_front P (f y) (flat_map f ys) h)
each_flat P f (y ∷ ys) (suc i) x h e = each_flat P f ys i x (each_back P (f y) (flat_map f ys) h) e

each_passes : {X : Type 0} (test : X → Bool) (xs : List X) → list_all test xs ≡ true → Each (λ x. test x ≡ true) xs
each_passes test [] h = tt
each_passes test (x ∷ xs) h = let p = both (test x) (list_all test xs) h in (p.0, each_passes test xs p.1)

-- ---- the numbers of the blocks: each is above that of the block around it

pub count_through-append : (xs ys : List ℕ) (next : ℕ) →
    count_through (xs ++ ys) next ≡ option_and_then (count_through ys) (count_through xs next)
count_through-append [] ys next = refl
count_through-append (x ∷ xs) ys next =
    elim (eqb x next) as (λ t. cond t (count_through (xs ++ ys) (next + 1)) None
    ≡ option_and_then (count_through ys) (cond t (count_through xs (next + 1)) None))
    [ true ↦ count_through-append xs ys (next + 1) | false ↦ refl ]

count_through-range : (a k : ℕ) → count_through (range_with_len a k) a ≡ Some (a + k)
count_through-range a zero = grind arith
count_through-range a (suc k) =
    let rest = count_through-range (a + 1) k in
    let here : eqb a a ≡ true = grind (arith, nat_tests) in
    let sum : a + 1 + k ≡ a + suc k = omega arith in
    rw here (rest ∙ ap (λ n. Some n) sum)

-- an option that is chosen and is there
chosen : (test : Bool) (o : Option ℕ) (m : ℕ) → cond test o None ≡ Some m → (test ≡ true) × (o ≡ Some m)
chosen true o m h = (refl, h)
chosen false o m h = absurd (cc)

module _ (blocks : List (List Statement)) where
  abbrev IsNested : ℕ → Type 0
  IsNested b = Each (λ c. b < c) (children blocks b)

  past_is_nested : (b : ℕ) → length blocks ≤ b → IsNested b
  past_is_nested b h =
      let none = get_or_past blocks b [] h in subst (λ block. Each (λ c. b < c) (flat_map inner_blocks block))
      (sym none) tt

  -- blocks that were counted from a number up to another
  record Walked (bs : List ℕ) (next end : ℕ) : Type 0 where
    above : Each (λ b. next ≤ b) bs
    rises : next ≤ end
    nested : (x : ℕ) → next ≤ x → x < end → IsNested x

  record WalkedOne (b next end : ℕ) : Type 0 where
    here : b ≡ next
    rises : next < end
    nested : (x : ℕ) → next ≤ x → x < end → IsNested x

  walked_list : (levels : ℕ) →
      ((b next end : ℕ) → length blocks ≤ levels + next → count_through (order_to blocks levels b) next ≡ Some end →
      WalkedOne b next end) →
      (bs : List ℕ) (next end : ℕ) → length blocks ≤ levels + next →
      count_through (flat_map (order_to blocks levels) bs) next ≡ Some end → Walked bs next end
  walked_list levels one [] next end h e =
      let same = same_Some next end e in
      record { above = tt; rises = omega arith; nested = λ x low high. absurd (omega arith) }
  walked_list levels one (b ∷ bs) next end h e =
      option_and_then_some (count_through (flat_map (order_to blocks levels) bs))
      (count_through (order_to blocks levels b) next) end
      (sym (count_through-append (order_to blocks levels b) (flat_map (order_to blocks levels) bs) next) ∙ e)
      (λ middle first rest.
      let w = one b next middle h first in
      let rises = w.rises in
      let here = w.here in
      let v = walked_list levels one bs middle end (omega arith) rest in
      let on = v.rises in
      record {
        above = (omega arith, each_weaker (λ x. middle ≤ x) (λ x. next ≤ x) (λ x k. omega arith) bs v.above);
        rises = omega arith;
        nested = λ x low high. elim (cases_lt x middle) [ inl k ↦ w.nested x low k | inr k ↦ v.nested x k high ];
      })

  walked_one : (levels b next end : ℕ) → length blocks ≤ levels + next →
      count_through (order_to blocks levels b) next ≡ Some end → WalkedOne b next end
  walked_one zero b next end h e =
      let p = chosen (eqb b next) (Some (next + 1)) end e in
      let here : b ≡ next = grind (arith, nat_tests, p.0) in
      let same = same_Some (next + 1) end p.1 in
      record { here = here; rises = omega arith; nested = λ x low high. past_is_nested x (omega arith) }
  walked_one (suc levels) b next end h e =
      let p = chosen (eqb b next) (count_through (flat_map (order_to blocks levels) (children blocks b)) (next + 1))
      end e in
      let here : b ≡ next = grind (arith, nat_tests, p.0) in
      let w = walked_list levels (walked_one levels) (children blocks b) (next + 1) end (omega arith) p.1 in
      let rises = w.rises in
      record {
        here = here;
        rises = omega arith;
        nested = λ x low high. elim (cases_lt next x) [
          | inl k ↦ w.nested x (omega arith) high
          | inr k ↦ let same : b ≡ x =
              omega arith in subst IsNested same (each_weaker (λ c. next + 1 ≤ c) (λ c. b < c) (λ c k. omega arith)
              (children blocks b) w.above)
        ];
      }

pub nested : (parts : Parts) → IsProgram parts → (b : ℕ) → Each (λ c. b < c) (children parts.blocks b)
nested parts h b =
    let n = length parts.blocks in
    let order = order_to parts.blocks n 0 in
    let counts_up : order ≡ range_with_len 0 n = (bytes_decides order (range_with_len 0 n)).0 (kept parts h).ordered in
    let ends : count_through order 0 ≡ Some (0 + n) =
    ap (λ xs. count_through xs 0) counts_up ∙ count_through-range 0 n in
    let w = walked_one parts.blocks n 0 0 (0 + n) (omega arith) ends in
    elim (cases_lt b n) [ inl k ↦ w.nested b (omega arith) (omega arith) | inr k ↦ past_is_nested parts.blocks b k ]

-- ---- the statement at a place of a block

-- what the rules say of a statement of block b
abbrev pub KeepsRules : Parts → ℕ → Statement → Type 0
KeepsRules p b (Assign x e) = (x < p.vars) × (is_there p e ≡ true)
KeepsRules p b (Read i x) = (i < p.ins) × (x < p.vars)
KeepsRules p b (Write o e) = (o < p.outs) × (is_there p e ≡ true)
KeepsRules p b (If e a c) =
    (is_there p e ≡ true) × (b < a) × (a < length p.blocks) × (b < c) × (c < length p.blocks)
KeepsRules p b (While e c) = (is_there p e ≡ true) × (b < c) × (c < length p.blocks)
KeepsRules p b (Set base size i e) =
    (p.vars ≤ base) × (base + size ≤ p.vars + p.free) × (is_there p i ≡ true) × (is_there p e ≡ true)

below : (a b : ℕ) → nat_lt a b ≡ true → a < b
below a b h = grind (arith, nat_tests, h)

pub not_past : (a b : ℕ) → nat_le a b ≡ false → b < a
not_past a b h = grind (arith, nat_tests, h)

up_to : (a b : ℕ) → nat_le a b ≡ true → a ≤ b
up_to a b h = grind (arith, nat_tests, h)

-- the first number and the end of a row of cells
pub row_within : (n m base size : ℕ) → lies_within n m base size ≡ true → (n ≤ base) × (base + size ≤ m)
row_within n m base size h =
    let h' = both (nat_le n base) (nat_le (base + size) m) h in (up_to n base h'.0, up_to (base + size) m h'.1)

-- what the rules say of a row of cells that is set
pub set_rules : (p : Parts) (base size : ℕ) (i e : Term) → names_its_own p (Set base size i e) ≡ true →
    (p.vars ≤ base) × (base + size ≤ p.vars + p.free) × (is_there p i ≡ true) × (is_there p e ≡ true)
set_rules p base size i e names =
    let whole = both (lies_within p.vars (p.vars + p.free) base size && is_there p i) (is_there p e) names in
    let front = both (lies_within p.vars (p.vars + p.free) base size) (is_there p i) whole.0 in
    let row = row_within p.vars (p.vars + p.free) base size front.0 in
    (row.0, row.1, front.1, whole.1)

rules_of : (p : Parts) (b : ℕ) (s : Statement) → names_its_own p s ≡ true →
    names_ports_below p.ins p.outs s ≡ true →
    names_from (length p.blocks) s ≡ false → Each (λ c. b < c) (inner_blocks s) → KeepsRules p b s
rules_of p b (Assign x e) names ports there above =
    let v = both (nat_lt x p.vars) (is_there p e) names in (below x p.vars v.0, v.1)
rules_of p b (Read i x) names ports there above = (below i p.ins ports, below x p.vars names)
rules_of p b (Write o e) names ports there above = (below o p.outs ports, names)
rules_of p b (If e a c) names ports there above =
    let first = neither (nat_le (length p.blocks) a) (nat_le (length p.blocks) c || false) there in
    let second = neither (nat_le (length p.blocks) c) false first.1 in
    (names, above.0, not_past (length p.blocks) a first.0, above.1.0, not_past (length p.blocks) c second.0)
rules_of p b (While e c) names ports there above =
    let inner = neither (nat_le (length p.blocks) c) false there in
    (names, above.0, not_past (length p.blocks) c inner.0)
rules_of p b (Set base size i e) names ports there above = set_rules p base size i e names

pub rules_at : (parts : Parts) → IsProgram parts → (b i : ℕ) (s : Statement) →
    slice_get (block_at parts.blocks b) i ≡ Some s → KeepsRules parts b s
rules_at parts h b i s e =
    let k = kept parts h in
    let missing = neither (nat_lt (length parts.blocks) 1)
    (list_any (list_any (names_from (length parts.blocks))) parts.blocks) k.blocks in
    rules_of parts b s
    (each_at (names_its_own parts) parts.blocks b i s k.names e)
    (each_at (names_ports_below parts.ins parts.outs) parts.blocks b i s k.ports e)
    (any_at (names_from (length parts.blocks)) (block_at parts.blocks b) i s
    (any_blocks (list_any (names_from (length parts.blocks))) parts.blocks b missing.1 refl) e)
    (each_flat (λ c. b < c) inner_blocks (block_at parts.blocks b) i s (nested parts h b) e)

-- the statement that was read at a place
read_at : {X : Type 0} (xs : List X) (i : ℕ) (x : X) → i < length xs → slice_index_or xs i x ≡ x →
    slice_get xs i ≡ Some x
read_at xs i x h e = slice_get-get_or xs i x h ∙ ap (λ y. Some y) e

pub rules_read : (parts : Parts) → IsProgram parts → (b i : ℕ) (s : Statement) → i < length (block_at parts.blocks b) →
    slice_index_or (block_at parts.blocks b) i s ≡ s → KeepsRules parts b s
rules_read parts h b i s k e = rules_at parts h b i s (read_at (block_at parts.blocks b) i s k e)

-- ---- levels

-- the blocks inside a statement go down at most this many levels
abbrev pub AreWithin : List (List Statement) → ℕ → Statement → Type 0
AreWithin blocks levels (Assign x e) = Unit {0}
AreWithin blocks levels (Read i x) = Unit {0}
AreWithin blocks levels (Write o e) = Unit {0}
AreWithin blocks levels (If e a c) = (is_within blocks levels a ≡ true) × (is_within blocks levels c ≡ true)
AreWithin blocks levels (While e c) = is_within blocks levels c ≡ true
AreWithin blocks levels (Set base size i e) = Unit {0}

within_of : (blocks : List (List Statement)) (levels : ℕ) (s : Statement) →
    Each (λ c. is_within blocks levels c ≡ true) (inner_blocks s) → AreWithin blocks levels s
within_of blocks levels (Assign x e) h = tt
within_of blocks levels (Read i x) h = tt
within_of blocks levels (Write o e) h = tt
within_of blocks levels (If e a c) h = (h.0, h.1.0)
within_of blocks levels (While e c) h = h.0
within_of blocks levels (Set base size i e) h = tt

pub within_at : (blocks : List (List Statement)) (levels b i : ℕ) (s : Statement) →
    is_within blocks (suc levels) b ≡ true → slice_get (block_at blocks b) i ≡ Some s → AreWithin blocks levels s
within_at blocks levels b i s h e =
    within_of blocks levels s (each_flat (λ c. is_within blocks levels c ≡ true) inner_blocks (block_at blocks b) i s
    (each_passes (is_within blocks levels) (children blocks b) h) e)

pub within_read : (blocks : List (List Statement)) (levels b i : ℕ) (s : Statement) →
    is_within blocks (suc levels) b ≡ true → i < length (block_at blocks b) →
    slice_index_or (block_at blocks b) i s ≡ s → AreWithin blocks levels s
within_read blocks levels b i s h k e = within_at blocks levels b i s h (read_at (block_at blocks b) i s k e)

pub within_positive : (blocks : List (List Statement)) (levels b : ℕ) → is_within blocks levels b ≡ true → 0 < levels
within_positive blocks zero b h = absurd (cc)
within_positive blocks (suc levels) b h = omega arith

not_false : (a : Bool) → not a ≡ false → a ≡ true
not_false true h = refl
not_false false h = absurd (cc)

pub within_body : (parts : Parts) → IsProgram parts → is_within parts.blocks MAX_LEVELS 0 ≡ true
within_body parts h =
    not_false (is_within parts.blocks MAX_LEVELS 0)
    (neither (not (is_within parts.blocks MAX_LEVELS 0)) _ (kept parts h).shallow).0

-- ---- the body, and the limits

pub has_body : (parts : Parts) → IsProgram parts → 0 < length parts.blocks
has_body parts h =
    let there = (neither (nat_lt (length parts.blocks) 1) _ (kept parts h).blocks).0 in grind (arith, nat_tests, there)

pub record Limits (parts : Parts) : Type 0 where
  pub variables : parts.vars ≤ MAX_VARIABLES
  pub ins : parts.ins ≤ MAX_PORTS
  pub outs : parts.outs ≤ MAX_PORTS
  pub cells : parts.free + length parts.tables ≤ MAX_CELLS

not_above : (limit n : ℕ) → nat_lt limit n ≡ false → n ≤ limit
not_above limit n h = grind (arith, nat_tests, h)

pub limits_kept : (parts : Parts) → is_too_large parts ≡ false → Limits parts
limits_kept parts h =
    let vars = nat_lt MAX_VARIABLES parts.vars in
    let ins = nat_lt MAX_PORTS parts.ins in
    let outs = nat_lt MAX_PORTS parts.outs in
    let cells = nat_lt MAX_CELLS (parts.free + length parts.tables) in
    let all = neither (vars || ins || outs || cells) _ h in
    let front = neither (vars || ins || outs) cells all.0 in
    let ports = neither (vars || ins) outs front.0 in
    let variables = neither vars ins ports.0 in
    record {
      variables = not_above MAX_VARIABLES parts.vars variables.0;
      ins = not_above MAX_PORTS parts.ins variables.1;
      outs = not_above MAX_PORTS parts.outs ports.1;
      cells = not_above MAX_CELLS (parts.free + length parts.tables) front.1;
    }

pub limits : (parts : Parts) → IsProgram parts → Limits parts
limits parts h =
    limits_kept parts (kept parts h).small

-- ---- the number of variables

with_cells : (named cells : ℕ) → vars_with named (suc cells) ≡ max named MAX_VARIABLES
with_cells named cells =
    let some : eqb (suc cells) 0 ≡ false = grind (arith, nat_tests) in
    ap (λ b. cond b named (max named MAX_VARIABLES)) some

pub at_least_named : (named cells : ℕ) → named ≤ vars_with named cells
at_least_named named zero = omega arith
at_least_named named (suc cells) = omega (arith, with_cells named cells)

-- fewer variables than cells have before them
pub apart_by_number : (named cells : ℕ) → vars_with named cells < MAX_VARIABLES → cells ≡ 0
apart_by_number named zero h = refl
apart_by_number named (suc cells) h = absurd (omega (arith, h, with_cells named cells))

-- ---- the tree of a block is the block with each child replaced by its tree

tree_over-same : (f g : ℕ → Tree) (block : List Statement) → Each (λ c. f c ≡ g c) (flat_map inner_blocks block) →
    tree_over f block ≡ tree_over g block
tree_over-same f g [] h = refl
tree_over-same f g (Assign x e ∷ rest) h = ap (λ t. tree.Assign x e t) (tree_over-same f g rest h)
tree_over-same f g (Read i x ∷ rest) h = ap (λ t. tree.Read i x t) (tree_over-same f g rest h)
tree_over-same f g (Write o e ∷ rest) h = ap (λ t. tree.Write o e t) (tree_over-same f g rest h)
tree_over-same f g (If e a c ∷ rest) h = λ k. tree.If e (h.0 k) (h.1.0 k) (tree_over-same f g rest h.1.1 k)
tree_over-same f g (While e c ∷ rest) h = λ k. tree.While e (h.0 k) (tree_over-same f g rest h.1 k)
tree_over-same f g (Set base size i e ∷ rest) h = ap (λ t. tree.Set base size i e t) (tree_over-same f g rest h)

module _ (blocks : List (List Statement)) (nest : (b : ℕ) → Each (λ c. b < c) (children blocks b)) where
  -- a block that is not there has no statements
  tree_to-past : (levels b : ℕ) → length blocks ≤ b → tree_to blocks levels b ≡ End
  tree_to-past zero b h = refl
  tree_to-past (suc levels) b h = ap (tree_over (tree_to blocks levels)) (get_or_past blocks b [] h)

  -- more levels than there are blocks from this one on change nothing
  tree_to-same : (levels more b : ℕ) → length blocks ≤ levels + b → length blocks ≤ more + b →
      tree_to blocks levels b ≡ tree_to blocks more b
  tree_to-same zero more b h k = sym (tree_to-past more b (omega arith))
  tree_to-same (suc levels) zero b h k = tree_to-past (suc levels) b (omega arith)
  tree_to-same (suc levels) (suc more) b h k =
      tree_over-same (tree_to blocks levels) (tree_to blocks more) (block_at blocks b)
      (each_weaker (λ c. b < c) (λ c. tree_to blocks levels c ≡ tree_to blocks more c)
      (λ c above. tree_to-same levels more c (omega arith) (omega arith)) (children blocks b) (nest b))

pub tree_of_block : (parts : Parts) → IsProgram parts → (b : ℕ) →
    tree_of parts.blocks b ≡ tree_over (tree_of parts.blocks) (block_at parts.blocks b)
tree_of_block parts h b =
    let n = length parts.blocks in
    tree_to-same parts.blocks (nested parts h) n (suc n) b (omega arith) (omega arith)
