-- The blocks of a tree, put together again by their numbers, are the tree.
use Rattle.kpn_text_names.proofs.Common.{◌≡◌, ℕ, zero, suc, ◌+◌, ◌≤◌, List, [], ◌∷◌, ◌++◌, length, refl, sym, ap, ◌∙◌, append_assoc, append-nil, length-append, arith, get_or-append_seam, Tree, End, Assign, Read, Write, If, While, Set, tree_over, tree_to, tree_of, block_at, blocks_in, own, inner, body_blocks}
use Rattle.kpn_lang.specs.Syntax as lang
use Rattle.kpn_text_names.proofs.Writing.{length-inner}

abbrev Blocks : Type 0
Blocks = List (List lang.Statement)

-- the block that comes after these
block_there : (all before after : Blocks) (block : List lang.Statement) (n : ℕ) → all ≡ before ++ (block ∷ after)
    → length before ≡ n → block_at all n ≡ block
block_there all before after block n is at = rw (is, ← at) (get_or-append_seam before block after [])

-- what is in a block and inside it, with what comes before and after that
next_block : (before inside after : Blocks) (block : List lang.Statement)
    → before ++ ((block ∷ inside) ++ after) ≡ (before ++ block ∷ []) ++ (inside ++ after)
next_block before inside after block = sym (append_assoc before (block ∷ []) (inside ++ after))

behind : (before inside after : Blocks) → before ++ (inside ++ after) ≡ (before ++ inside) ++ after
behind before inside after = sym (append_assoc before inside after)

length_one_more : (before : Blocks) (block : List lang.Statement) (n : ℕ) → length before ≡ n
    → length (before ++ block ∷ []) ≡ suc n
length_one_more before block n at = simp length-append (omega arith)

length_behind : (before : Blocks) (a : Tree) (n : ℕ) → length before ≡ n
    → length (before ++ own (suc n) a ∷ inner (suc n) a) ≡ n + suc (blocks_in a)
length_behind before a n at = let p : length (inner (suc n) a) ≡ blocks_in a =
    length-inner (suc n) a in simp length-append (omega (arith, p))

tree_at : (t : Tree) (all : Blocks) (n levels : ℕ) (before after : Blocks) → all ≡ before ++ (inner n t ++ after)
    → length before ≡ n → blocks_in t ≤ levels
    → tree_over (tree_to all levels) (own n t) ≡ t
tree_at End all n levels before after is at fits = refl
tree_at (Assign x e rest) all n levels before after is at fits =
    ap (Assign x e) (tree_at rest all n levels before after is at fits)
tree_at (Read i x rest) all n levels before after is at fits =
    ap (Read i x) (tree_at rest all n levels before after is at fits)
tree_at (Write o e rest) all n levels before after is at fits =
    ap (Write o e) (tree_at rest all n levels before after is at fits)
tree_at (Set base size i e rest) all n levels before after is at fits =
    ap (Set base size i e) (tree_at rest all n levels before after is at fits)
tree_at (If e a b rest) all n zero before after is at fits = absurd (omega arith)
tree_at (If e a b rest) all n (suc levels) before after is at fits =
    let m : ℕ = n + suc (blocks_in a) in
    let k : ℕ = m + suc (blocks_in b) in
    let first : Blocks = own (suc n) a ∷ inner (suc n) a in
    let second : Blocks = own (suc m) b ∷ inner (suc m) b in
    let third : Blocks = inner k rest in
    let all_first : all ≡ before ++ (first ++ (second ++ (third ++ after))) =
    is ∙ ap (λ l. before ++ l)
    (append_assoc first (second ++ third) after ∙ ap (λ l. first ++ l) (append_assoc second third after)) in
    let all_second : all ≡ (before ++ first) ++ (second ++ (third ++ after)) =
    all_first ∙ behind before first (second ++ (third ++ after)) in
    let all_third : all ≡ ((before ++ first) ++ second) ++ (third ++ after) =
    all_second ∙ behind (before ++ first) second (third ++ after) in
    let at_m : length (before ++ first) ≡ m = length_behind before a n at in
    let at_k : length ((before ++ first) ++ second) ≡ k = length_behind (before ++ first) b m at_m in
    let tree_a : tree_to all (suc levels) n ≡ a =
    ap (tree_over (tree_to all levels))
    (block_there all before (inner (suc n) a ++ (second ++ (third ++ after))) (own (suc n) a) n all_first at)
    ∙ tree_at a all (suc n) levels (before ++ own (suc n) a ∷ []) (second ++ (third ++ after))
    (all_first ∙ next_block before (inner (suc n) a) (second ++ (third ++ after)) (own (suc n) a))
    (length_one_more before (own (suc n) a) n at) (omega arith) in
    let tree_b : tree_to all (suc levels) m ≡ b =
    ap (tree_over (tree_to all levels))
    (block_there all (before ++ first) (inner (suc m) b ++ (third ++ after)) (own (suc m) b) m all_second at_m)
    ∙ tree_at b all (suc m) levels ((before ++ first) ++ own (suc m) b ∷ []) (third ++ after)
    (all_second ∙ next_block (before ++ first) (inner (suc m) b) (third ++ after) (own (suc m) b))
    (length_one_more (before ++ first) (own (suc m) b) m at_m) (omega arith) in
    let tree_rest : tree_over (tree_to all (suc levels)) (own k rest) ≡ rest =
    tree_at rest all k (suc levels) ((before ++ first) ++ second) after all_third at_k (omega arith) in
    λ i. If e (tree_a i) (tree_b i) (tree_rest i)
tree_at (While e a rest) all n zero before after is at fits = absurd (omega arith)
tree_at (While e a rest) all n (suc levels) before after is at fits =
    let m : ℕ = n + suc (blocks_in a) in
    let first : Blocks = own (suc n) a ∷ inner (suc n) a in
    let third : Blocks = inner m rest in
    let all_first : all ≡ before ++ (first ++ (third ++ after)) =
    is ∙ ap (λ l. before ++ l) (append_assoc first third after) in
    let all_third : all ≡ (before ++ first) ++ (third ++ after) = all_first ∙ behind before first (third ++ after) in
    let tree_a : tree_to all (suc levels) n ≡ a =
    ap (tree_over (tree_to all levels))
    (block_there all before (inner (suc n) a ++ (third ++ after)) (own (suc n) a) n all_first at)
    ∙ tree_at a all (suc n) levels (before ++ own (suc n) a ∷ []) (third ++ after)
    (all_first ∙ next_block before (inner (suc n) a) (third ++ after) (own (suc n) a))
    (length_one_more before (own (suc n) a) n at) (omega arith) in
    let tree_rest : tree_over (tree_to all (suc levels)) (own m rest) ≡ rest =
    tree_at rest all m (suc levels) (before ++ first) after all_third (length_behind before a n at) (omega arith) in
    λ i. While e (tree_a i) (tree_rest i)

pub blocks_are_the_tree : (t : Tree) → tree_of (body_blocks t) 0 ≡ t
blocks_are_the_tree t =
    let p : length (inner 1 t) ≡ blocks_in t = length-inner 1 t in
    tree_at t (own 1 t ∷ inner 1 t) 1 (length (inner 1 t)) (own 1 t ∷ []) []
    (ap (λ l. own 1 t ∷ l) (sym (append-nil (inner 1 t)))) refl (omega (arith, p))
