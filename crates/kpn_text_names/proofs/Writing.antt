-- What is written down block by block is the tree of the body, block by block: its own statements, then the blocks
-- inside it.
use Rattle.kpn_text_names.proofs.Common.{◌≡◌, ℕ, suc, ◌+◌, List, [], ◌∷◌, ◌++◌, length, set, Result, Ok, Err, refl, sym, ap, subst, ◌∙◌, append_assoc, append-nil, length-append, arith, set-append_seam, Tree, End, Assign, Read, Write, If, While, Set, NameScope, NameFault, NameError, ResolvingFails, row_at, blocks_in, own, inner, body_blocks, WrittenBody, body_of}
use Rattle.kpn_lang.specs.Syntax as lang
use Rattle.kpn_text_grammar.specs.Syntax.{NameBytes, StatementNode, assign, store, receive, send, choice, loop, Statements, no_statements, statement}
use Rattle.kpn_text_names.specs.declared.fault.NameFault.TheVariants as fault
use Rattle.kpn_text_tokens.specs.Results.{and_then}
use Rattle.kpn_text_names.specs.Body.{statement_in, tree_in}
use Rattle.kpn_text_names.proofs.Chains.{ok_is, ok_then, bind_assoc, same_after}
use Rattle.kpn_text_names.specs.Writer.{with_scope, with_open_block, closed, statement_at, statements_at, numbered_block}

-- ---- a step that a number follows

first_part : {A : Type 0} (r : Result A NameError) (v : A) (m n : ℕ)
    → and_then {B = A × ℕ} r (λ w. Ok (w, m)) ≡ Ok (v, n) → r ≡ Ok v
unfolding and_then
first_part {A} (Ok w) v m n e = let same : ◌≡◌ {A = A × ℕ} (w, m) (v, n) =
    ok_is (w, m) (v, n) e in ap (λ p. Ok p.0) same
first_part (Err d) v m n e = absurd cc

fails_back : {A : Type 0} (e : NameFault) (r : Result A NameError) (m : ℕ)
    → ResolvingFails e (and_then {B = A × ℕ} r (λ w. Ok (w, m))) → ResolvingFails e r
unfolding and_then
fails_back fault.NoMemory r m h = tt
fails_back (fault.UnknownName at) (Ok w) m h = absurd cc
fails_back (fault.UnknownName at) (Err d) m h = cc
fails_back (fault.DoubleName at) (Ok w) m h = absurd cc
fails_back (fault.DoubleName at) (Err d) m h = cc

-- ---- how many blocks there are

pub length-inner : (n : ℕ) (t : Tree) → length (inner n t) ≡ blocks_in t
length-inner n End = refl
length-inner n (Assign x e rest) = length-inner n rest
length-inner n (Read i x rest) = length-inner n rest
length-inner n (Write o e rest) = length-inner n rest
length-inner n (Set base size i e rest) = length-inner n rest
length-inner n (If e a b rest) =
    let m : ℕ = n + suc (blocks_in a) in
    let p : length (inner (suc n) a) ≡ blocks_in a = length-inner (suc n) a in
    let q : length (inner (suc m) b) ≡ blocks_in b = length-inner (suc m) b in
    let r : length (inner (m + suc (blocks_in b)) rest) ≡ blocks_in rest =
    length-inner (m + suc (blocks_in b)) rest in
    simp length-append (omega (arith, p, q, r))
length-inner n (While e a rest) =
    let p : length (inner (suc n) a) ≡ blocks_in a = length-inner (suc n) a in
    let r : length (inner (n + suc (blocks_in a)) rest) ≡ blocks_in rest =
    length-inner (n + suc (blocks_in a)) rest in
    simp length-append (omega (arith, p, r))

-- ---- the law

-- what is written when the tree of what follows is known
abbrev with_tree : WrittenBody → List lang.Statement → NameScope × Tree → WrittenBody × List lang.Statement
with_tree w done r =
    (record { scope = r.0; blocks = w.blocks ++ inner (length w.blocks) r.1 }, done ++ own (length w.blocks) r.1)

-- the same of a whole block, with its number
abbrev with_block : WrittenBody → NameScope × Tree → WrittenBody × ℕ
with_block w r = (
  record { scope = r.0; blocks = w.blocks ++ own (suc (length w.blocks)) r.1 ∷ inner (suc (length w.blocks)) r.1 },
  length w.blocks,
)

abbrev Law : List NameBytes → Statements → Type 0
Law shared b =
    (w : WrittenBody) (done : List lang.Statement)
    → statements_at shared w done b ≡ and_then (tree_in shared w.scope b) (λ r. Ok (with_tree w done r))

after : (shared : List NameBytes) (w v : WrittenBody) (done : List lang.Statement) (s : lang.Statement) (front : Tree → Tree) (ss : Statements)
    → Law shared ss
    → ((t : Tree) → v.blocks ++ inner (length v.blocks) t ≡ w.blocks ++ inner (length w.blocks) (front t))
    → ((t : Tree) → s ∷ own (length v.blocks) t ≡ own (length w.blocks) (front t))
    → statements_at shared v (done ++ s ∷ []) ss
    ≡ and_then (tree_in shared v.scope ss) (λ r. Ok (with_tree w done (r.0, front r.1)))
after shared w v done s front ss law blocks statements =
    law v (done ++ s ∷ [])
    ∙ same_after (tree_in shared v.scope ss) (λ r. Ok (with_tree v (done ++ s ∷ []) r))
    (λ r. Ok (with_tree w done (r.0, front r.1)))
    (λ r. λ i.
    Ok (
      record { scope = r.0; blocks = blocks r.1 i },
      (append_assoc done (s ∷ []) (own (length v.blocks) r.1) ∙ ap (λ l. done ++ l) (statements r.1)) i,
    ))

-- ---- a block

length-opened : (w : WrittenBody) → length (with_open_block w).blocks ≡ suc (length w.blocks)
length-opened w = simp length-append (omega arith)

length-with_block : (w : WrittenBody) (r : NameScope × Tree)
    → length (with_block w r).0.blocks ≡ length w.blocks + suc (blocks_in r.1)
length-with_block w r = let p : length (inner (suc (length w.blocks)) r.1) ≡ blocks_in r.1 =
    length-inner (suc (length w.blocks)) r.1 in simp length-append (omega (arith, p))

put_there : (before after : List (List lang.Statement)) (statements : List lang.Statement)
    → set ((before ++ [] ∷ []) ++ after) (length before) statements ≡ before ++ statements ∷ after
put_there before after statements = rw append_assoc (set-append_seam before [] after statements)

closed_is : (w : WrittenBody) (r : NameScope × Tree) (n : ℕ) → n ≡ suc (length w.blocks)
    → ◌≡◌ {A = WrittenBody}
    (closed (record { scope = r.0; blocks = (with_open_block w).blocks ++ inner n r.1 }) (length w.blocks) (own n r.1))
    (with_block w r).0
closed_is w r n e =
    rw e
    (λ i.
    record {
      scope = r.0;
      blocks = put_there w.blocks (inner (suc (length w.blocks)) r.1) (own (suc (length w.blocks)) r.1) i;
    })

block_then : {B : Type 0} (shared : List NameBytes) (w : WrittenBody) (b : Statements) (next : WrittenBody × ℕ → Result B NameError) → Law shared b
    → and_then (statements_at shared (with_open_block w) [] b) (λ r. next (closed r.0 (length w.blocks) r.1, length w.blocks))
    ≡ and_then (tree_in shared w.scope b) (λ r. next (with_block w r))
block_then shared w b next law =
    ap (λ r. and_then r (λ r. next (closed r.0 (length w.blocks) r.1, length w.blocks))) (law (with_open_block w) [])
    ∙ bind_assoc (tree_in shared w.scope b) (λ r. Ok (with_tree (with_open_block w) [] r))
    (λ r. next (closed r.0 (length w.blocks) r.1, length w.blocks))
    ∙ same_after (tree_in shared w.scope b)
    (λ r. and_then (Ok (with_tree (with_open_block w) [] r)) (λ r. next (closed r.0 (length w.blocks) r.1, length w.blocks)))
    (λ r. next (with_block w r))
    (λ r. ok_then (with_tree (with_open_block w) [] r) (λ r. next (closed r.0 (length w.blocks) r.1, length w.blocks))
    ∙ ap (λ v. next (v, length w.blocks)) (closed_is w r (length (with_open_block w).blocks) (length-opened w)))

-- ---- a statement in front of others

one_block : (w : WrittenBody) (f : NameScope × Tree) (e : lang.Term) (t : Tree)
    → (with_block w f).0.blocks ++ inner (length (with_block w f).0.blocks) t
    ≡ w.blocks ++ inner (length w.blocks) (While e f.1 t)
one_block w f e t = rw (length-with_block w f, append_assoc) refl

one_number : (w : WrittenBody) (f : NameScope × Tree) (e : lang.Term) (t : Tree)
    → lang.While e (length w.blocks) ∷ own (length (with_block w f).0.blocks) t
    ≡ own (length w.blocks) (While e f.1 t)
one_number w f e t = rw (length-with_block w f) refl

regroup : (a b c d : List (List lang.Statement)) → ((a ++ b) ++ c) ++ d ≡ a ++ (b ++ (c ++ d))
regroup a b c d = append_assoc (a ++ b) c d ∙ append_assoc a b (c ++ d)

two_lengths : (w : WrittenBody) (f g : NameScope × Tree)
    → length (with_block (with_block w f).0 g).0.blocks
    ≡ (length w.blocks + suc (blocks_in f.1)) + suc (blocks_in g.1)
two_lengths w f g = length-with_block (with_block w f).0 g ∙ ap (λ n. n + suc (blocks_in g.1)) (length-with_block w f)

two_blocks : (w : WrittenBody) (f g : NameScope × Tree) (e : lang.Term) (t : Tree)
    → (with_block (with_block w f).0 g).0.blocks ++ inner (length (with_block (with_block w f).0 g).0.blocks) t
    ≡ w.blocks ++ inner (length w.blocks) (If e f.1 g.1 t)
two_blocks w f g e t =
    let n : ℕ = length w.blocks in
    let m : ℕ = n + suc (blocks_in f.1) in
    rw (two_lengths w f g, length-with_block w f)
    (regroup w.blocks (own (suc n) f.1 ∷ inner (suc n) f.1) (own (suc m) g.1 ∷ inner (suc m) g.1)
    (inner (m + suc (blocks_in g.1)) t))

two_numbers : (w : WrittenBody) (f g : NameScope × Tree) (e : lang.Term) (t : Tree)
    → lang.If e (length w.blocks) (length (with_block w f).0.blocks)
    ∷ own (length (with_block (with_block w f).0 g).0.blocks) t ≡ own (length w.blocks) (If e f.1 g.1 t)
two_numbers w f g e t = rw (two_lengths w f g, length-with_block w f) refl

mutual
  unfolding statements_at statement_at tree_in statement_in

  first : (shared : List NameBytes) (s : StatementNode) (ss : Statements) → Law shared ss → Law shared (statement s ss)
  first shared (assign x e) ss law w done =
      simp (bind_assoc, ok_then)
      (same_after _ _ _
      (λ t.
      same_after _ _ _
      (λ a.
      after shared w (with_scope w t.0) done (lang.Assign t.1 a) (Assign t.1 a) ss law (λ _. refl)
      (λ _. refl))))
  first shared (store x i e) ss law w done =
      simp (bind_assoc, ok_then)
      (same_after _ _ _
      (λ k.
      let row = row_at w.scope.arrays.rows k in
      same_after _ _ _
      (λ a.
      same_after _ _ _
      (λ b.
      after shared w w done (lang.Set row.base row.size a b) (Set row.base row.size a b) ss law (λ _. refl)
      (λ _. refl)))))
  first shared (receive i x) ss law w done =
      simp (bind_assoc, ok_then)
      (same_after _ _ _
      (λ port.
      same_after _ _ _
      (λ t.
      after shared w (with_scope w t.0) done (lang.Read port t.1) (Read port t.1) ss law (λ _. refl)
      (λ _. refl))))
  first shared (send o e) ss law w done =
      simp (bind_assoc, ok_then)
      (same_after _ _ _
      (λ port.
      same_after _ _ _
      (λ a. after shared w w done (lang.Write port a) (Write port a) ss law (λ _. refl) (λ _. refl))))
  first shared (choice e b c) ss law w done =
      simp (bind_assoc, ok_then) (same_after _ _ _ (λ a.
      block_then shared w b
      (λ x.
      and_then (statements_at shared (with_open_block x.0) [] c)
      (λ r.
      statements_at shared (closed r.0 (length x.0.blocks) r.1)
      (done ++ lang.If a x.1 (length x.0.blocks) ∷ []) ss)) (all shared b)
      ∙ same_after _ _ _
      (λ f.
      block_then shared (with_block w f).0 c (λ y. statements_at shared y.0 (done ++ lang.If a (length w.blocks) y.1 ∷ []) ss)
      (all shared c)
      ∙ same_after _ _ _
      (λ g.
      after shared w (with_block (with_block w f).0 g).0 done
      (lang.If a (length w.blocks) (length (with_block w f).0.blocks)) (If a f.1 g.1) ss law
      (two_blocks w f g a) (two_numbers w f g a)))))
  first shared (loop e b) ss law w done =
      simp (bind_assoc, ok_then) (same_after _ _ _ (λ a.
      block_then shared w b (λ x. statements_at shared x.0 (done ++ lang.While a x.1 ∷ []) ss) (all shared b)
      ∙ same_after _ _ _
      (λ f.
      after shared w (with_block w f).0 done (lang.While a (length w.blocks)) (While a f.1) ss law (one_block w f a)
      (one_number w f a))))

  all : (shared : List NameBytes) (ss : Statements) → Law shared ss
  all shared no_statements w done =
      rw ok_then (λ i. Ok (record { scope = w.scope; blocks = sym (append-nil w.blocks) i }, sym (append-nil done) i))
  all shared (statement s ss) w done = first shared s ss (all shared ss) w done

-- ---- a body, which is block 0

pub body_law : (shared : List NameBytes) (s : NameScope) (b : Statements)
    → numbered_block shared (record { scope = s; blocks = [] }) b ≡ and_then (body_of shared s b) (λ w. Ok (w, 0))
body_law shared s b =
    block_then shared (record { scope = s; blocks = [] }) b (λ x. Ok x) (all shared b)
    ∙ sym (bind_assoc (tree_in shared s b) (λ r. Ok (record { scope = r.0; blocks = body_blocks r.1 })) (λ w. Ok (w, 0))
    ∙ same_after (tree_in shared s b) (λ r. and_then (Ok (record { scope = r.0; blocks = body_blocks r.1 })) (λ w. Ok (w, 0)))
    (λ r. Ok (record { scope = r.0; blocks = body_blocks r.1 }, 0))
    (λ r. ok_then (record { scope = r.0; blocks = body_blocks r.1 }) (λ w. Ok (w, 0))))

-- what is written of a body
pub whole_body : (shared : List NameBytes) (s : NameScope) (b : Statements) (v : WrittenBody) (n : ℕ)
    → numbered_block shared (record { scope = s; blocks = [] }) b ≡ Ok (v, n) → body_of shared s b ≡ Ok v
whole_body shared s b v n e = first_part (body_of shared s b) v 0 n (sym (body_law shared s b) ∙ e)

pub body_fails : (shared : List NameBytes) (s : NameScope) (b : Statements) (e : NameFault)
    → ResolvingFails e (numbered_block shared (record { scope = s; blocks = [] }) b) → ResolvingFails e (body_of shared s b)
body_fails shared s b e h = fails_back e (body_of shared s b) 0 (subst (λ r. ResolvingFails e r) (body_law shared s b) h)
