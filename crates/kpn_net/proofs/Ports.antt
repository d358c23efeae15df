-- A process names only its own ports: what it says is at one of its in ports or out ports.
use Rattle.kpn_net.proofs.Common.{◌≡◌, ℕ, zero, suc, ◌+◌, ◌<◌, ℤ, cond, Bool, true, false, List, [], ◌∷◌, length, Result, Ok, Err, set, refl, unsigned_abs, list_all, ltb-true, and_parts, Said, Got, Put, Ending, Parts, IsProgram, names_ports_below, each_statement, Ran, Next, Lists, list_at, ends, says, with_value, with_item, choose, turns, run, alone, start_of, kept}
use Rattle.kpn_lang.specs.declared.value.Fault.{Fault}
use Rattle.kpn_lang.specs.declared.talk.Ending.TheVariants.{Done, Faulted, Starved, Cut}
use Rattle.kpn_lang.specs.Syntax.{Term, Statement}
use Rattle.kpn_lang.specs.Syntax as syntax
use Rattle.kpn_lang.specs.Value.{value, is_zero, index_in, ◌>>=◌}
use Rattle.kpn_lang.specs.Tree.{Tree, End, Assign, Read, Write, If, While, Set, tree_over, tree_to, tree_of, block_at}

-- ---- the ports of a tree, of what is said and of an end

abbrev pub TreeNames : (ins outs : ℕ) → Tree → Type 0
TreeNames ins outs End = Unit {0}
TreeNames ins outs (Assign x e rest) = TreeNames ins outs rest
TreeNames ins outs (Read i x rest) = (i < ins) × TreeNames ins outs rest
TreeNames ins outs (Write o e rest) = (o < outs) × TreeNames ins outs rest
TreeNames ins outs (If e first second rest) =
    TreeNames ins outs first × TreeNames ins outs second × TreeNames ins outs rest
TreeNames ins outs (While e body rest) = TreeNames ins outs body × TreeNames ins outs rest
TreeNames ins outs (Set base size index e rest) = TreeNames ins outs rest

abbrev pub SaidNames : (ins outs : ℕ) → Said → Type 0
SaidNames ins outs (Got i v) = i < ins
SaidNames ins outs (Put o v) = o < outs

abbrev pub TalkNames : (ins outs : ℕ) → List Said → Type 0
TalkNames ins outs [] = Unit {0}
TalkNames ins outs (said ∷ talk) = SaidNames ins outs said × TalkNames ins outs talk

abbrev pub EndingNames : (ins : ℕ) → Ending → Type 0
EndingNames ins Done = Unit {0}
EndingNames ins (Faulted fault) = Unit {0}
EndingNames ins (Starved i) = i < ins
EndingNames ins Cut = Unit {0}

-- a run that names only these ports
pub record RanNames (ins outs : ℕ) (ran : Ran) : Type 0 where
  pub talk : TalkNames ins outs ran.talk
  pub ending : EndingNames ins ran.ending

record NextNames (ins outs : ℕ) (next : Next) : Type 0 where
  names : (variables : List ℤ) (lists : Lists) → RanNames ins outs (next variables lists)

-- ---- the tree of a program

tree_over-names : (ins outs : ℕ) (inner : ℕ → Tree) → ((b : ℕ) → TreeNames ins outs (inner b))
    → (statements : List Statement) → list_all (names_ports_below ins outs) statements ≡ true
    → TreeNames ins outs (tree_over inner statements)
tree_over-names ins outs inner h [] e = tt
tree_over-names ins outs inner h (syntax.Assign x t ∷ rest) e = tree_over-names ins outs inner h rest e
tree_over-names ins outs inner h (syntax.Read i x ∷ rest) e = let p =
    and_parts _ _ e in (ltb-true i ins p.0, tree_over-names ins outs inner h rest p.1)
tree_over-names ins outs inner h (syntax.Write o t ∷ rest) e = let p =
    and_parts _ _ e in (ltb-true o outs p.0, tree_over-names ins outs inner h rest p.1)
tree_over-names ins outs inner h (syntax.If t a b ∷ rest) e = (h a, h b, tree_over-names ins outs inner h rest e)
tree_over-names ins outs inner h (syntax.While t b ∷ rest) e = (h b, tree_over-names ins outs inner h rest e)
tree_over-names ins outs inner h (syntax.Set base size i t ∷ rest) e = tree_over-names ins outs inner h rest e

block_at-names : (ins outs : ℕ) (blocks : List (List Statement)) (b : ℕ)
    → each_statement (names_ports_below ins outs) blocks ≡ true
    → list_all (names_ports_below ins outs) (block_at blocks b) ≡ true
block_at-names ins outs [] b e = refl
block_at-names ins outs (block ∷ blocks) zero e = (and_parts _ _ e).0
block_at-names ins outs (block ∷ blocks) (suc b) e = block_at-names ins outs blocks b (and_parts _ _ e).1

tree_to-names : (ins outs : ℕ) (blocks : List (List Statement))
    → each_statement (names_ports_below ins outs) blocks ≡ true → (levels b : ℕ)
    → TreeNames ins outs (tree_to blocks levels b)
tree_to-names ins outs blocks e zero b = tt
tree_to-names ins outs blocks e (suc levels) b =
    tree_over-names ins outs (tree_to blocks levels) (tree_to-names ins outs blocks e levels) (block_at blocks b)
    (block_at-names ins outs blocks b e)

-- ---- the run of a tree

module _ (ins outs : ℕ) where
  RanNames-says : (said : Said) (ran : Ran) → SaidNames ins outs said → RanNames ins outs ran
      → RanNames ins outs (says said ran)
  RanNames-says said ran s h = record { talk = (s, h.talk); ending = h.ending }

  RanNames-choose : (v : ℤ) (first second : Ran) → RanNames ins outs first → RanNames ins outs second
      → RanNames ins outs (choose v first second)
  RanNames-choose v first second h k = which (is_zero v)
    where
      which : (b : Bool) → RanNames ins outs (cond b second first)
      which true = k
      which false = h

  RanNames-with_value : (r : Result ℤ Fault) (variables : List ℤ) (lists : Lists) (go : ℤ → Ran)
      → ((v : ℤ) → RanNames ins outs (go v)) → RanNames ins outs (with_value r variables lists go)
  RanNames-with_value (Ok v) variables lists go h = h v
  RanNames-with_value (Err fault) variables lists go h = record { talk = tt; ending = tt }

  RanNames-with_item : (items : List ℤ) (port : ℕ) → port < ins
      → (variables : List ℤ) (lists : Lists) (go : ℤ → List ℤ → Ran)
      → ((v : ℤ) (rest : List ℤ) → RanNames ins outs (go v rest))
      → RanNames ins outs (with_item items port variables lists go)
  RanNames-with_item [] port p variables lists go h = record { talk = tt; ending = p }
  RanNames-with_item (v ∷ rest) port p variables lists go h = h v rest

  NextNames-turns : (test : Term) (body : Next → Next)
      → ((next : Next) → NextNames ins outs next → NextNames ins outs (body next)) → (left : ℕ) (next : Next)
      → NextNames ins outs next → NextNames ins outs (turns left test body next)
  NextNames-turns test body b zero next h =
      record {
        names = λ variables lists. RanNames-with_value (value test variables) variables lists _
            (λ v. RanNames-choose v _ _ (record { talk = tt; ending = tt }) (h.names variables lists));
      }
  NextNames-turns test body b (suc left) next h =
      let again = b _ (NextNames-turns test body b left next h) in
      record {
        names = λ variables lists. RanNames-with_value (value test variables) variables lists _
            (λ v. RanNames-choose v _ _ (again.names variables lists) (h.names variables lists));
      }

  NextNames-run : (tree : Tree) → TreeNames ins outs tree → (n : ℕ) (next : Next) → NextNames ins outs next
      → NextNames ins outs (run tree n next)
  NextNames-run End t n next h = h
  NextNames-run (Assign x e rest) t n next h =
      let after = NextNames-run rest t n next h in
      record {
        names = λ variables lists.
            RanNames-with_value (value e variables) variables lists _ (λ v. after.names (set variables x v) lists);
      }
  NextNames-run (Read i x rest) t n next h =
      let after = NextNames-run rest t.1 n next h in
      record {
        names = λ variables lists. RanNames-with_item (list_at lists i) i t.0 variables lists _
            (λ v items. RanNames-says (Got i v) _ t.0 (after.names (set variables x v) (set lists i items)));
      }
  NextNames-run (Write o e rest) t n next h =
      let after = NextNames-run rest t.1 n next h in
      record {
        names = λ variables lists. RanNames-with_value (value e variables) variables lists _
            (λ v. RanNames-says (Put o v) _ t.0 (after.names variables lists));
      }
  NextNames-run (If e first second rest) t n next h =
      let after = NextNames-run rest t.2 n next h in
      let first' = NextNames-run first t.0 n (run rest n next) after in
      let second' = NextNames-run second t.1 n (run rest n next) after in
      record {
        names = λ variables lists. RanNames-with_value (value e variables) variables lists _
            (λ v. RanNames-choose v _ _ (first'.names variables lists) (second'.names variables lists));
      }
  NextNames-run (While e body rest) t n next h =
      NextNames-turns e (run body n) (λ k f. NextNames-run body t.0 n k f) n (run rest n next)
      (NextNames-run rest t.1 n next h)
  NextNames-run (Set base size i e rest) t n next h =
      let after = NextNames-run rest t n next h in
      record {
        names = λ variables lists.
            RanNames-with_value (value i variables >>= index_in size) variables lists _ (λ index.
            RanNames-with_value (value e variables) variables lists _ (λ v.
            after.names (set variables (base + unsigned_abs index) v) lists));
      }

-- a program alone names only its ports
pub alone-names : (parts : Parts) → IsProgram parts → (pars : List ℤ) (n : ℕ) (lists : Lists)
    → RanNames parts.ins parts.outs (alone parts pars n lists)
alone-names parts program pars n lists =
    let tree = tree_to-names parts.ins parts.outs parts.blocks (kept parts program).ports (length parts.blocks) 0 in
    (NextNames-run parts.ins parts.outs (tree_of parts.blocks 0) tree n (ends Done)
    (record { names = λ variables rest. record { talk = tt; ending = tt } })).names (start_of parts pars) lists
