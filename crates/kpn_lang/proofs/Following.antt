-- How the parts of a run follow one another: a statement after the other, a turn after the other.
use Rattle.kpn_lang.proofs.Common.{◌≡◌, ℕ, zero, suc, ℤ, Bool, true, false, cond, not, Result, Ok, Err, Some, None, List, [], ◌∷◌, refl, ap, ◌∙◌, arith, Fault, Ending, Faulted, Cut, Term, Statement, value, is_zero, Ran, Next, Lists, ends, with_value, choose, turns, run}
use Rattle.kpn_lang.specs.Syntax as syntax
use Rattle.kpn_lang.specs.Tree.{Tree, tree_over}
use Rattle.kpn_lang.specs.Plain.{Standing, said_before, goes_on, holds, LeadsTo}

pub LeadsTo-refl : (part : Next → Next) (here : Standing) → LeadsTo part part here here
LeadsTo-refl part here = record { runs = λ next. refl; variables = refl; lists = refl }

pub LeadsTo-trans : (part middle left : Next → Next) (before between after : Standing) →
    LeadsTo part middle before between → LeadsTo middle left between after → LeadsTo part left before after
LeadsTo-trans part middle left before between after d e =
    record {
      runs = λ next. d.runs next ∙ e.runs next;
      variables = e.variables ∙ d.variables;
      lists = e.lists ∙ d.lists;
    }

-- ---- tests

-- by the test of a value
chosen : (v : ℤ) (b : Bool) (first second : Ran) → not (is_zero v) ≡ b → choose v first second ≡ cond b first second
chosen v b first second e = which (is_zero v) e
  where
    which : (z : Bool) → not z ≡ b → cond z second first ≡ cond b first second
    which true e = ap (λ c. cond c first second) e
    which false e = ap (λ c. cond c first second) e

test_ok : (r : Result ℤ Fault) (b : Bool) (variables : List ℤ) (lists : Lists) (first second : Ran) → holds r ≡ Ok b →
    with_value r variables lists (λ v. choose v first second) ≡ cond b first second
test_ok (Ok v) b variables lists first second e = chosen v b first second cc
test_ok (Err fault) b variables lists first second e = absurd cc

test_err : (r : Result ℤ Fault) (fault : Fault) (variables : List ℤ) (lists : Lists) (go : ℤ → Ran) →
    holds r ≡ Err fault → with_value r variables lists go ≡ ends (Faulted fault) variables lists
test_err (Ok v) fault variables lists go e = absurd cc
test_err (Err other) fault variables lists go e =
    let same : other ≡ fault = cc in ap (λ f. ends (Faulted f) variables lists) same

-- ---- one statement after the other

split : (inner : ℕ → Tree) (s : Statement) (rest : List Statement) (n : ℕ) (next : Next) (variables : List ℤ)
    (lists : Lists) → run (tree_over inner (s ∷ rest)) n next variables lists
    ≡ run (tree_over inner (s ∷ [])) n (run (tree_over inner rest) n next) variables lists
split inner (syntax.Assign x e) rest n next variables lists = refl
split inner (syntax.Read i x) rest n next variables lists = refl
split inner (syntax.Write o e) rest n next variables lists = refl
split inner (syntax.If e a b) rest n next variables lists = refl
split inner (syntax.While e b) rest n next variables lists = refl
split inner (syntax.Set base size i e) rest n next variables lists = refl

pub LeadsTo-next : (inner : ℕ → Tree) (n : ℕ) (s : Statement) (rest : List Statement) (before after : Standing) →
    LeadsTo (run (tree_over inner (s ∷ [])) n) (goes_on None) before after →
    LeadsTo (run (tree_over inner (s ∷ rest)) n) (run (tree_over inner rest) n) before after
LeadsTo-next inner n s rest before after d =
    record {
      runs = λ next. ap (said_before before.talk) (split inner s rest n next before.variables before.lists)
          ∙ d.runs (run (tree_over inner rest) n next);
      variables = d.variables;
      lists = d.lists;
    }

pub LeadsTo-next_ends : (inner : ℕ → Tree) (n : ℕ) (s : Statement) (rest : List Statement) (ending : Ending)
    (before after : Standing) → LeadsTo (run (tree_over inner (s ∷ [])) n) (goes_on (Some ending)) before after →
    LeadsTo (run (tree_over inner (s ∷ rest)) n) (goes_on (Some ending)) before after
LeadsTo-next_ends inner n s rest ending before after d =
    record {
      runs = λ next. ap (said_before before.talk) (split inner s rest n next before.variables before.lists)
          ∙ d.runs (run (tree_over inner rest) n next);
      variables = d.variables;
      lists = d.lists;
    }

-- ---- the turns of a loop

module _ (test : Term) (body : Next → Next) (here : Standing) where
  pub LeadsTo-turn : (left : ℕ) (after : Standing) → holds (value test here.variables) ≡ Ok true →
      LeadsTo body (goes_on None) here after → LeadsTo (turns (suc left) test body) (turns left test body) here after
  LeadsTo-turn left after h d =
      record {
        runs = λ next. ap (said_before here.talk) (test_ok
            (value test here.variables) true here.variables here.lists _ _ h) ∙ d.runs (turns left test body next);
        variables = d.variables;
        lists = d.lists;
      }

  pub LeadsTo-turn_ends : (left : ℕ) (ending : Ending) (after : Standing) →
      holds (value test here.variables) ≡ Ok true → LeadsTo body (goes_on (Some ending)) here after →
      LeadsTo (turns (suc left) test body) (goes_on (Some ending)) here after
  LeadsTo-turn_ends left ending after h d =
      record {
        runs = λ next. ap (said_before here.talk) (test_ok
            (value test here.variables) true here.variables here.lists _ _ h) ∙ d.runs (turns left test body next);
        variables = d.variables;
        lists = d.lists;
      }

  pub LeadsTo-leave : (left : ℕ) → holds (value test here.variables) ≡ Ok false →
      LeadsTo (turns left test body) (goes_on None) here here
  LeadsTo-leave zero h =
      record {
        runs = λ next. ap (said_before here.talk) (test_ok
            (value test here.variables) false here.variables here.lists _ _ h);
        variables = refl;
        lists = refl;
      }
  LeadsTo-leave (suc left) h =
      record {
        runs = λ next. ap (said_before here.talk) (test_ok
            (value test here.variables) false here.variables here.lists _ _ h);
        variables = refl;
        lists = refl;
      }

  pub LeadsTo-turn_fault : (left : ℕ) (fault : Fault) → holds (value test here.variables) ≡ Err fault →
      LeadsTo (turns left test body) (goes_on (Some (Faulted fault))) here here
  LeadsTo-turn_fault zero fault h =
      record {
        runs = λ next. ap (said_before here.talk) (test_err
            (value test here.variables) fault here.variables here.lists _ h);
        variables = refl;
        lists = refl;
      }
  LeadsTo-turn_fault (suc left) fault h =
      record {
        runs = λ next. ap (said_before here.talk) (test_err
            (value test here.variables) fault here.variables here.lists _ h);
        variables = refl;
        lists = refl;
      }

  -- with no turns left
  pub LeadsTo-cut : (left : ℕ) → left ≡ 0 → holds (value test here.variables) ≡ Ok true →
      LeadsTo (turns left test body) (goes_on (Some Cut)) here here
  LeadsTo-cut zero none h =
      record {
        runs = λ next. ap (said_before here.talk) (test_ok
            (value test here.variables) true here.variables here.lists _ _ h);
        variables = refl;
        lists = refl;
      }
  LeadsTo-cut (suc left) none h = absurd (omega arith)
