-- A run is a sequential process wherever what follows it is one.
use Rattle.kpn_lang.proofs.Common.{ℕ, ◌≤◌, ℤ, List, refl, Ending, Done, Parts, Next, ends, run, start_of, alone, IsSequential}
use Rattle.kpn_lang.specs.Tree.{Tree, tree_of}
use Rattle.kpn_lang.proofs.Further.{Follows, Follows-run, GoesOn-ends, Stays, Stays-run}
use Rattle.kpn_lang.proofs.Alike.{AccountsNext, Accounts-run, LocalNext, Local-run, SaysAlike-silent}

-- what follows, by the number of turns, is a sequential process at each start of the variables
pub record AreSequential (next : ℕ → Next) : Type 0 where
  pub from : (variables : List ℤ) → IsSequential (λ n lists. next n variables lists)

pub AreSequential-ends : (ending : Ending) → AreSequential (λ n. ends ending)
AreSequential-ends ending =
    record {
      from = λ variables.
          record {
            grows = λ n m le more lists longer g. GoesOn-ends more ending variables lists longer g;
            stays = λ n m le lists h. refl;
            accounts = λ n lists port. refl;
            local = λ n lists others. (SaysAlike-silent ending variables lists others
                (ends ending variables others)).says_too;
          };
    }

module _ (next : ℕ → Next) (sequential : AreSequential next) where
  pub Follows-next : (more : ℕ → List ℤ) (n m : ℕ) → n ≤ m → Follows more (next n) (next m)
  Follows-next more n m le =
      record { goes = λ variables lists longer g. (sequential.from variables).grows n m le more lists longer g }

  pub Stays-next : (n m : ℕ) → n ≤ m → Stays (next n) (next m)
  Stays-next n m le =
      record { stays = λ variables lists. record { same = (sequential.from variables).stays n m le lists } }

  pub Accounts-next : (n : ℕ) → AccountsNext (next n)
  Accounts-next n =
      record { accounts = λ variables lists. record { each = (sequential.from variables).accounts n lists } }

  pub Local-next : (n : ℕ) → LocalNext (next n)
  Local-next n =
      record {
        local = λ variables lists others. record { says_too = (sequential.from variables).local n lists others };
      }

  -- the run of a tree and of what follows it
  pub AreSequential-run : (tree : Tree) → AreSequential (λ n. run tree n (next n))
  AreSequential-run tree =
      record {
        from = λ variables.
            record {
              grows = λ n m le more lists longer g.
                  (Follows-run more tree n m le (next n) (next m) (Follows-next more n m le)).goes variables lists
                  longer g;
              stays = λ n m le lists.
                  ((Stays-run tree n m le (next n) (next m) (Stays-next n m le)).stays variables lists).same;
              accounts = λ n lists.
                  ((Accounts-run tree n (next n) (Accounts-next n)).accounts variables lists).each;
              local = λ n lists others.
                  ((Local-run tree n (next n) (Local-next n)).local variables lists others).says_too;
            };
      }

pub IsSequential-alone : (parts : Parts) (pars : List ℤ) → IsSequential (alone parts pars)
IsSequential-alone parts pars =
    (AreSequential-run (λ n. ends Done) (AreSequential-ends Done) (tree_of parts.blocks 0)).from (start_of parts pars)
