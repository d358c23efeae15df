-- With longer lists and more turns a run goes further. With only more turns, one that was not cut stays the same.
-- Whatever puts runs together keeps each law, so the run of a tree keeps it.
use Rattle.kpn_lang.proofs.Common.{◌≡◌, ◌≢◌, ℕ, zero, suc, ◌+◌, ◌≤◌, ℤ, cond, Bool, true, false, Result, Ok, Err, List, [], ◌∷◌, ◌++◌, set, refl, ap, arith, unsigned_abs, Fault, Said, Got, Put, Ending, Faulted, Cut, Term, value, is_zero, index_in, ◌>>=◌, Ran, Next, Lists, list_at, ends, says, with_value, with_item, choose, turns, run, Grows, GoesOn}
use Rattle.kpn_lang.specs.Tree.{Tree, End, Assign, Read, Write, If, While, Set}
use Rattle.kpn_lang.proofs.Families.{Grows-read}

-- ---- further

-- what follows goes further wherever the lists are longer
pub record Follows (more : ℕ → List ℤ) (next further : Next) : Type 0 where
  pub goes : (variables : List ℤ) (lists longer : Lists) → Grows more lists longer →
      GoesOn more (next variables lists) (further variables longer)

module _ (more : ℕ → List ℤ) where
  pub GoesOn-cut : (variables : List ℤ) (lists : Lists) (further : Ran) → GoesOn more (ends Cut variables lists) further
  GoesOn-cut variables lists further = record { talk = tt; final = λ h. absurd h }

  pub GoesOn-ends : (ending : Ending) (variables : List ℤ) (lists longer : Lists) → Grows more lists longer →
      GoesOn more (ends ending variables lists) (ends ending variables longer)
  GoesOn-ends ending variables lists longer g =
      record { talk = tt; final = λ h. record { ending = refl; variables = refl; talk = refl; rest = g } }

  pub GoesOn-says : (said : Said) (ran further : Ran) → GoesOn more ran further →
      GoesOn more (says said ran) (says said further)
  GoesOn-says said ran further h =
      record {
        talk = (refl, h.talk);
        final = λ f.
            let same = h.final f in
            record {
              ending = same.ending;
              variables = same.variables;
              talk = ap (λ talk. said ∷ talk) same.talk;
              rest = same.rest;
            };
      }

  pub GoesOn-choose : (v : ℤ) (first second first' second' : Ran) → GoesOn more first first' →
      GoesOn more second second' → GoesOn more (choose v first second) (choose v first' second')
  GoesOn-choose v first second first' second' h k = which (is_zero v)
    where
      which : (b : Bool) → GoesOn more (cond b second first) (cond b second' first')
      which true = k
      which false = h

  pub GoesOn-with_value : (r : Result ℤ Fault) (variables : List ℤ) (lists longer : Lists) (go go' : ℤ → Ran) →
      Grows more lists longer → ((v : ℤ) → GoesOn more (go v) (go' v)) →
      GoesOn more (with_value r variables lists go) (with_value r variables longer go')
  GoesOn-with_value (Ok v) variables lists longer go go' g h = h v
  GoesOn-with_value (Err fault) variables lists longer go go' g h = GoesOn-ends (Faulted fault) variables lists longer g

  with_items : (items : List ℤ) (port : ℕ) (variables : List ℤ) (lists longer : Lists) (go go' : ℤ → List ℤ → Ran) →
      Grows more lists longer → list_at lists port ≡ items →
      ((v : ℤ) (rest : List ℤ) → list_at lists port ≡ v ∷ rest → GoesOn more (go v rest) (go' v (rest ++ more port))) →
      GoesOn more (with_item items port variables lists go) (with_item (items ++ more port) port variables longer go')
  with_items [] port variables lists longer go go' g e h =
      record {
        talk = tt;
        final = λ f. rw f (record { ending = refl; variables = refl; talk = refl; rest = g });
      }
  with_items (v ∷ rest) port variables lists longer go go' g e h = h v rest e

  pub GoesOn-with_item : (port : ℕ) (variables : List ℤ) (lists longer : Lists) (go go' : ℤ → List ℤ → Ran) →
      Grows more lists longer → ((v : ℤ) (rest : List ℤ) → list_at lists port ≡ v ∷ rest →
      GoesOn more (go v rest) (go' v (rest ++ more port))) →
      GoesOn more (with_item (list_at lists port) port variables lists go)
      (with_item (list_at longer port) port variables longer go')
  GoesOn-with_item port variables lists longer go go' g h =
      rw (g.each port) (with_items (list_at lists port) port variables lists longer go go' g refl h)

  pub Follows-turns : (test : Term) (body body' : Next → Next) →
      ((next further : Next) → Follows more next further → Follows more (body next) (body' further)) →
      (left left' : ℕ) → left ≤ left' → (next further : Next) → Follows more next further →
      Follows more (turns left test body next) (turns left' test body' further)
  Follows-turns test body body' b zero zero le next further h =
      record {
        goes = λ variables lists longer g.
            GoesOn-with_value (value test variables) variables lists longer _ _ g (λ v.
            GoesOn-choose v _ _ _ _ (GoesOn-cut variables lists _) (h.goes variables lists longer g));
      }
  Follows-turns test body body' b zero (suc left') le next further h =
      record {
        goes = λ variables lists longer g.
            GoesOn-with_value (value test variables) variables lists longer _ _ g (λ v.
            GoesOn-choose v _ _ _ _ (GoesOn-cut variables lists _) (h.goes variables lists longer g));
      }
  Follows-turns test body body' b (suc left) zero le next further h = absurd (omega arith)
  Follows-turns test body body' b (suc left) (suc left') le next further h =
      let again = b _ _ (Follows-turns test body body' b left left' (omega arith) next further h) in
      record {
        goes = λ variables lists longer g.
            GoesOn-with_value (value test variables) variables lists longer _ _ g (λ v.
            GoesOn-choose v _ _ _ _ (again.goes variables lists longer g) (h.goes variables lists longer g));
      }

  -- the run of a tree with more turns, before what goes further, goes further
  pub Follows-run : (tree : Tree) (n m : ℕ) → n ≤ m → (next further : Next) → Follows more next further →
      Follows more (run tree n next) (run tree m further)
  Follows-run End n m le next further h = h
  Follows-run (Assign x e rest) n m le next further h =
      let after = Follows-run rest n m le next further h in
      record {
        goes = λ variables lists longer g.
            GoesOn-with_value (value e variables) variables lists longer _ _ g (λ v.
            after.goes (set variables x v) lists longer g);
      }
  Follows-run (Read i x rest) n m le next further h =
      let after = Follows-run rest n m le next further h in
      record {
        goes = λ variables lists longer g.
            GoesOn-with_item i variables lists longer _ _ g (λ v items e.
            GoesOn-says (Got i v) _ _ (after.goes (set variables x v) (set lists i items)
            (set longer i (items ++ more i)) (Grows-read more lists longer g i v items e)));
      }
  Follows-run (Write o e rest) n m le next further h =
      let after = Follows-run rest n m le next further h in
      record {
        goes = λ variables lists longer g.
            GoesOn-with_value (value e variables) variables lists longer _ _ g (λ v.
            GoesOn-says (Put o v) _ _ (after.goes variables lists longer g));
      }
  Follows-run (If e first second rest) n m le next further h =
      let after = Follows-run rest n m le next further h in
      let first' = Follows-run first n m le (run rest n next) (run rest m further) after in
      let second' = Follows-run second n m le (run rest n next) (run rest m further) after in
      record {
        goes = λ variables lists longer g.
            GoesOn-with_value (value e variables) variables lists longer _ _ g (λ v.
            GoesOn-choose v _ _ _ _ (first'.goes variables lists longer g) (second'.goes variables lists longer g));
      }
  Follows-run (While e body rest) n m le next further h =
      Follows-turns e (run body n) (run body m) (λ k k' f. Follows-run body n m le k k' f) n m le
      (run rest n next) (run rest m further) (Follows-run rest n m le next further h)
  Follows-run (Set base size i e rest) n m le next further h =
      let after = Follows-run rest n m le next further h in
      record {
        goes = λ variables lists longer g.
            GoesOn-with_value (value i variables >>= index_in size) variables lists longer _ _ g (λ index.
            GoesOn-with_value (value e variables) variables lists longer _ _ g (λ v.
            after.goes (set variables (base + unsigned_abs index) v) lists longer g));
      }

-- ---- one after the other

-- ---- the same

-- a run that was not cut is the same
pub record StaysUncut (ran further : Ran) : Type 0 where
  pub same : ran.ending ≢ Cut → further ≡ ran

-- what follows is the same wherever it was not cut
pub record Stays (next further : Next) : Type 0 where
  pub stays : (variables : List ℤ) (lists : Lists) → StaysUncut (next variables lists) (further variables lists)

pub StaysUncut-refl : (ran : Ran) → StaysUncut ran ran
StaysUncut-refl ran = record { same = λ h. refl }

pub StaysUncut-cut : (variables : List ℤ) (lists : Lists) (further : Ran) →
    StaysUncut (ends Cut variables lists) further
StaysUncut-cut variables lists further = record { same = λ h. absurd (h refl) }

pub StaysUncut-says : (said : Said) (ran further : Ran) → StaysUncut ran further →
    StaysUncut (says said ran) (says said further)
StaysUncut-says said ran further h = record { same = λ u. ap (says said) (h.same u) }

pub StaysUncut-choose : (v : ℤ) (first second first' second' : Ran) → StaysUncut first first' →
    StaysUncut second second' → StaysUncut (choose v first second) (choose v first' second')
StaysUncut-choose v first second first' second' h k = which (is_zero v)
  where
    which : (b : Bool) → StaysUncut (cond b second first) (cond b second' first')
    which true = k
    which false = h

pub StaysUncut-with_value : (r : Result ℤ Fault) (variables : List ℤ) (lists : Lists) (go go' : ℤ → Ran) →
    ((v : ℤ) → StaysUncut (go v) (go' v)) → StaysUncut (with_value r variables lists go)
    (with_value r variables lists go')
StaysUncut-with_value (Ok v) variables lists go go' h = h v
StaysUncut-with_value (Err fault) variables lists go go' h = StaysUncut-refl _

pub StaysUncut-with_item : (items : List ℤ) (port : ℕ) (variables : List ℤ) (lists : Lists)
    (go go' : ℤ → List ℤ → Ran) → ((v : ℤ) (rest : List ℤ) → StaysUncut (go v rest) (go' v rest)) →
    StaysUncut (with_item items port variables lists go) (with_item items port variables lists go')
StaysUncut-with_item [] port variables lists go go' h = StaysUncut-refl _
StaysUncut-with_item (v ∷ rest) port variables lists go go' h = h v rest

pub Stays-turns : (test : Term) (body body' : Next → Next) →
    ((next further : Next) → Stays next further → Stays (body next) (body' further)) → (left left' : ℕ) →
    left ≤ left' → (next further : Next) → Stays next further →
    Stays (turns left test body next) (turns left' test body' further)
Stays-turns test body body' b zero zero le next further h =
    record {
      stays = λ variables lists.
          StaysUncut-with_value (value test variables) variables lists _ _ (λ v.
          StaysUncut-choose v _ _ _ _ (StaysUncut-cut variables lists _) (h.stays variables lists));
    }
Stays-turns test body body' b zero (suc left') le next further h =
    record {
      stays = λ variables lists.
          StaysUncut-with_value (value test variables) variables lists _ _ (λ v.
          StaysUncut-choose v _ _ _ _ (StaysUncut-cut variables lists _) (h.stays variables lists));
    }
Stays-turns test body body' b (suc left) zero le next further h = absurd (omega arith)
Stays-turns test body body' b (suc left) (suc left') le next further h =
    let again = b _ _ (Stays-turns test body body' b left left' (omega arith) next further h) in
    record {
      stays = λ variables lists.
          StaysUncut-with_value (value test variables) variables lists _ _ (λ v.
          StaysUncut-choose v _ _ _ _ (again.stays variables lists) (h.stays variables lists));
    }

-- the run of a tree with more turns, before what stays, stays
pub Stays-run : (tree : Tree) (n m : ℕ) → n ≤ m → (next further : Next) → Stays next further →
    Stays (run tree n next) (run tree m further)
Stays-run End n m le next further h = h
Stays-run (Assign x e rest) n m le next further h =
    let after = Stays-run rest n m le next further h in
    record {
      stays = λ variables lists.
          StaysUncut-with_value (value e variables) variables lists _ _ (λ v. after.stays (set variables x v) lists);
    }
Stays-run (Read i x rest) n m le next further h =
    let after = Stays-run rest n m le next further h in
    record {
      stays = λ variables lists.
          StaysUncut-with_item (list_at lists i) i variables lists _ _ (λ v items.
          StaysUncut-says (Got i v) _ _ (after.stays (set variables x v) (set lists i items)));
    }
Stays-run (Write o e rest) n m le next further h =
    let after = Stays-run rest n m le next further h in
    record {
      stays = λ variables lists.
          StaysUncut-with_value (value e variables) variables lists _ _ (λ v.
          StaysUncut-says (Put o v) _ _ (after.stays variables lists));
    }
Stays-run (If e first second rest) n m le next further h =
    let after = Stays-run rest n m le next further h in
    let first' = Stays-run first n m le (run rest n next) (run rest m further) after in
    let second' = Stays-run second n m le (run rest n next) (run rest m further) after in
    record {
      stays = λ variables lists.
          StaysUncut-with_value (value e variables) variables lists _ _ (λ v.
          StaysUncut-choose v _ _ _ _ (first'.stays variables lists) (second'.stays variables lists));
    }
Stays-run (While e body rest) n m le next further h =
    Stays-turns e (run body n) (run body m) (λ k k' f. Stays-run body n m le k k' f) n m le
    (run rest n next) (run rest m further) (Stays-run rest n m le next further h)
Stays-run (Set base size i e rest) n m le next further h =
    let after = Stays-run rest n m le next further h in
    record {
      stays = λ variables lists.
          StaysUncut-with_value (value i variables >>= index_in size) variables lists _ _ (λ index.
          StaysUncut-with_value (value e variables) variables lists _ _ (λ v.
          after.stays (set variables (base + unsigned_abs index) v) lists));
    }
