-- A run says only what it got from its lists, and depends on nothing else. Whatever puts runs together keeps each law,
-- so the run of a tree keeps it.
use Rattle.kpn_lang.proofs.Common.{◌≡◌, ℕ, zero, suc, ◌+◌, ℤ, cond, Bool, true, false, Result, Ok, Err, List, [], ◌∷◌, ◌++◌, set, refl, sym, ap, ◌∙◌, inl, inr, eq-eqb, unsigned_abs, cases_eq, ne_eqb, Fault, Said, Got, Put, Ending, Faulted, Cut, Term, value, is_zero, index_in, ◌>>=◌, Ran, Next, Lists, list_at, ends, says, with_value, with_item, choose, turns, run, IsPrefix, got_at, BeginsWithGot}
use Rattle.kpn_lang.specs.Tree.{Tree, End, Assign, Read, Write, If, While, Set}
use Rattle.kpn_lang.proofs.Families.{port_is_there, list_at-set_same, list_at-set_other}

-- ---- what a talk got

pub got_at-got_same : (port : ℕ) (v : ℤ) (talk : List Said) → got_at (Got port v ∷ talk) port ≡ v ∷ got_at talk port
got_at-got_same port v talk = rw (eq-eqb port port refl)

pub got_at-got_other : (port : ℕ) (v : ℤ) (talk : List Said) (other : ℕ) → (other ≡ port → ⊥) →
    got_at (Got port v ∷ talk) other ≡ got_at talk other
got_at-got_other port v talk other h = rw (ne_eqb port other (λ e. h (sym e)))

-- ---- each list is what was got from it and what remains

pub record Accounts (lists : Lists) (ran : Ran) : Type 0 where
  pub each : (port : ℕ) → list_at lists port ≡ got_at ran.talk port ++ list_at ran.rest port

pub record AccountsNext (next : Next) : Type 0 where
  pub accounts : (variables : List ℤ) (lists : Lists) → Accounts lists (next variables lists)

pub Accounts-ends : (ending : Ending) (variables : List ℤ) (lists : Lists) →
    Accounts lists (ends ending variables lists)
Accounts-ends ending variables lists = record { each = λ port. refl }

pub Accounts-put : (port : ℕ) (v : ℤ) (lists : Lists) (ran : Ran) → Accounts lists ran →
    Accounts lists (says (Put port v) ran)
Accounts-put port v lists ran h = record { each = λ other. h.each other }

pub Accounts-got : (port : ℕ) (v : ℤ) (rest : List ℤ) (lists : Lists) (ran : Ran) → list_at lists port ≡ v ∷ rest →
    Accounts (set lists port rest) ran → Accounts lists (says (Got port v) ran)
Accounts-got port v rest lists ran e h =
    let there = port_is_there lists port v rest e in
    record {
      each = λ other. elim (cases_eq other port) [
        | inl same ↦
            rw same (
            e
            ∙ ap (λ xs. v ∷ xs) (sym (list_at-set_same lists port rest there) ∙ h.each port)
            ∙ ap (λ xs. xs ++ list_at ran.rest port) (sym (got_at-got_same port v ran.talk)))
        | inr differ ↦
            sym (list_at-set_other lists port other rest differ)
            ∙ h.each other
            ∙ ap (λ xs. xs ++ list_at ran.rest other) (sym (got_at-got_other port v ran.talk other differ))
      ];
    }

pub Accounts-choose : (v : ℤ) (lists : Lists) (first second : Ran) → Accounts lists first → Accounts lists second →
    Accounts lists (choose v first second)
Accounts-choose v lists first second h k = which (is_zero v)
  where
    which : (b : Bool) → Accounts lists (cond b second first)
    which true = k
    which false = h

pub Accounts-with_value : (r : Result ℤ Fault) (variables : List ℤ) (lists : Lists) (go : ℤ → Ran) →
    ((v : ℤ) → Accounts lists (go v)) → Accounts lists (with_value r variables lists go)
Accounts-with_value (Ok v) variables lists go h = h v
Accounts-with_value (Err fault) variables lists go h = Accounts-ends (Faulted fault) variables lists

pub Accounts-with_item : (items : List ℤ) (port : ℕ) (variables : List ℤ) (lists : Lists) (go : ℤ → List ℤ → Ran) →
    list_at lists port ≡ items → ((v : ℤ) (rest : List ℤ) → list_at lists port ≡ v ∷ rest →
    Accounts lists (go v rest)) → Accounts lists (with_item items port variables lists go)
Accounts-with_item [] port variables lists go e h = Accounts-ends _ variables lists
Accounts-with_item (v ∷ rest) port variables lists go e h = h v rest e

pub Accounts-turns : (test : Term) (body : Next → Next) →
    ((next : Next) → AccountsNext next → AccountsNext (body next)) → (left : ℕ) (next : Next) → AccountsNext next →
    AccountsNext (turns left test body next)
Accounts-turns test body b zero next h =
    record {
      accounts = λ variables lists.
          Accounts-with_value (value test variables) variables lists _ (λ v.
          Accounts-choose v lists _ _ (Accounts-ends Cut variables lists) (h.accounts variables lists));
    }
Accounts-turns test body b (suc left) next h =
    let again = b _ (Accounts-turns test body b left next h) in
    record {
      accounts = λ variables lists.
          Accounts-with_value (value test variables) variables lists _ (λ v.
          Accounts-choose v lists _ _ (again.accounts variables lists) (h.accounts variables lists));
    }

pub Accounts-run : (tree : Tree) (n : ℕ) (next : Next) → AccountsNext next → AccountsNext (run tree n next)
Accounts-run End n next h = h
Accounts-run (Assign x e rest) n next h =
    let after = Accounts-run rest n next h in
    record {
      accounts = λ variables lists.
          Accounts-with_value (value e variables) variables lists _ (λ v. after.accounts (set variables x v) lists);
    }
Accounts-run (Read i x rest) n next h =
    let after = Accounts-run rest n next h in
    record {
      accounts = λ variables lists.
          Accounts-with_item (list_at lists i) i variables lists _ refl (λ v items e.
          Accounts-got i v items lists _ e (after.accounts (set variables x v) (set lists i items)));
    }
Accounts-run (Write o e rest) n next h =
    let after = Accounts-run rest n next h in
    record {
      accounts = λ variables lists.
          Accounts-with_value (value e variables) variables lists _ (λ v.
          Accounts-put o v lists _ (after.accounts variables lists));
    }
Accounts-run (If e first second rest) n next h =
    let after = Accounts-run rest n next h in
    let first' = Accounts-run first n (run rest n next) after in
    let second' = Accounts-run second n (run rest n next) after in
    record {
      accounts = λ variables lists.
          Accounts-with_value (value e variables) variables lists _ (λ v.
          Accounts-choose v lists _ _ (first'.accounts variables lists) (second'.accounts variables lists));
    }
Accounts-run (While e body rest) n next h =
    Accounts-turns e (run body n) (λ k f. Accounts-run body n k f) n (run rest n next) (Accounts-run rest n next h)
Accounts-run (Set base size i e rest) n next h =
    let after = Accounts-run rest n next h in
    record {
      accounts = λ variables lists.
          Accounts-with_value (value i variables >>= index_in size) variables lists _ (λ index.
          Accounts-with_value (value e variables) variables lists _ (λ v.
          after.accounts (set variables (base + unsigned_abs index) v) lists));
    }

-- ---- the same is said wherever the same is got

-- what the one says the other says too, if its lists begin with the items got
pub record SaysAlike (others : Lists) (ran other : Ran) : Type 0 where
  pub says_too : (talk : List Said) → IsPrefix talk ran.talk → BeginsWithGot talk others → IsPrefix talk other.talk

pub record LocalNext (next : Next) : Type 0 where
  pub local : (variables : List ℤ) (lists others : Lists) →
      SaysAlike others (next variables lists) (next variables others)

-- a run that said nothing
pub SaysAlike-silent : (ending : Ending) (variables : List ℤ) (lists others : Lists) (other : Ran) →
    SaysAlike others (ends ending variables lists) other
SaysAlike-silent ending variables lists others other = record { says_too = silent }
  where
    silent : (talk : List Said) → IsPrefix talk [] → BeginsWithGot talk others → IsPrefix talk other.talk
    silent [] p b = tt
    silent (said ∷ talk) p b = absurd p

pub SaysAlike-put : (port : ℕ) (v : ℤ) (others : Lists) (ran other : Ran) → SaysAlike others ran other →
    SaysAlike others (says (Put port v) ran) (says (Put port v) other)
SaysAlike-put port v others ran other h = record { says_too = begins }
  where
    begins : (talk : List Said) → IsPrefix talk (Put port v ∷ ran.talk) → BeginsWithGot talk others →
        IsPrefix talk (Put port v ∷ other.talk)
    begins [] p b = tt
    begins (said ∷ talk) p b =
        (p.0, h.says_too talk p.1 (record { each = (rw p.0 at b).each }))

-- the lists that begin with what a talk got, after its first get
pub BeginsWithGot-first : (port : ℕ) (v : ℤ) (talk : List Said) (others : Lists) →
    BeginsWithGot (Got port v ∷ talk) others → IsPrefix (v ∷ got_at talk port) (list_at others port)
BeginsWithGot-first port v talk others b = rw (eq-eqb port port refl) at (b.each port)

pub BeginsWithGot-rest : (port : ℕ) (v : ℤ) (rest : List ℤ) (talk : List Said) (others : Lists) →
    BeginsWithGot (Got port v ∷ talk) others → list_at others port ≡ v ∷ rest →
    BeginsWithGot talk (set others port rest)
BeginsWithGot-rest port v rest talk others b e =
    let there = port_is_there others port v rest e in
    let first = rw e at (BeginsWithGot-first port v talk others b) in
    record {
      each = λ other. elim (cases_eq other port) [
        | inl same ↦ rw (same, list_at-set_same others port rest there) first.1
        | inr differ ↦ rw (
          list_at-set_other others port other rest differ,
          ← got_at-got_other port v talk other differ,
        ) (b.each other)
      ];
    }

pub SaysAlike-got : (port : ℕ) (v : ℤ) (variables : List ℤ) (others : Lists) (ran : Ran) (go : ℤ → List ℤ → Ran) →
    ((rest : List ℤ) → list_at others port ≡ v ∷ rest → SaysAlike (set others port rest) ran (go v rest)) →
    SaysAlike others (says (Got port v) ran) (with_item (list_at others port) port variables others
    (λ w rest. says (Got port w) (go w rest)))
SaysAlike-got port v variables others ran go h = record { says_too = begins }
  where
    reads : (items : List ℤ) (talk : List Said) → list_at others port ≡ items → IsPrefix talk ran.talk →
        BeginsWithGot (Got port v ∷ talk) others → IsPrefix (v ∷ got_at talk port) items →
        IsPrefix (Got port v ∷ talk) (with_item items port variables others
        (λ w rest. says (Got port w) (go w rest))).talk
    reads [] talk e p b q = absurd q
    reads (w ∷ rest) talk e p b q =
        let e' : list_at others port ≡ v ∷ rest = e ∙ ap (λ u. u ∷ rest) (sym q.0) in
        let said = (h rest e').says_too talk p (BeginsWithGot-rest port v rest talk others b e') in
        rw (← q.0) (refl, said)

    begins : (talk : List Said) → IsPrefix talk (Got port v ∷ ran.talk) → BeginsWithGot talk others →
        IsPrefix talk (with_item (list_at others port) port variables others
        (λ w rest. says (Got port w) (go w rest))).talk
    begins [] p b = tt
    begins (said ∷ talk) p b =
        let b' : BeginsWithGot (Got port v ∷ talk) others = rw p.0 at b in
        rw (p.0) (reads (list_at others port) talk refl p.1 b' (BeginsWithGot-first port v talk others b'))

pub SaysAlike-choose : (v : ℤ) (others : Lists) (first second first' second' : Ran) → SaysAlike others first first' →
    SaysAlike others second second' → SaysAlike others (choose v first second) (choose v first' second')
SaysAlike-choose v others first second first' second' h k = which (is_zero v)
  where
    which : (b : Bool) → SaysAlike others (cond b second first) (cond b second' first')
    which true = k
    which false = h

pub SaysAlike-with_value : (r : Result ℤ Fault) (variables : List ℤ) (lists others : Lists) (go go' : ℤ → Ran) →
    ((v : ℤ) → SaysAlike others (go v) (go' v)) → SaysAlike others (with_value r variables lists go)
    (with_value r variables others go')
SaysAlike-with_value (Ok v) variables lists others go go' h = h v
SaysAlike-with_value (Err fault) variables lists others go go' h =
    SaysAlike-silent (Faulted fault) variables lists others _

pub Local-turns : (test : Term) (body : Next → Next) → ((next : Next) → LocalNext next → LocalNext (body next)) →
    (left : ℕ) (next : Next) → LocalNext next → LocalNext (turns left test body next)
Local-turns test body b zero next h =
    record {
      local = λ variables lists others.
          SaysAlike-with_value (value test variables) variables lists others _ _ (λ v.
          SaysAlike-choose v others _ _ _ _ (SaysAlike-silent Cut variables lists others _)
          (h.local variables lists others));
    }
Local-turns test body b (suc left) next h =
    let again = b _ (Local-turns test body b left next h) in
    record {
      local = λ variables lists others.
          SaysAlike-with_value (value test variables) variables lists others _ _ (λ v.
          SaysAlike-choose v others _ _ _ _ (again.local variables lists others) (h.local variables lists others));
    }

-- a read, by what the first list has
reads_alike : (items : List ℤ) (i x : ℕ) (variables : List ℤ) (lists others : Lists) (next : Next) → LocalNext next →
    SaysAlike others (with_item items i variables lists
    (λ v rest. says (Got i v) (next (set variables x v) (set lists i rest))))
    (with_item (list_at others i) i variables others
    (λ v rest. says (Got i v) (next (set variables x v) (set others i rest))))
reads_alike [] i x variables lists others next h = SaysAlike-silent _ variables lists others _
reads_alike (v ∷ items) i x variables lists others next h =
    SaysAlike-got i v variables others _ (λ w rest. next (set variables x w) (set others i rest)) (λ rest e.
    h.local (set variables x v) (set lists i items) (set others i rest))

pub Local-run : (tree : Tree) (n : ℕ) (next : Next) → LocalNext next → LocalNext (run tree n next)
Local-run End n next h = h
Local-run (Assign x e rest) n next h =
    let after = Local-run rest n next h in
    record {
      local = λ variables lists others.
          SaysAlike-with_value (value e variables) variables lists others _ _
          (λ v. after.local (set variables x v) lists others);
    }
Local-run (Read i x rest) n next h =
    let after = Local-run rest n next h in
    record {
      local = λ variables lists others. reads_alike (list_at lists i) i x variables lists others
          (run rest n next) after;
    }
Local-run (Write o e rest) n next h =
    let after = Local-run rest n next h in
    record {
      local = λ variables lists others.
          SaysAlike-with_value (value e variables) variables lists others _ _ (λ v.
          SaysAlike-put o v others _ _ (after.local variables lists others));
    }
Local-run (If e first second rest) n next h =
    let after = Local-run rest n next h in
    let first' = Local-run first n (run rest n next) after in
    let second' = Local-run second n (run rest n next) after in
    record {
      local = λ variables lists others.
          SaysAlike-with_value (value e variables) variables lists others _ _ (λ v.
          SaysAlike-choose v others _ _ _ _ (first'.local variables lists others)
          (second'.local variables lists others));
    }
Local-run (While e body rest) n next h =
    Local-turns e (run body n) (λ k f. Local-run body n k f) n (run rest n next) (Local-run rest n next h)
Local-run (Set base size i e rest) n next h =
    let after = Local-run rest n next h in
    record {
      local = λ variables lists others.
          SaysAlike-with_value (value i variables >>= index_in size) variables lists others _ _ (λ index.
          SaysAlike-with_value (value e variables) variables lists others _ _ (λ v.
          after.local (set variables (base + unsigned_abs index) v) lists others));
    }
