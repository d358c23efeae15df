-- The frame of a process after its talk, and what the process can say and come to from there.
use Rattle.std.proofs.Common.{◌≡◌, ◌≢◌, ℕ, ◌<◌, ℤ, true, false, eqb, cond, List, [], ◌∷◌, ◌++◌, length, set, get_or, refl, sym, ap, subst, ◌∙◌, inl, inr, arith, append_assoc, append-nil, length-set}
use Rattle.kpn_step.proofs.Common.{◌↔◌, cases_eq, nat_tests, same_lists, get_or_default, set-set, set-get_or, Fault, Said, Got, Put, Ending, Statement, Parts, IsProgram, Ran, Lists, list_at, ends, says, Process, CanSay, ComesTo, alone, got_at, port_is_there, list_at-set_same, list_at-set_other, Stop, Frame, start_frame, passed, residual, StandsAt, IsGiven, Advanced, IsAdvance, GoesOnAs, IsRestAfter, IsAfter, SaysNext, EndsThere}
use Rattle.kpn_lang.specs.declared.talk.Ending.TheVariants as ending
use Rattle.kpn_lang.proofs.Talks.{got_at-append}
use Rattle.kpn_step.specs.declared.stop.Stop.TheVariants.{WantRead, WantWrite, Done, Faulted, Paused}
use Rattle.kpn_step.proofs.Walked.{GoesOnAs-same, GoesOnAs-said, GoesOnAs-trans, SaysTheSame-start}

-- ---- what the talk took from the lists

same_families : (lists rest : Lists) → IsRestAfter [] lists rest → rest ≡ lists
same_families lists rest l =
    same_lists rest lists l.ports (λ k d h. at k d h)
  where
    at : (k : ℕ) (d : List ℤ) → k < length rest → get_or rest k d ≡ get_or lists k d
    at k d h = get_or-there rest k d h ∙ sym (l.each k) ∙ sym (get_or-there lists k d (omega (arith, l.ports)))
      where
        get_or-there : (xs : Lists) (k : ℕ) (d : List ℤ) → k < length xs → get_or xs k d ≡ list_at xs k
        get_or-there xs k d h = get_or_default xs k d [] h

-- one thing that was put takes nothing
IsRestAfter-put : (talk : List Said) (o : ℕ) (v : ℤ) (lists rest : Lists) →
    IsRestAfter (talk ++ Put o v ∷ []) lists rest → IsRestAfter talk lists rest
IsRestAfter-put talk o v lists rest l =
    record {
      ports = l.ports;
      each = λ port. l.each port ∙ ap (λ xs. xs ++ list_at rest port)
          (got_at-append talk (Put o v ∷ []) port ∙ append-nil (got_at talk port));
    }

-- before an item was got, it was the first of what remains
abbrev before_got : ℕ → ℤ → Lists → Lists
before_got port v rest = set rest port (v ∷ list_at rest port)

got_there : (talk : List Said) (port : ℕ) (v : ℤ) → got_at (talk ++ Got port v ∷ []) port ≡ got_at talk port ++ v ∷ []
got_there talk port v =
    let same : eqb port port ≡ true = grind (arith, nat_tests) in
    got_at-append talk (Got port v ∷ []) port ∙ ap (λ b. got_at talk port ++ cond b (v ∷ []) []) same

got_elsewhere : (talk : List Said) (port other : ℕ) (v : ℤ) → (other ≡ port → ⊥) →
    got_at (talk ++ Got port v ∷ []) other ≡ got_at talk other
got_elsewhere talk port other v differ =
    let no : eqb port other ≡ false = grind (arith, nat_tests) in
    got_at-append talk (Got port v ∷ []) other ∙ ap (λ b. got_at talk other ++ cond b (v ∷ []) []) no
    ∙ append-nil (got_at talk other)

nonempty : (xs ys : List ℤ) (v : ℤ) → (w : ℤ) × (items : List ℤ) × ((xs ++ v ∷ []) ++ ys ≡ w ∷ items)
nonempty [] ys v = (v, ys, refl)
nonempty (x ∷ xs) ys v = (x, (xs ++ v ∷ []) ++ ys, refl)

got_within : (talk : List Said) (port : ℕ) (v : ℤ) (lists rest : Lists) →
    IsRestAfter (talk ++ Got port v ∷ []) lists rest → port < length rest
got_within talk port v lists rest l =
    let some = nonempty (got_at talk port) (list_at rest port) v in
    let there = port_is_there lists port some.0 some.1
    (l.each port ∙ ap (λ xs. xs ++ list_at rest port) (got_there talk port v) ∙ some.2) in
    omega (arith, l.ports)

IsRestAfter-got : (talk : List Said) (port : ℕ) (v : ℤ) (lists rest : Lists) →
    IsRestAfter (talk ++ Got port v ∷ []) lists rest → IsRestAfter talk lists (before_got port v rest)
IsRestAfter-got talk port v lists rest l =
    record {
      ports = length-set rest port (v ∷ list_at rest port) ∙ l.ports;
      each = λ other. elim (cases_eq other port) [
        | inl same ↦ subst (λ i. list_at lists i ≡ got_at talk i ++ list_at (before_got port v rest) i) (sym same) here
        | inr differ ↦
            l.each other
            ∙ ap (λ xs. xs ++ list_at rest other) (got_elsewhere talk port other v differ)
            ∙ ap (λ xs. got_at talk other ++ xs) (sym
            (list_at-set_other rest port other (v ∷ list_at rest port) differ))
      ];
    }
  where
    here : list_at lists port ≡ got_at talk port ++ list_at (before_got port v rest) port
    here =
        l.each port
        ∙ ap (λ xs. xs ++ list_at rest port) (got_there talk port v)
        ∙ append_assoc (got_at talk port) (v ∷ []) (list_at rest port)
        ∙ ap (λ xs. got_at talk port ++ xs) (sym (list_at-set_same rest port (v ∷ list_at rest port)
        (got_within talk port v lists rest l)))

-- ---- the frame after a talk

pub IsAfter-start : (parts : Parts) (pars : List ℤ) → IsProgram parts → IsAfter parts pars [] (start_frame parts pars)
IsAfter-start parts pars program =
    record {
      goes_on = λ lists rest l.
          rw (same_families lists rest l)
          (GoesOnAs-same (alone parts pars) (residual parts.blocks (start_frame parts pars)) lists
          (SaysTheSame-start parts pars program));
    }

pub IsAfter-advance : (a : Advanced) (pars : List ℤ) (talk : List Said) → IsAdvance a →
    IsAfter a.program pars talk a.from → IsAfter a.program pars talk a.to
IsAfter-advance a pars talk advance h =
    record {
      goes_on = λ lists rest l.
          let p = alone a.program pars in
          let before = residual a.program.blocks a.from in
          let after = residual a.program.blocks a.to in
          subst (λ t. GoesOnAs p lists t after rest) (append-nil talk)
          (GoesOnAs-trans p before after lists rest rest talk [] (h.goes_on lists rest l)
          (GoesOnAs-same before after rest advance.same));
    }

pub IsAfter-got : (parts : Parts) (pars : List ℤ) (talk : List Said) (f g : Frame) (port : ℕ) (v : ℤ) →
    IsAfter parts pars talk f → StandsAt parts.blocks f (WantRead port) → IsGiven parts.blocks f v g →
    IsAfter parts pars (talk ++ Got port v ∷ []) g
IsAfter-got parts pars talk f g port v h at given =
    record {
      goes_on = λ lists rest l.
          let p = alone parts pars in
          let q = residual parts.blocks f in
          let r = residual parts.blocks g in
          let before = before_got port v rest in
          let there = got_within talk port v lists rest l in
          let first : list_at before port ≡ v ∷ list_at rest port =
          list_at-set_same rest port (v ∷ list_at rest port) there in
          let after : set before port (list_at rest port) ≡ rest =
          set-set rest port (v ∷ list_at rest port) (list_at rest port) ∙ set-get_or rest port [] in
          let same = given port at.0 at.1.statement in
          GoesOnAs-trans p q r lists before rest talk (Got port v ∷ [])
          (h.goes_on lists before (IsRestAfter-got talk port v lists rest l))
          (GoesOnAs-said q r before rest (Got port v) (λ n.
          at.1.got n before v (list_at rest port) first
          ∙ ap (λ s. says (Got port v) (residual parts.blocks s n (set before port (list_at rest port)))) (sym same)
          ∙ ap (λ s. says (Got port v) (residual parts.blocks g n s)) after));
    }

pub IsAfter-put : (parts : Parts) (pars : List ℤ) (talk : List Said) (f : Frame) (port : ℕ) (v : ℤ) →
    IsAfter parts pars talk f → StandsAt parts.blocks f (WantWrite port v) →
    IsAfter parts pars (talk ++ Put port v ∷ []) (passed f)
IsAfter-put parts pars talk f port v h at =
    record {
      goes_on = λ lists rest l.
          let q = residual parts.blocks f in
          let r = residual parts.blocks (passed f) in
          GoesOnAs-trans (alone parts pars) q r lists rest rest talk (Put port v ∷ [])
          (h.goes_on lists rest (IsRestAfter-put talk port v lists rest l))
          (GoesOnAs-said q r rest rest (Put port v) (λ n. at.put n rest));
    }

-- ---- processes that say nothing more, or one thing first

silent_says : (p : Process) (lists : Lists) (variables : List ℤ) (end : Ending) →
    ((n : ℕ) → p n lists ≡ ends end variables lists) → (said : Said) → CanSay p lists (said ∷ []) → ⊥
silent_says p lists variables end e said c = rw (e c.turns) at c.said

silent_ends : (p : Process) (lists : Lists) (variables : List ℤ) (end : Ending) →
    ((n : ℕ) → p n lists ≡ ends end variables lists) → end ≢ ending.Cut → (other : Ending) →
    (ComesTo p lists other [] ↔ (other ≡ end))
silent_ends p lists variables end e whole other = (
  λ c. sym c.ended ∙ ap (λ r. r.ending) (e c.turns),
  λ same. record {
    turns = 0;
    ended = ap (λ r. r.ending) (e 0) ∙ sym same;
    said = ap (λ r. r.talk) (e 0);
    whole = λ cut. whole (sym same ∙ cut);
  },
)

speaks_says : (p : Process) (lists : Lists) (first : Said) (q : ℕ → Ran) → ((n : ℕ) → p n lists ≡ says first (q n)) →
    (said : Said) → (CanSay p lists (said ∷ []) ↔ (said ≡ first))
speaks_says p lists first q e said =
    (λ c. (rw (e c.turns) at c.said).0, λ same. record { turns = 0; said = rw (e 0) (same, tt) })

speaks_ends : (p : Process) (lists : Lists) (first : Said) (q : ℕ → Ran) → ((n : ℕ) → p n lists ≡ says first (q n)) →
    (other : Ending) → ComesTo p lists other [] → ⊥
speaks_ends p lists first q e other c = let both = sym (ap (λ r. r.talk) (e c.turns)) ∙ c.said in cc

-- ---- what is next at the frame, by cases

read_next_none : (rest : Lists) (port : ℕ) (said : Said) → list_at rest port ≡ [] →
    SaysNext (WantRead port) rest said → ⊥
read_next_none rest port (Got i w) none h = let both = sym none ∙ h.1.1 in cc
read_next_none rest port (Put o w) none h = h

read_next_some : (rest : Lists) (port : ℕ) (v : ℤ) (items : List ℤ) (said : Said) → list_at rest port ≡ v ∷ items →
    ((said ≡ Got port v) ↔ SaysNext (WantRead port) rest said)
read_next_some rest port v items (Got i w) some = (
  λ e. (same_port e, (items, some ∙ ap (λ x. x ∷ items) (sym (same_item e)))),
  λ h. let both = sym some ∙ h.1.1 in cc,
)
  where
    same_port : Got i w ≡ Got port v → i ≡ port
    same_port e = cc

    same_item : Got i w ≡ Got port v → w ≡ v
    same_item e = cc
read_next_some rest port v items (Put o w) some = (λ e. absurd cc, λ h. absurd h)

write_next : (rest : Lists) (port : ℕ) (v : ℤ) (said : Said) →
    ((said ≡ Put port v) ↔ SaysNext (WantWrite port v) rest said)
write_next rest port v (Got i w) = (λ e. absurd cc, λ h. absurd h)
write_next rest port v (Put o w) = (λ e. (same_port e, same_item e), λ h. cc)
  where
    same_port : Put o w ≡ Put port v → o ≡ port
    same_port e = cc

    same_item : Put o w ≡ Put port v → w ≡ v
    same_item e = cc

read_ends_none : (rest : Lists) (port : ℕ) (end : Ending) → list_at rest port ≡ [] →
    ((end ≡ ending.Starved port) ↔ EndsThere (WantRead port) rest end)
read_ends_none rest port ending.Done none = (λ e. absurd cc, λ h. absurd h)
read_ends_none rest port (ending.Faulted fault) none = (λ e. absurd cc, λ h. absurd h)
read_ends_none rest port (ending.Starved i) none = (λ e. (same e, none), λ h. ap ending.Starved h.0)
  where
    same : ending.Starved i ≡ ending.Starved port → i ≡ port
    same e = cc
read_ends_none rest port ending.Cut none = (λ e. absurd cc, λ h. absurd h)

read_ends_some : (rest : Lists) (port : ℕ) (v : ℤ) (items : List ℤ) (end : Ending) → list_at rest port ≡ v ∷ items →
    EndsThere (WantRead port) rest end → ⊥
read_ends_some rest port v items ending.Done some h = h
read_ends_some rest port v items (ending.Faulted fault) some h = h
read_ends_some rest port v items (ending.Starved i) some h = let both = sym some ∙ h.1 in cc
read_ends_some rest port v items ending.Cut some h = h

write_ends : (rest : Lists) (port : ℕ) (v : ℤ) (end : Ending) → EndsThere (WantWrite port v) rest end → ⊥
write_ends rest port v ending.Done h = h
write_ends rest port v (ending.Faulted fault) h = h
write_ends rest port v (ending.Starved i) h = h
write_ends rest port v ending.Cut h = h

done_ends : (rest : Lists) (end : Ending) → ((end ≡ ending.Done) ↔ EndsThere Done rest end)
done_ends rest ending.Done = (λ e. tt, λ h. refl)
done_ends rest (ending.Faulted fault) = (λ e. absurd cc, λ h. absurd h)
done_ends rest (ending.Starved i) = (λ e. absurd cc, λ h. absurd h)
done_ends rest ending.Cut = (λ e. absurd cc, λ h. absurd h)

fault_ends : (rest : Lists) (fault : Fault) (end : Ending) →
    ((end ≡ ending.Faulted fault) ↔ EndsThere (Faulted fault) rest end)
fault_ends rest fault ending.Done = (λ e. absurd cc, λ h. absurd h)
fault_ends rest fault (ending.Faulted other) = (λ e. same e, λ h. ap ending.Faulted h)
  where
    same : ending.Faulted other ≡ ending.Faulted fault → other ≡ fault
    same e = cc
fault_ends rest fault (ending.Starved i) = (λ e. absurd cc, λ h. absurd h)
fault_ends rest fault ending.Cut = (λ e. absurd cc, λ h. absurd h)

-- ---- what a frame can say and come to, by its stop

both_ways : (A B C : Type 0) → (A ↔ B) → (B ↔ C) → (A ↔ C)
both_ways A B C h k = (λ a. k.0 (h.0 a), λ c. h.1 (k.1 c))

never : (A B : Type 0) → (A → ⊥) → (B → ⊥) → (A ↔ B)
never A B h k = (λ a. absurd (h a), λ b. absurd (k b))

module _ (blocks : List (List Statement)) (f : Frame) (rest : Lists) where
  reads_says : (port : ℕ) → StandsAt blocks f (WantRead port) → (said : Said) (xs : List ℤ) → list_at rest port ≡ xs →
      (CanSay (residual blocks f) rest (said ∷ []) ↔ SaysNext (WantRead port) rest said)
  reads_says port at said [] e =
      never _ _ (silent_says (residual blocks f) rest f.variables (ending.Starved port)
      (λ n. at.1.starved n rest e) said) (read_next_none rest port said e)
  reads_says port at said (v ∷ items) e =
      both_ways _ _ _ (speaks_says (residual blocks f) rest (Got port v) _ (λ n. at.1.got n rest v items e) said)
      (read_next_some rest port v items said e)

  reads_ends : (port : ℕ) → StandsAt blocks f (WantRead port) → (end : Ending) (xs : List ℤ) → list_at rest port ≡ xs →
      (ComesTo (residual blocks f) rest end [] ↔ EndsThere (WantRead port) rest end)
  reads_ends port at end [] e =
      both_ways _ _ _ (silent_ends (residual blocks f) rest f.variables (ending.Starved port)
      (λ n. at.1.starved n rest e) (λ cut. cc) end) (read_ends_none rest port end e)
  reads_ends port at end (v ∷ items) e =
      never _ _ (speaks_ends (residual blocks f) rest (Got port v) _ (λ n. at.1.got n rest v items e) end)
      (read_ends_some rest port v items end e)

  says_at : (stop : Stop) → StandsAt blocks f stop → stop ≢ Paused → (said : Said) →
      (CanSay (residual blocks f) rest (said ∷ []) ↔ SaysNext stop rest said)
  says_at (WantRead port) at whole said = reads_says port at said (list_at rest port) refl
  says_at (WantWrite port v) at whole said =
      both_ways _ _ _ (speaks_says (residual blocks f) rest (Put port v) _ (λ n. at.put n rest) said)
      (write_next rest port v said)
  says_at Done at whole said =
      never _ _ (silent_says (residual blocks f) rest f.variables ending.Done (λ n. at.ended n rest) said) (λ h. h)
  says_at (Faulted fault) at whole said =
      never _ _ (silent_says (residual blocks f) rest f.variables (ending.Faulted fault) (λ n. at.faulted n rest) said)
      (λ h. h)
  says_at Paused at whole said = absurd (whole refl)

  ends_at : (stop : Stop) → StandsAt blocks f stop → stop ≢ Paused → (end : Ending) →
      (ComesTo (residual blocks f) rest end [] ↔ EndsThere stop rest end)
  ends_at (WantRead port) at whole end = reads_ends port at end (list_at rest port) refl
  ends_at (WantWrite port v) at whole end =
      never _ _ (speaks_ends (residual blocks f) rest (Put port v) _ (λ n. at.put n rest) end)
      (write_ends rest port v end)
  ends_at Done at whole end =
      both_ways _ _ _ (silent_ends (residual blocks f) rest f.variables ending.Done (λ n. at.ended n rest)
      (λ cut. cc) end) (done_ends rest end)
  ends_at (Faulted fault) at whole end =
      both_ways _ _ _ (silent_ends (residual blocks f) rest f.variables (ending.Faulted fault) (λ n. at.faulted n rest)
      (λ cut. cc) end) (fault_ends rest fault end)
  ends_at Paused at whole end = absurd (whole refl)

-- ---- what the program can say and come to after its talk

pub talk_said : (parts : Parts) (pars : List ℤ) (talk : List Said) (f : Frame) (lists rest : Lists) →
    IsAfter parts pars talk f → IsRestAfter talk lists rest → CanSay (alone parts pars) lists talk
talk_said parts pars talk f lists rest h l =
    subst (CanSay (alone parts pars) lists) (append-nil talk)
    ((h.goes_on lists rest l).can [] (record { turns = 0; said = tt }))

pub next_said : (parts : Parts) (pars : List ℤ) (talk : List Said) (f : Frame) (stop : Stop) (lists rest : Lists)
    (said : Said) → IsAfter parts pars talk f → StandsAt parts.blocks f stop → stop ≢ Paused →
    IsRestAfter talk lists rest → (CanSay (alone parts pars) lists (talk ++ said ∷ []) ↔ SaysNext stop rest said)
next_said parts pars talk f stop lists rest said h at whole l =
    both_ways _ _ _ ((h.goes_on lists rest l).could (said ∷ []), (h.goes_on lists rest l).can (said ∷ []))
    (says_at parts.blocks f rest stop at whole said)

pub end_reached : (parts : Parts) (pars : List ℤ) (talk : List Said) (f : Frame) (stop : Stop) (lists rest : Lists)
    (end : Ending) → IsAfter parts pars talk f → StandsAt parts.blocks f stop → stop ≢ Paused →
    IsRestAfter talk lists rest → (ComesTo (alone parts pars) lists end talk ↔ EndsThere stop rest end)
end_reached parts pars talk f stop lists rest end h at whole l =
    subst (λ t. ComesTo (alone parts pars) lists end t ↔ EndsThere stop rest end) (append-nil talk)
    (both_ways _ _ _ ((h.goes_on lists rest l).came end [], (h.goes_on lists rest l).comes end [])
    (ends_at parts.blocks f rest stop at whole end))
