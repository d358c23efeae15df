-- Names in tables, and tables taken item by item.
use Rattle.kpn_text.proofs.Common.{◌≡◌, ℕ, zero, suc, ◌+◌, ◌<◌, ◌≤◌, List, [], ◌∷◌, ◌++◌, length, map, get_or, drop, Option, Some, None, Result, Ok, Err, refl, sym, ap, ◌∙◌, subst, append_assoc, append-nil, add-one, arith, length-append, inl, inr, drop-cons, drop_all, Cause, in_network, network_cause, or_cause, programs_cause, program_or, tables_cause, ProgramFault, Parts, first_fault, NetFault, ChannelSpec, Growth, Policy, Instance, NetworkSize, Tables, MakesNetwork, first_network_fault, TextFault, ProgramParts, named_seen, program_seen, NetworkNames, ProcessNames, SharedTables, named_table, names_in, process_names_in, paired, net_fault, TellsCause, program_told}
use Rattle.std.specs.Prelude.{slice_get, IfSome, IfNone, ◌⊎◌}
use Rattle.std.proofs.lemmas.Option.{slice_get-get_or, get_or_from_slice_get, slice_get_within}
use Rattle.kpn_lang.specs.declared.program.ProgramFault.TheVariants as rule
use Rattle.kpn_net.specs.declared.fault.NetFault.TheVariants as net
use Rattle.kpn_net.specs.View.{tables_with}
use Rattle.kpn_text.specs.declared.fault.TextFault.TheVariants as text
use Rattle.kpn_text_names.specs.declared.document.Named.{Named}
use Rattle.kpn_text_names.specs.declared.network_names.NamedTable.{NamedTable}

-- past its end nothing of a list remains
drop_from_none : {A : Type 0} (xs : List A) (place : ℕ) → slice_get xs place ≡ None → drop place xs ≡ []
drop_from_none [] zero e = refl
drop_from_none [] (suc place) e = refl
drop_from_none (x ∷ xs) zero e = absurd cc
drop_from_none (x ∷ xs) (suc place) e = drop_from_none xs place e

-- ---- a table copied name by name

drop_next : {A : Type 0} (xs : List A) (i : ℕ) (x : A) → slice_get xs i ≡ Some x → drop i xs ≡ x ∷ drop (i + 1) xs
drop_next xs i x e =
    rw (add-one, drop-cons xs i x (slice_get_within xs i x e), get_or_from_slice_get xs i x x e) refl

pub one_more : {A : Type 0} (own new xs : List A) (i : ℕ) (x : A) → own ++ drop i xs ≡ xs → slice_get xs i ≡ Some x
    → new ≡ own ++ x ∷ [] → new ++ drop (i + 1) xs ≡ xs
one_more own new xs i x e is f =
    ap (λ l. l ++ drop (i + 1) xs) f ∙ append_assoc own (x ∷ []) (drop (i + 1) xs)
    ∙ ap (λ l. own ++ l) (sym (drop_next xs i x is)) ∙ e

pub all_there : {A : Type 0} (own xs : List A) (i : ℕ) → own ++ drop i xs ≡ xs → length xs ≤ i → own ≡ xs
all_there own xs i e h = sym (append-nil own) ∙ ap (λ l. own ++ l) (sym (drop_all i xs h)) ∙ e

pub none_left : {A : Type 0} (own xs : List A) (i : ℕ) → own ++ drop i xs ≡ xs → slice_get xs i ≡ None → own ≡ xs
none_left own xs i e f = sym (append-nil own) ∙ ap (λ l. own ++ l) (sym (drop_from_none xs i f)) ∙ e

-- ---- two tables taken side by side

paired-none : {A B C : Type 0} (f : A → B → C) (xs : List A) → paired f xs [] ≡ []
paired-none f [] = refl
paired-none f (x ∷ xs) = refl

-- what was paired of two lists up to a place, and what is left of them
pub record Pairs {A B Y C : Type 0} (f : A → B → C) (g : Y → B) (own : List C) (xs : List A) (ys : List Y)
    (i : ℕ) : Type 0 where
  pub is : own ++ paired f (drop i xs) (map g (drop i ys)) ≡ paired f xs (map g ys)

pub pairs_start : {A B Y C : Type 0} (f : A → B → C) (g : Y → B) (xs : List A) (ys : List Y) (own : List C) → own ≡ []
    → Pairs f g own xs ys 0
pairs_start f g xs ys own e = record { is = rw e refl }

pub pairs_next : {A B Y C : Type 0} (f : A → B → C) (g : Y → B) (own new : List C) (xs : List A) (ys : List Y) (i : ℕ)
    (x : A) (y : Y) → Pairs f g own xs ys i → slice_get xs i ≡ Some x → y ≡ get_or ys i y → i < length ys
    → new ≡ own ++ f x (g y) ∷ [] → Pairs f g new xs ys (i + 1)
pairs_next f g own new xs ys i x y p is at h e =
    let front : drop i xs ≡ x ∷ drop (i + 1) xs = drop_next xs i x is in
    let back : drop i ys ≡ y ∷ drop (i + 1) ys = drop_next ys i y (slice_get-get_or ys i y h ∙ ap Some (sym at)) in
    let whole : own ++ paired f (x ∷ drop (i + 1) xs) (map g (y ∷ drop (i + 1) ys)) ≡ paired f xs (map g ys) =
    ap (λ l. own ++ paired f l (map g (y ∷ drop (i + 1) ys))) (sym front)
    ∙ ap (λ l. own ++ paired f (drop i xs) (map g l)) (sym back) ∙ p.is in
    record {
      is = ap (λ l. l ++ paired f (drop (i + 1) xs) (map g (drop (i + 1) ys))) e
          ∙ append_assoc own (f x (g y) ∷ []) (paired f (drop (i + 1) xs) (map g (drop (i + 1) ys))) ∙ whole;
    }

-- the same with the item that stands there
pub pairs_next_at : {A B Y C : Type 0} (f : A → B → C) (g : Y → B) (own new : List C) (xs : List A) (ys : List Y)
    (i : ℕ) (x : A) (d : Y) → Pairs f g own xs ys i → slice_get xs i ≡ Some x → i < length ys
    → new ≡ own ++ f x (g (get_or ys i d)) ∷ [] → Pairs f g new xs ys (i + 1)
pairs_next_at f g own new xs ys i x d p is h e =
    let there : slice_get ys i ≡ Some (get_or ys i d) = slice_get-get_or ys i d h in
    pairs_next f g own new xs ys i x (get_or ys i d) p is
    (sym (get_or_from_slice_get ys i (get_or ys i d) (get_or ys i d) there)) h e

pub pairs_end : {A B Y C : Type 0} (f : A → B → C) (g : Y → B) (own : List C) (xs : List A) (ys : List Y) (i : ℕ)
    → Pairs f g own xs ys i → length ys ≤ i → own ≡ paired f xs (map g ys)
pairs_end f g own xs ys i p h =
    sym (append-nil own)
    ∙ ap (λ l. own ++ l)
    (sym (ap (λ l. paired f (drop i xs) (map g l)) (drop_all i ys h) ∙ paired-none f (drop i xs))) ∙ p.is

pub pairs_break : {A B Y C : Type 0} (f : A → B → C) (g : Y → B) (own : List C) (xs : List A) (ys : List Y) (i : ℕ)
    → Pairs f g own xs ys i → slice_get xs i ≡ None → own ≡ paired f xs (map g ys)
pairs_break f g own xs ys i p e =
    sym (append-nil own) ∙ ap (λ l. own ++ l) (sym (ap (λ l. paired f l (map g (drop i ys))) (drop_from_none xs i e)))
    ∙ p.is

-- a list seen as it is
pub same_list : {A : Type 0} (xs : List A) → map (λ x. x) xs ≡ xs
same_list [] = refl
same_list (x ∷ xs) = ap (λ l. x ∷ l) (same_list xs)

-- ---- programs made one after the other

-- the programs so far and the parts that are left are all of them, and what is wrong with one is left
pub record Made (all made rest : List Parts) : Type 0 where
  pub parts : made ++ rest ≡ all
  pub cause : programs_cause 0 all ≡ programs_cause (length made) rest

-- a program that was made keeps the rules, and has the parts
pub program_made : (number : ℕ) (f : Option ProgramFault) (parts program : Parts)
    → IfSome f (λ fault. ◌≡◌ {A = Result Parts ProgramFault} (Ok program) (Err fault)) → IfNone f (program ≡ parts)
    → (program_or number f None ≡ None) × (program ≡ parts)
program_made number None parts program e h = (refl, h)
program_made number (Some fault) parts program e h = absurd cc

told_so : (number : ℕ) (fault : ProgramFault)
    → (program_told number fault ≡ text.NoMemory) ⊎ (program_told number fault ≡ text.Program number fault)
told_so number rule.TooMany = inr refl
told_so number rule.NoSuchBlock = inr refl
told_so number rule.BlockOrder = inr refl
told_so number rule.NoSuchVar = inr refl
told_so number rule.NoSuchPort = inr refl
told_so number rule.TooDeep = inr refl
told_so number rule.NoMemory = inl refl

-- a program that was not made breaks a rule, and the fault states that, or memory ran out
pub program_broken : (number : ℕ) (f : Option ProgramFault) (fault : ProgramFault) (told : TextFault)
    → IfSome f (λ found. ◌≡◌ {A = Result Parts ProgramFault} (Err fault) (Err found))
    → IfNone f (fault ≡ rule.NoMemory) → told ≡ program_told number fault
    → (told ≡ text.NoMemory) ⊎ TellsCause (program_or number f None) told
program_broken number None fault told e h t = inl (t ∙ ap (program_told number) h)
program_broken number (Some found) fault told e h t =
    let same : fault ≡ found = cc in
    let by : told ≡ program_told number found = t ∙ ap (program_told number) same in
    elim (told_so number found) [ inl m ↦ inl (by ∙ m) | inr m ↦ inr (by ∙ m) ]

-- no cause in a program: it keeps the rules
pub program_keeps : (number : ℕ) (f : Option ProgramFault) → program_or number f None ≡ None → f ≡ None
program_keeps number None e = refl
program_keeps number (Some fault) e = absurd cc

length-pushed : (made : List Parts) (p : Parts) → length (made ++ p ∷ []) ≡ suc (length made)
length-pushed made p = simp length-append (omega arith)

pub made_start : (all made rest : List Parts) → made ≡ [] → rest ≡ all → Made all made rest
made_start all made rest e f = rw (e, f) (record { parts = refl; cause = refl })

pub made_next : (all made rest after new : List Parts) (p program : Parts) → Made all made rest → rest ≡ p ∷ after
    → (first_fault p ≡ None) × (program ≡ p) → new ≡ made ++ program ∷ [] → Made all new after
made_next all made rest after new p program m e is pushed =
    let same : new ≡ made ++ p ∷ [] = pushed ∙ ap (λ q. made ++ q ∷ []) is.1 in
    let count : length new ≡ suc (length made) = ap length same ∙ length-pushed made p in
    record {
      parts = ap (λ l. l ++ after) same ∙ append_assoc made (p ∷ []) after ∙ ap (λ l. made ++ l) (sym e) ∙ m.parts;
      cause =
          m.cause ∙ ap (programs_cause (length made)) e
          ∙ ap (λ f. program_or (length made) f (programs_cause (suc (length made)) after)) is.0
          ∙ ap (λ n. programs_cause n after) (sym count);
    }

pub made_all : (all made rest : List Parts) → Made all made rest → rest ≡ []
    → (programs_cause 0 all ≡ None) × (made ≡ all)
made_all all made rest m e =
    (m.cause ∙ ap (programs_cause (length made)) e, sym (append-nil made) ∙ ap (λ l. made ++ l) (sym e) ∙ m.parts)

told_first : (number : ℕ) (f : Option ProgramFault) (after : Option Cause) (told : TextFault)
    → TellsCause (program_or number f None) told → TellsCause (program_or number f after) told
told_first number None after told t = absurd t
told_first number (Some fault) after told t = t

pub made_broken : (all made rest after : List Parts) (p : Parts) (number : ℕ) (told : TextFault) → Made all made rest
    → rest ≡ p ∷ after → number ≡ length made
    → (told ≡ text.NoMemory) ⊎ TellsCause (program_or number (first_fault p) None) told
    → (told ≡ text.NoMemory) ⊎ TellsCause (programs_cause 0 all) told
made_broken all made rest after p number told m e count (inl memory) = inl memory
made_broken all made rest after p number told m e count (inr tells) =
    let found
    : programs_cause 0 all ≡ program_or (length made) (first_fault p) (programs_cause (suc (length made)) after) =
    m.cause ∙ ap (programs_cause (length made)) e in
    inr (subst (λ c. TellsCause c told) (sym found)
    (told_first (length made) (first_fault p) _ told
    (subst (λ n. TellsCause (program_or n (first_fault p) None) told) count tells)))

-- ---- the programs, and then the network

-- the fault of the network is that of the tables if each program keeps the rules
network_then : (s : NetworkSize) (t : Tables) (fault : NetFault) (told : TextFault) → programs_cause 0 t.programs ≡ None
    → first_network_fault s t ≡ Some fault → told ≡ net_fault fault → TellsCause (tables_cause s t) told
network_then s t fault told e f h =
    let found : tables_cause s t ≡ Some (in_network fault) =
    ap (λ c. or_cause c (network_cause (first_network_fault s t))) e ∙ ap network_cause f in
    subst (λ c. TellsCause c told) (sym found) h

-- ---- the names of a description

map_twice : (shared : SharedTables) (ps : List ProgramParts)
    → map (λ p. p.scope) ps ≡ map (λ q. q.names) (map (program_seen shared) ps)
map_twice shared [] = refl
map_twice shared (p ∷ ps) = ap (λ l. p.scope ∷ l) (map_twice shared ps)

pub names_are : (n : Named) (tables : List NamedTable) (processes : List ProcessNames)
    (instances channels : List (List ℕ)) (slice : List ProgramParts) → slice ≡ n.programs.items
    → tables ≡ paired named_table n.shared.names n.shared.values
    → processes ≡ paired process_names_in n.processes (map (λ p. p.scope) slice)
    → instances ≡ n.instance_names → channels ≡ n.channel_names
    → ◌≡◌ {A = NetworkNames}
    (record { tables = tables; processes = processes; instances = instances; channels = channels })
    (names_in (named_seen n))
names_are n tables processes instances channels slice s t e f g =
    let whole : processes
    ≡ paired process_names_in n.processes (map (λ q. q.names) (map (program_seen n.shared) n.programs.items)) =
    e ∙ ap (λ l. paired process_names_in n.processes (map (λ p. p.scope) l)) s
    ∙ ap (paired process_names_in n.processes) (map_twice n.shared n.programs.items) in
    λ i. record { tables = t i; processes = whole i; instances = f i; channels = g i }

-- ---- what a network answers

module _ (s : NetworkSize) (programs parts : List Parts) (instances : List Instance) (channels : List ChannelSpec) (limit : ℕ)
    (policy : Policy) (growth : Growth) where
  abbrev given : Tables
  given = tables_with programs instances channels limit policy growth

  abbrev meant : Tables
  meant = tables_with parts instances channels limit policy growth

  pub network_made : (network : Tables) → programs_cause 0 parts ≡ None → programs ≡ parts
      → MakesNetwork s given (Ok network) → (tables_cause s meant ≡ None) × (network ≡ meant)
  network_made network none e made =
      let same : given ≡ meant = ap (λ ps. tables_with ps instances channels limit policy growth) e in
      let sound : first_network_fault s meant ≡ None = ap (first_network_fault s) (sym same) ∙ made.0 in
      (ap (λ c. or_cause c (network_cause (first_network_fault s meant))) none ∙ ap network_cause sound, made.1 ∙ same)

  pub network_broken : (fault : NetFault) (told : TextFault) → programs_cause 0 parts ≡ None → programs ≡ parts
      → MakesNetwork s given (Err fault) → told ≡ net_fault fault
      → (told ≡ text.NoMemory) ⊎ TellsCause (tables_cause s meant) told
  network_broken fault told none e broken h =
      let same : given ≡ meant = ap (λ ps. tables_with ps instances channels limit policy growth) e in
      elim broken [
        | inl m ↦ inl (h ∙ ap net_fault m)
        | inr f ↦ inr (network_then s meant fault told none (ap (first_network_fault s) (sym same) ∙ f) h)
      ]
