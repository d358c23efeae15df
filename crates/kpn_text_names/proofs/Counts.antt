-- There are as many names as processes, instances and channels.
use Rattle.kpn_text_names.proofs.Common.{◌≡◌, suc, List, [], ◌∷◌, ◌++◌, length, map, Ok, refl, sym, ap, subst, ◌∙◌, length-append, arith, length-map, ChannelSpec, Inner, Source, Sink, Language, NameBytes, ProcessNode, Item, channel, source, sink, instance, Description, each, and_then, SharedTables, shared_of, declared, settings_of, Wiring, within_32_bits, with_wired_channel, with_instance, with_wired_item, instance_of, all_channels, wiring, NamedProgram, Programs, named_program, with_named_process, programs_of, Named, named_with, EachIsNamed, resolve, AreNamed, names_in, paired, process_names_in}
use Rattle.kpn_text_grammar.specs.Syntax as grammar
use Rattle.kpn_text_names.proofs.Chains.{ok_is, went}
use Rattle.kpn_text_names.proofs.KnownNames.{declared_is}
use Rattle.kpn_text_names.proofs.Steps.{keeps}

-- ---- a name more

-- a table to which a name was added
one_longer : (table names : List NameBytes) (x : NameBytes) → declared table x ≡ Ok names → length names ≡ suc (length table)
one_longer table names x e =
    ap length (sym ((declared_is table x names e).1)) ∙ simp length-append (omega arith)

both_longer : {A : Type 0} (table names : List NameBytes) (things : List A) (thing : A) (x : NameBytes)
    → declared table x ≡ Ok names → length table ≡ length things
    → length names ≡ length (things ++ thing ∷ [])
both_longer table names things thing x e p = let q = one_longer table names x e in simp length-append (omega arith)

-- ---- processes

abbrev pub ProgramsMatch : Programs → Type 0
ProgramsMatch s = length s.names ≡ length s.programs

one_process : (l : Language) (shared : SharedTables) (s t : Programs) (p : ProcessNode) → with_named_process l shared s p ≡ Ok t → ProgramsMatch s → ProgramsMatch t
one_process l shared s t p e match =
    let b =
    went (declared s.names p.name)
    (λ names. and_then (named_program l shared p) (λ made. Ok (record { names = names; programs = s.programs ++ made ∷ [] })))
    t e in
    let d =
    went (named_program l shared p) (λ made. Ok (record { names = b.value; programs = s.programs ++ made ∷ [] })) t b.rest in
    let is : ◌≡◌ {A = Programs} (record { names = b.value; programs = s.programs ++ d.value ∷ [] }) t =
    ok_is (record { names = b.value; programs = s.programs ++ d.value ∷ [] }) t d.rest in
    subst ProgramsMatch is (both_longer s.names b.value s.programs d.value p.name b.first match)

-- ---- items

pub record WiringMatches (w : Wiring) : Type 0 where
  pub channels : length w.channel_names ≡ length w.channels
  pub instances : length w.instance_names ≡ length w.instances

one_channel : (w v : Wiring) (x : NameBytes) (c : ChannelSpec) → with_wired_channel w x c ≡ Ok v → WiringMatches w
    → WiringMatches v
one_channel w v x c e match =
    let b =
    went (declared w.channel_names x)
    (λ names. Ok (record w { channel_names = names; channels = w.channels ++ c ∷ [] })) v e in
    let is : ◌≡◌ {A = Wiring} (record w { channel_names = b.value; channels = w.channels ++ c ∷ [] }) v =
    ok_is (record w { channel_names = b.value; channels = w.channels ++ c ∷ [] }) v b.rest in
    subst WiringMatches is
    (record {
      channels = both_longer w.channel_names b.value w.channels c x b.first match.channels;
      instances = match.instances;
    })

one_instance : (programs channels : List NameBytes) (w v : Wiring) (i : grammar.InstanceNode)
    → with_instance programs channels w i ≡ Ok v → WiringMatches w → WiringMatches v
one_instance programs channels w v i e match =
    let b =
    went (declared w.instance_names i.name)
    (λ names.
    and_then (instance_of programs channels i)
    (λ made. Ok (record w { instance_names = names; instances = w.instances ++ made ∷ [] }))) v e in
    let d =
    went (instance_of programs channels i)
    (λ made. Ok (record w { instance_names = b.value; instances = w.instances ++ made ∷ [] })) v b.rest in
    let is : ◌≡◌ {A = Wiring} (record w { instance_names = b.value; instances = w.instances ++ d.value ∷ [] }) v =
    ok_is (record w { instance_names = b.value; instances = w.instances ++ d.value ∷ [] }) v d.rest in
    subst WiringMatches is
    (record {
      channels = match.channels;
      instances = both_longer w.instance_names b.value w.instances d.value i.name b.first match.instances;
    })

one_item : (programs channels : List NameBytes) (w v : Wiring) (i : Item) → with_wired_item programs channels w i ≡ Ok v
    → WiringMatches w → WiringMatches v
one_item programs channels w v (channel x n) e match = one_channel w v x (Inner (within_32_bits n)) e match
one_item programs channels w v (source x) e match = one_channel w v x Source e match
one_item programs channels w v (sink x n) e match = one_channel w v x (Sink (within_32_bits n)) e match
one_item programs channels w v (instance i) e match = one_instance programs channels w v i e match

-- ---- the whole

pub programs_match : (l : Language) (shared : SharedTables) (processes : List ProcessNode) (p : Programs) → programs_of l shared processes ≡ Ok p → ProgramsMatch p
programs_match l shared processes p e =
    keeps (with_named_process l shared) ProgramsMatch (one_process l shared) processes (record { names = []; programs = [] }) p e refl

pub wiring_matches : (programs : List NameBytes) (items : List Item) (w : Wiring) → wiring programs items ≡ Ok w
    → WiringMatches w
wiring_matches programs items w e =
    keeps (with_wired_item programs (all_channels items)) WiringMatches (one_item programs (all_channels items)) items
    (record { channel_names = []; channels = []; instance_names = []; instances = [] }) w e
    (record { channels = refl; instances = refl })

pub each_named : (p : List NamedProgram) (n : Named) → n.tables.programs ≡ map (λ q. q.parts) p
    → n.scopes ≡ map (λ q. q.names) p
    → length n.processes ≡ length p → length n.instances ≡ length n.tables.instances
    → length n.channels ≡ length n.tables.channels → EachIsNamed n
each_named p n is scopes processes i c = record {
  processes = processes ∙ sym (ap length is ∙ length-map p (λ q. q.parts));
  scopes = ap length scopes ∙ length-map p (λ q. q.names) ∙ sym (ap length is ∙ length-map p (λ q. q.parts));
  instances = i;
  channels = c;
}

pub resolved_each : (l : Language) (d : Description) (n : Named) → resolve l d ≡ Ok n → EachIsNamed n
resolved_each l d n e =
    let shared = went (shared_of d.tables) _ n e in
    let p = went (programs_of l shared.value d.processes) _ n shared.rest in
    let w = went (wiring p.value.names d.network.items) _ n p.rest in
    let match = wiring_matches p.value.names d.network.items w.value w.first in
    let made : Named = named_with shared.value (settings_of d.network) p.value w.value in
    subst EachIsNamed (ok_is made n w.rest)
    (each_named p.value.programs made refl refl (programs_match l shared.value d.processes p.value p.first)
    match.instances match.channels)

-- ---- the names by number

length-paired : {A B C : Type 0} (f : A → B → C) (xs : List A) (ys : List B) → length xs ≡ length ys
    → length (paired f xs ys) ≡ length ys
length-paired f [] [] e = refl
length-paired f [] (y ∷ ys) e = absurd (omega arith)
length-paired f (x ∷ xs) [] e = absurd (omega arith)
length-paired f (x ∷ xs) (y ∷ ys) e =
    let inner : length xs ≡ length ys = omega arith in
    let same : length (paired f xs ys) ≡ length ys = length-paired f xs ys inner in
    omega arith

pub are_named : (n : Named) → EachIsNamed n → AreNamed (names_in n) n.tables
are_named n each = record {
  processes = length-paired process_names_in n.processes n.scopes (each.processes ∙ sym each.scopes) ∙ each.scopes;
  instances = each.instances;
  channels = each.channels;
}
