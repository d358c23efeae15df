-- The canonical text of a document that a text spells also spells it, if it is short enough.
use Rattle.kpn_text.proofs.Common.{◌≡◌, ℕ, ◌<◌, ◌≤◌, Bool, true, false, cond, List, [], ◌∷◌, ◌++◌, length, map, Some, None, Result, Ok, Err, refl, sym, ap, subst, ◌∙◌, arith, AllByRecursion, nat_tests, MAX_CAPACITY, MAX_TEXT_BYTES, MAX_LEVELS, IsProgram, Growth, Policy, Tables, IsNetwork, Language, Token, tokens_of, language_of, Table, Declaration, array, table, ProcessNode, Description, spell_description, TableIsWithin, DeclarationIsWithin, ProcessIsWithin, IsWithinLimits, IsDescription, and_then, BlocksAreTheTree, growth_of, limit_of, policy_of, Settings, settings_of, Wiring, wiring, shared_of, SharedTables, NetworkNames, DescriptionIsRead, LanguageIsTold, ReadDescriptionsAreProper, growth_named, limit_named, policy_named, description_named, IsProperTable, IsProperDeclaration, IsProperProcess, IsProperLimit, IsProperItem, IsProper, description_text, names_in, Document, canonical_text, SpellsDocument, IsOfSomeText, ok_is, went, then_ok}
use Rattle.std.specs.Prelude.{nat_lt, All, IfOk}
use Rattle.kpn_net.specs.declared.tables.Growth.TheVariants as growth
use Rattle.kpn_net.specs.declared.tables.Policy.TheVariants as policy
use Rattle.kpn_text_grammar.specs.Laws.{CanBeSpelled, CanonicalSpells}
use Rattle.kpn_text_grammar.specs.Spelling.{SpellsAll, SpellsProcess}
use Rattle.kpn_text_tokens.specs.declared.tokens.Mark.TheVariants as mark
use Rattle.kpn_text_tokens.specs.declared.tokens.Token.TheVariants as token
use Rattle.kpn_text_names.specs.Named.{Programs, programs_of, Named, named_with, resolve}
use Rattle.kpn_text.specs.Again.{PrintedTextSpells}
use Rattle.kpn_text_expand.specs.Plain.{ArePlain}
use Rattle.kpn_text_expand.proofs.Plain.{plain_kept}
use Rattle.kpn_text_expand.proofs.PlainSpelling.{spelling_plain}
use Rattle.kpn_text.proofs.ReadingLaws.{has_lexemes}
use Rattle.kpn_text.proofs.KeptNames.{names_back}
use Rattle.kpn_text.proofs.NamedItems.{items_back, literals_proper}
use Rattle.kpn_text.proofs.NamedProcesses.{HaveFewCells, have_few, processes_back}
use Rattle.kpn_text.proofs.SharedTables.{sorted_process, shared_again, shared_back, shared_filled, processes_again}
use Rattle.kpn_text.proofs.SortedDeclarations.{plain_table, plain_count, arrays_of, tables_of, sorted}

-- ---- the settings

-- the limit of a network is in range
abbrev pub LimitsAreInRange : Type 0
LimitsAreInRange = (t : Tables) → IsNetwork t → (1 ≤ t.limit) × (t.limit ≤ MAX_CAPACITY)

limit_by : (b : Bool) (n : ℕ) → nat_lt n MAX_CAPACITY ≡ b → n ≤ MAX_CAPACITY → limit_of (cond b (Some n) None) ≡ n
limit_by true n h k = let small : n < MAX_CAPACITY = grind (arith, nat_tests, h) in omega arith
limit_by false n h k = let large : MAX_CAPACITY ≤ n = grind (arith, nat_tests, h) in omega arith

limit_again : (n : ℕ) → n ≤ MAX_CAPACITY → limit_of (limit_named n) ≡ n
limit_again n h = limit_by (nat_lt n MAX_CAPACITY) n refl h

limit_proper_by : (b : Bool) (n : ℕ) → n ≤ MAX_CAPACITY → IsProperLimit (cond b (Some n) None)
limit_proper_by true n h = omega arith
limit_proper_by false n h = tt

limit_proper : (n : ℕ) → n ≤ MAX_CAPACITY → IsProperLimit (limit_named n)
limit_proper n h = limit_proper_by (nat_lt n MAX_CAPACITY) n h

policy_again : (q : Policy) → policy_of (policy_named q) ≡ q
policy_again policy.Cycles = refl
policy_again policy.All = refl

growth_again : (g : Growth) → growth_of (growth_named g) ≡ g
growth_again growth.One = refl
growth_again growth.Double = refl

-- the settings of the network that is printed
abbrev settings_named : Settings → Settings
settings_named s = record {
  limit = limit_of (limit_named s.limit);
  policy = policy_of (policy_named s.policy);
  growth = growth_of (growth_named s.growth);
}

settings_again : (s : Settings) → s.limit ≤ MAX_CAPACITY → settings_named s ≡ s
settings_again s small =
    λ i.
    record {
      limit = limit_again s.limit small i;
      policy = policy_again s.policy i;
      growth = growth_again s.growth i;
    }

-- ---- what a description names, part by part

record Resolved (l : Language) (d : Description) (n : Named) : Type 0 where
  shared : SharedTables
  p : Programs
  w : Wiring
  has_tables : shared_of d.tables ≡ Ok shared
  has_processes : programs_of l shared d.processes ≡ Ok p
  has_items : wiring p.names d.network.items ≡ Ok w
  is : named_with shared (settings_of d.network) p w ≡ n

resolved : (l : Language) (d : Description) (n : Named) → resolve l d ≡ Ok n → Resolved l d n
resolved l d n h =
    let s = went (shared_of d.tables) _ n h in
    let p = went (programs_of l s.value d.processes) _ n s.rest in
    let w = went (wiring p.value.names d.network.items) _ n p.rest in
    record {
      shared = s.value;
      p = p.value;
      w = w.value;
      has_tables = s.first;
      has_processes = p.first;
      has_items = w.first;
      is = ok_is _ n w.rest;
    }

resolves : (l : Language) (d : Description) (s : SharedTables) (p : Programs) (w : Wiring) → shared_of d.tables ≡ Ok s
    → programs_of l s d.processes ≡ Ok p → wiring p.names d.network.items ≡ Ok w
    → resolve l d ≡ Ok (named_with s (settings_of d.network) p w)
resolves l d s p w hs hp hw =
    then_ok (shared_of d.tables)
    (λ u. and_then (programs_of l u d.processes)
    (λ q. and_then (wiring q.names d.network.items) (λ v. Ok (named_with u (settings_of d.network) q v)))) s hs
    ∙ then_ok (programs_of l s d.processes)
    (λ q. and_then (wiring q.names d.network.items) (λ v. Ok (named_with s (settings_of d.network) q v))) p hp
    ∙ then_ok (wiring p.names d.network.items) (λ v. Ok (named_with s (settings_of d.network) p v)) w hw

-- ---- the description that a document is printed as

abbrev printed : Named → Description
printed n = description_named (names_in n) n.tables

-- what it keeps of a description that names the document
pub record Kept (l : Language) (d : Description) (n : Named) : Type 0 where
  pub tables : map plain_table d.tables ≡ (printed n).tables
  pub processes : map sorted_process d.processes ≡ (printed n).processes
  pub limit : IsProperLimit (printed n).network.limit
  pub items : AllByRecursion (IsProperItem l) d.network.items
      → AllByRecursion (IsProperItem l) (printed n).network.items
  pub again : resolve l (printed n) ≡ Ok n

kept_by : BlocksAreTheTree → (l : Language) (d : Description) (s : Settings) (shared : SharedTables) (p : Programs)
    (w : Wiring) → IsWithinLimits MAX_LEVELS d → HaveFewCells p.programs → s.limit ≤ MAX_CAPACITY → shared_of d.tables ≡ Ok shared
    → programs_of l shared d.processes ≡ Ok p → wiring p.names d.network.items ≡ Ok w
    → Kept l d (named_with shared s p w)
kept_by flat l d s shared p w within few small hs hp hw =
    let n : Named = named_with shared s p w in
    let tables : (printed n).tables ≡ map plain_table d.tables = shared_back d.tables shared hs in
    let filled = shared_filled d.tables shared within.tables hs in
    let processes : (printed n).processes ≡ map sorted_process d.processes =
    processes_back flat l shared filled d.processes p within.processes hp few in
    let b =
    items_back l (names_in n) p.names d.network.items w (names_back l shared d.processes p hp) refl hw in
    let has_tables : shared_of (printed n).tables ≡ Ok shared =
    ap (λ ts. shared_of ts) tables ∙ shared_again d.tables ∙ hs in
    let has_processes : programs_of l shared (printed n).processes ≡ Ok p =
    ap (λ ps. programs_of l shared ps) processes ∙ processes_again l shared d.processes ∙ hp in
    record {
      tables = sym tables;
      processes = sym processes;
      limit = limit_proper s.limit small;
      items = b.proper;
      again = resolves l (printed n) shared p w has_tables has_processes b.again
          ∙ ap (λ q. Ok (named_with shared q p w)) (settings_again s small);
    }

kept : BlocksAreTheTree → LimitsAreInRange → (l : Language) (d : Description) (n : Named) → IsWithinLimits MAX_LEVELS d
    → resolve l d ≡ Ok n → IsNetwork n.tables → Kept l d n
kept flat limits l d n within h net =
    let r = resolved l d n h in
    let limit : limit_of d.network.limit ≡ n.tables.limit = ap (λ (q : Named). q.tables.limit) r.is in
    let small : limit_of d.network.limit ≤ MAX_CAPACITY =
    subst (λ m. m ≤ MAX_CAPACITY) (sym limit) (limits n.tables net).1 in
    let few : HaveFewCells r.p.programs =
    have_few r.p.programs (subst (λ (q : Named). All IsProgram q.tables.programs) (sym r.is) net.programs) in
    subst (λ q. Kept l d q) r.is
    (kept_by flat l d (settings_of d.network) r.shared r.p r.w within few small r.has_tables r.has_processes
    r.has_items)

-- ---- what is printed is proper and within the limits of the grammar, if what was read is

all_mapped : {A B : Type 0} (f : A → B) (P : A → Type 0) (Q : B → Type 0) → ((x : A) → P x → Q (f x)) → (xs : List A)
    → AllByRecursion P xs → AllByRecursion Q (map f xs)
all_mapped f P Q step [] all = tt
all_mapped f P Q step (x ∷ xs) all = (step x all.0, all_mapped f P Q step xs all.1)

all_both : {A : Type 0} (P : A → Type 0) (xs ys : List A) → AllByRecursion P xs → AllByRecursion P ys
    → AllByRecursion P (xs ++ ys)
all_both P [] ys first second = second
all_both P (x ∷ xs) ys first second = (first.0, all_both P xs ys first.1 second)

-- what holds of declarations, and of a table with its values as they are printed, holds of them as they are printed
module _ (P : Declaration → Type 0) (plain : (t : Table) → P (table t) → P (table (plain_table t))) where
  arrays_keep : (ds : List Declaration) → AllByRecursion P ds → AllByRecursion P (arrays_of ds)
  arrays_keep [] all = tt
  arrays_keep (array x n ∷ ds) all = (all.0, arrays_keep ds all.1)
  arrays_keep (table t ∷ ds) all = arrays_keep ds all.1

  tables_keep : (ds : List Declaration) → AllByRecursion P ds → AllByRecursion P (tables_of ds)
  tables_keep [] all = tt
  tables_keep (array x n ∷ ds) all = tables_keep ds all.1
  tables_keep (table t ∷ ds) all = (plain t all.0, tables_keep ds all.1)

  sorted_keep : (ds : List Declaration) → AllByRecursion P ds → AllByRecursion P (sorted ds)
  sorted_keep ds all = all_both P (arrays_of ds) (tables_of ds) (arrays_keep ds all) (tables_keep ds all)

plain_proper : (l : Language) (t : Table) → IsProperTable l t → IsProperTable l (plain_table t)
plain_proper l t h = record { word = h.word; name = h.name; values = literals_proper t.values h.values }

plain_within : (t : Table) → TableIsWithin t → TableIsWithin (plain_table t)
plain_within t h =
    let some : 0 < length t.values = h in
    omega (arith, some, plain_count t.values)

sorted_proper : (l : Language) (p : ProcessNode) → IsProperProcess l p → IsProperProcess l (sorted_process p)
sorted_proper l p h = record {
  name = h.name;
  ins = h.ins;
  outs = h.outs;
  pars = h.pars;
  declarations = sorted_keep (IsProperDeclaration l) (plain_proper l) p.declarations h.declarations;
  body = h.body;
}

sorted_within : (p : ProcessNode) → ProcessIsWithin MAX_LEVELS MAX_LEVELS p
    → ProcessIsWithin MAX_LEVELS MAX_LEVELS (sorted_process p)
sorted_within p h = record {
  declarations = sorted_keep DeclarationIsWithin plain_within p.declarations h.declarations;
  body = h.body;
}

-- ---- the law

-- the printed description is proper
pub proper : (text : List ℕ) (d : Document) (s : SpellsDocument text d) → ReadDescriptionsAreProper
    → Kept d.language s.tree s.named → IsProper d.language (printed s.named)
proper text d s read k =
    let l : Language = d.language in
    let was : IsProper l s.tree = read l text s.read s.tokens s.tree s.reads s.stands s.spelled in
    record {
      tables =
          subst (λ ts. AllByRecursion (IsProperTable l) ts) k.tables
          (all_mapped plain_table (IsProperTable l) (IsProperTable l) (plain_proper l) s.tree.tables was.tables);
      processes =
          subst (λ ps. AllByRecursion (IsProperProcess l) ps) k.processes
          (all_mapped sorted_process (IsProperProcess l) (IsProperProcess l) (sorted_proper l) s.tree.processes
          was.processes);
      network = record { limit = k.limit; items = k.items was.network.items };
    }

-- what was read can be spelled
can_be_spelled : (l : Language) (ps : List ProcessNode) (tokens more : List Token)
    → SpellsAll (SpellsProcess MAX_LEVELS l) ps tokens more → AllByRecursion (λ p. CanBeSpelled l p.body) ps
can_be_spelled l [] tokens more h = tt
can_be_spelled l (p ∷ ps) tokens more h =
    ((h.1.inside, token.Mark mark.RightBrace ∷ h.0, h.1.body), can_be_spelled l ps h.0 more h.2)

-- its tables and processes are within the limits of the grammar
printed_fits : CanonicalSpells → (text : List ℕ) (d : Document) (s : SpellsDocument text d) → Kept d.language s.tree s.named
    → IsDescription d.language (spell_description d.language (printed s.named)) (printed s.named)
printed_fits spells text d s k =
    let was : IsWithinLimits MAX_LEVELS s.tree = s.spelled.within in
    spells d.language (printed s.named)
    (record {
      tables =
          subst (λ ts. AllByRecursion TableIsWithin ts) k.tables
          (all_mapped plain_table TableIsWithin TableIsWithin plain_within s.tree.tables was.tables);
      processes =
          subst (λ ps. AllByRecursion (ProcessIsWithin MAX_LEVELS MAX_LEVELS) ps) k.processes
          (all_mapped sorted_process (ProcessIsWithin MAX_LEVELS MAX_LEVELS) (ProcessIsWithin MAX_LEVELS MAX_LEVELS) sorted_within
          s.tree.processes was.processes);
    })
    (subst (λ ps. AllByRecursion (λ p. CanBeSpelled d.language p.body) ps) k.processes
    (all_mapped sorted_process (λ p. CanBeSpelled d.language p.body) (λ p. CanBeSpelled d.language p.body)
    (λ p can. can) s.tree.processes (can_be_spelled d.language s.tree.processes _ _ s.spelled.spelled.processes)))

pub spelled_kept : BlocksAreTheTree → LimitsAreInRange → (text : List ℕ) (d : Document) (s : SpellsDocument text d)
    → Kept d.language s.tree s.named
spelled_kept flat limits text d s =
    kept flat limits d.language s.tree s.named s.spelled.within s.resolved
    (subst (λ (e : Document). IsNetwork e.tables) (sym s.is) s.keeps)

pub printed_spells : BlocksAreTheTree → LimitsAreInRange → CanonicalSpells → DescriptionIsRead → LanguageIsTold
    → ReadDescriptionsAreProper → PrintedTextSpells
printed_spells flat limits spells is_read is_told are_proper d h short =
    let l : Language = d.language in
    let s = h.1 in
    let k = spelled_kept flat limits h.0 d s in
    let same : description_text l (printed s.named) ≡ canonical_text d =
    ap (λ (e : Document). description_text l (description_named e.names e.tables)) s.is in
    let found = has_lexemes l (canonical_text d) (spell_description l (printed s.named)) short
    (ap (λ t. tokens_of l t) (sym same) ∙ is_read l (printed s.named) (proper h.0 d s are_proper k)) in
    record {
      language = ap (λ t. language_of t) (sym same) ∙ is_told l (printed s.named);
      read = found.lexemes;
      reads = found.found;
      tokens = found.lexemes;
      stands = plain_kept l (length (canonical_text d)) found.lexemes
          (subst ArePlain found.are (spelling_plain l (printed s.named)));
      tree = printed s.named;
      spelled = subst (λ ts. IsDescription l ts (printed s.named)) found.are (printed_fits spells h.0 d s k);
      named = s.named;
      resolved = k.again;
      is = s.is;
      keeps = s.keeps;
      few = s.few;
    }

-- what a call that printed the document, by its language, tables and names, returned is read again
pub text_reads_again : {V E : Type 0} (items : V → List ℕ) → PrintedTextSpells → (d : Document) → IsOfSomeText d
    → (l : Language) (names : NetworkNames) (tables : Tables) → l ≡ d.language → names ≡ d.names → tables ≡ d.tables
    → (r : Result V E) → IfOk r (λ v. items v ≡ description_text l (description_named names tables))
    → IfOk r (λ v. length (items v) ≤ MAX_TEXT_BYTES → SpellsDocument (items v) d)
text_reads_again items law d h l names tables same_language same_names same_tables (Ok v) e =
    let is : items v ≡ canonical_text d =
    e ∙ (λ i. description_text (same_language i) (description_named (same_names i) (same_tables i))) in
    λ short.
    subst (λ bytes. SpellsDocument bytes d) (sym is) (law d h (subst (λ bytes. length bytes ≤ MAX_TEXT_BYTES) is short))
text_reads_again items law d h l names tables same_language same_names same_tables (Err x) e = tt
