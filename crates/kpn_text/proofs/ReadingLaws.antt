-- What the phases return is what the text spells.
use Rattle.kpn_text.proofs.Common.{◌≡◌, ℕ, suc, ◌≤◌, Bool, true, false, if◌then◌else◌, List, [], ◌∷◌, length, Option, Some, None, Result, Ok, Err, refl, sym, ap, ◌∙◌, subst, arith, All-nil, All-cons, All-head, All-tail, MAX_TEXT_BYTES, MAX_LEVELS, Parts, IsProgram, ProgramFault, NetFault, NetworkSize, Tables, IsNetwork, has_too_many, LexFault, Language, Lexeme, Token, lexemes_of, scan, language_of, expanded, GrammarFault, Description, IsDescription, kinds, description_of, NameError, Document, document_named, network_size, SpellsDocument, IsOfSomeText, AreNamed, ok_is, then_ok, went, are_named, resolved_each}
use Rattle.std.specs.Prelude.{nat_lt, All}
use Rattle.kpn_lang.specs.Parts as lang
use Rattle.kpn_net.specs.Faults as net
use Rattle.kpn_net.proofs.Networks.{network_of_size, few_of_size, sound_of_size}
use Rattle.kpn_text_tokens.specs.declared.lexer.LexFault.TheVariants as lex
use Rattle.kpn_text_tokens.specs.Laws.{tokens_in, tokens_of}
use Rattle.kpn_text_tokens.proofs.TokenLaws.{short_text}
use Rattle.kpn_text_grammar.proofs.DescriptionLaws.{description_takes, description_again}
use Rattle.kpn_text_names.specs.Named.{Named, resolve}
use Rattle.kpn_text.specs.Phases.{Cause, in_tokens, in_constants, in_grammar, in_names, phase, unless, meant_in, programs_cause, program_or, network_cause, or_cause, tables_cause, document_in, document_of}
use Rattle.kpn_text_tokens.specs.Results.{and_then}
use Rattle.kpn_text.proofs.Parameters.{AreCounted, resolved_has}
use Rattle.kpn_text.proofs.TokenPhases.{phase_ok, phase_err, meant_right}

-- ---- tokens

-- a text within the limit whose tokens are read has lexemes, which are those tokens
pub record HasLexemes (l : Language) (text : List ℕ) (ts : List Token) : Type 0 where
  pub lexemes : List Lexeme
  pub found : lexemes_of l text ≡ Ok lexemes
  pub are : ts ≡ kinds lexemes

lexemes_by : (l : Language) (text : List ℕ) (ts : List Token) (r : Result (List Lexeme) LexFault)
    → lexemes_of l text ≡ r → tokens_in r ≡ Some ts → HasLexemes l text ts
lexemes_by l text ts (Ok ls) is e = record { lexemes = ls; found = is; are = cc }
lexemes_by l text ts (Err fault) is e = absurd cc

pub has_lexemes : (l : Language) (text : List ℕ) (ts : List Token) → length text ≤ MAX_TEXT_BYTES
    → tokens_of l text ≡ Some ts → HasLexemes l text ts
unfolding tokens_of
has_lexemes l text ts short e = lexemes_by l text ts (scan l 0 0 text) (short_text l text short) e

-- the tokens of a text that has lexemes are read
tokens_by : (l : Language) (text : List ℕ) (ls : List Lexeme) (b : Bool)
    → (if b then Err (lex.TooLong MAX_TEXT_BYTES) else scan l 0 0 text) ≡ Ok ls → tokens_of l text ≡ Some (kinds ls)
unfolding tokens_of
tokens_by l text ls true e = absurd cc
tokens_by l text ls false e = ap tokens_in e

pub are_tokens : (l : Language) (text : List ℕ) (ls : List Lexeme) → lexemes_of l text ≡ Ok ls
    → tokens_of l text ≡ Some (kinds ls)
are_tokens l text ls e = tokens_by l text ls (nat_lt MAX_TEXT_BYTES (length text)) e

-- what a chain of phases that gave something was made of
phase_step : {A D E : Type 0} {C : Type 0} (cause : E → Cause) (r : Result A E) (k : A → Result D Cause) (x : D)
    → and_then (phase cause r) k ≡ Ok x → ((a : A) → r ≡ Ok a → k a ≡ Ok x → C) → C
unfolding and_then
phase_step cause (Ok a) k x e go = go a refl e
phase_step cause (Err f) k x e go = absurd cc

phase_is : {A E : Type 0} (cause : E → Cause) (r : Result A E) (x : A) → phase cause r ≡ Ok x → r ≡ Ok x
phase_is cause (Ok a) x e = ap Ok (ok_is a x e)
phase_is cause (Err f) x e = absurd cc

-- the tokens that a text stands for, and what they were read as
record IsMeant (l : Language) (text : List ℕ) (ms : List Lexeme) : Type 0 where
  read : List Lexeme
  reads : lexemes_of l text ≡ Ok read
  stands : expanded l (length text) read ≡ Ok ms

is_meant : (l : Language) (text : List ℕ) (ms : List Lexeme) → meant_in l text ≡ Ok ms → IsMeant l text ms
unfolding meant_in
is_meant l text ms e =
    phase_step in_tokens (lexemes_of l text) _ ms e (λ ls reads f.
    record { read = ls; reads = reads; stands = phase_is in_constants (expanded l (length text) ls) ms f })

-- ---- tables

programs_sound : (i : ℕ) (ps : List Parts) → All IsProgram ps → programs_cause i ps ≡ None
programs_sound i [] all = refl
programs_sound i (p ∷ ps) all =
    let sound : lang.first_fault p ≡ None = (All-head IsProgram p ps all).sound in
    ap (λ f. program_or i f (programs_cause (suc i) ps)) sound
    ∙ programs_sound (suc i) ps (All-tail IsProgram p ps all)

pub network_sound : (s : NetworkSize) (t : Tables) → IsNetwork t → has_too_many s t ≡ false → tables_cause s t ≡ None
network_sound s t is few =
    ap (λ c. or_cause c (network_cause (net.first_network_fault s t))) (programs_sound 0 t.programs is.programs)
    ∙ ap network_cause (sound_of_size s t is few)

-- ---- the phases one after the other

-- what follows the names, the tree and the tokens
abbrev after_names : Language → Named → Result Document Cause
after_names l n = unless (tables_cause (network_size l) n.tables) (document_named l n)

abbrev after_tree : Language → Description → Result Document Cause
after_tree l tree = and_then (phase in_names (resolve l tree)) (after_names l)

abbrev after_tokens : Language → List ℕ → List Lexeme → Result Document Cause
after_tokens l text ls = and_then (phase in_grammar (description_of l (length text) ls)) (after_tree l)

pub refused_tokens : (l : Language) (text : List ℕ) (cause : Cause) → meant_in l text ≡ Err cause
    → document_in l text ≡ Err cause
unfolding document_in and_then
refused_tokens l text cause e = ap (λ r. and_then r (after_tokens l text)) e

tokens_read : (l : Language) (text : List ℕ) (ls : List Lexeme) → meant_in l text ≡ Ok ls
    → document_in l text ≡ after_tokens l text ls
unfolding document_in
tokens_read l text ls e = then_ok (meant_in l text) (after_tokens l text) ls e

pub refused_tree : (l : Language) (text : List ℕ) (ls : List Lexeme) (fault : GrammarFault)
    → meant_in l text ≡ Ok ls → description_of l (length text) ls ≡ Err fault
    → document_in l text ≡ Err (in_grammar fault)
refused_tree l text ls fault e f =
    tokens_read l text ls e ∙ phase_err in_grammar (description_of l (length text) ls) (after_tree l) fault f

tree_read : (l : Language) (text : List ℕ) (ls : List Lexeme) (tree : Description) → meant_in l text ≡ Ok ls
    → description_of l (length text) ls ≡ Ok tree → document_in l text ≡ after_tree l tree
tree_read l text ls tree e f =
    tokens_read l text ls e ∙ phase_ok in_grammar (description_of l (length text) ls) (after_tree l) tree f

pub refused_names : (l : Language) (text : List ℕ) (ls : List Lexeme) (tree : Description) (fault : NameError)
    → meant_in l text ≡ Ok ls → description_of l (length text) ls ≡ Ok tree → resolve l tree ≡ Err fault
    → document_in l text ≡ Err (in_names fault)
refused_names l text ls tree fault e f i =
    tree_read l text ls tree e f ∙ phase_err in_names (resolve l tree) (after_names l) fault i

-- what a text names, phase by phase
pub record ArePhases (l : Language) (text : List ℕ) (ls : List Lexeme) (tree : Description) (n : Named) : Type 0 where
  pub tokens : meant_in l text ≡ Ok ls
  pub grammar : description_of l (length text) ls ≡ Ok tree
  pub names : resolve l tree ≡ Ok n

pub last_phases : (l : Language) (text : List ℕ) (ls : List Lexeme) (tree : Description) (n : Named)
    → ArePhases l text ls tree n
    → document_in l text ≡ unless (tables_cause (network_size l) n.tables) (document_named l n)
last_phases l text ls tree n is =
    tree_read l text ls tree is.tokens is.grammar ∙ phase_ok in_names (resolve l tree) (after_names l) n is.names

-- ---- what is spelled is read

pub spelled_reads : (text : List ℕ) (d : Document) → SpellsDocument text d → document_of text ≡ Ok d
spelled_reads text d s =
    let l : Language = d.language in
    let meant : meant_in l text ≡ Ok s.tokens = meant_right l text s.read s.tokens s.reads s.stands in
    let g : description_of l (length text) s.tokens ≡ Ok s.tree =
    description_again (record { end = length text; process = 0; language = l; levels = MAX_LEVELS }) s.tokens s.tree
    (omega arith) s.spelled in
    let tables : s.named.tables ≡ d.tables = ap (λ (x : Document). x.tables) s.is in
    let sound : tables_cause (network_size l) s.named.tables ≡ None =
    ap (tables_cause (network_size l)) tables ∙ network_sound (network_size l) d.tables s.keeps s.few in
    ap (λ k. document_in k text) s.language
    ∙ last_phases l text s.tokens s.tree s.named (record { tokens = meant; grammar = g; names = s.resolved })
    ∙ ap (λ c. unless c (document_named l s.named)) sound ∙ ap Ok s.is

-- a text spells one document at most
pub one_document : (text : List ℕ) (d e : Document) → SpellsDocument text d → SpellsDocument text e → d ≡ e
one_document text d e s t = ok_is {E = Cause} d e (sym (spelled_reads text d s) ∙ spelled_reads text e t)

-- ---- what is read is spelled

pub read_spelled : (text : List ℕ) (ls : List Lexeme) (tree : Description) (n : Named)
    → ArePhases (language_of text) text ls tree n → IsNetwork n.tables
    → has_too_many (network_size (language_of text)) n.tables ≡ false
    → SpellsDocument text (document_named (language_of text) n)
read_spelled text ls tree n is keeps few =
    let l : Language = language_of text in
    let m : IsMeant l text ls = is_meant l text ls is.tokens in
    record {
      language = refl;
      read = m.read;
      reads = m.reads;
      tokens = ls;
      stands = m.stands;
      tree = tree;
      spelled = description_takes (record { end = length text; process = 0; language = l; levels = MAX_LEVELS }) ls tree
          (omega arith) is.grammar;
      named = n;
      resolved = is.names;
      is = refl;
      keeps = keeps;
      few = few;
    }

-- ---- the phases return a document if and only if the text spells it

programs_by : (i : ℕ) (p : Parts) (ps : List Parts) (fault : Option ProgramFault) → lang.first_fault p ≡ fault
    → program_or i fault (programs_cause (suc i) ps) ≡ None
    → (lang.first_fault p ≡ None) × (programs_cause (suc i) ps ≡ None)
programs_by i p ps None is e = (is, e)
programs_by i p ps (Some fault) is e = absurd cc

programs_are : (i : ℕ) (ps : List Parts) → programs_cause i ps ≡ None → All AreCounted ps
    → All IsProgram ps
programs_are i [] e all = All-nil IsProgram
programs_are i (p ∷ ps) e all =
    let first = All-head AreCounted p ps all in
    let h = programs_by i p ps (lang.first_fault p) refl e in
    All-cons IsProgram p ps (record { sound = h.0; counted = first.counted; apart = first.apart })
    (programs_are (suc i) ps h.1 (All-tail AreCounted p ps all))

tables_by : (a b : Option Cause) → or_cause a b ≡ None → (a ≡ None) × (b ≡ None)
tables_by None b e = (refl, e)
tables_by (Some c) b e = absurd cc

network_by : (f : Option NetFault) → network_cause f ≡ None → f ≡ None
network_by None e = refl
network_by (Some f) e = absurd cc

tables_keep : (s : NetworkSize) (t : Tables) → tables_cause s t ≡ None → All AreCounted t.programs → IsNetwork t
tables_keep s t e all =
    let h = tables_by (programs_cause 0 t.programs) (network_cause (net.first_network_fault s t)) e in
    network_of_size s t (programs_are 0 t.programs h.0 all) (network_by (net.first_network_fault s t) h.1)

pub few_tables : (s : NetworkSize) (t : Tables) → tables_cause s t ≡ None → has_too_many s t ≡ false
few_tables s t e =
    let h = tables_by (programs_cause 0 t.programs) (network_cause (net.first_network_fault s t)) e in
    few_of_size s t (network_by (net.first_network_fault s t) h.1)

last_step : {D : Type 0} (c : Option Cause) (made x : D) → unless c made ≡ Ok x → (c ≡ None) × (made ≡ x)
last_step None made x e = (refl, ok_is made x e)
last_step (Some cause) made x e = absurd cc

pub reads_spelled : (text : List ℕ) (d : Document) → document_of text ≡ Ok d → SpellsDocument text d
unfolding document_in
reads_spelled text d e =
    let l : Language = language_of text in
    let meant = went (meant_in l text) _ d e in
    phase_step in_grammar (description_of l (length text) meant.value) _ d meant.rest (λ tree grammar g.
    phase_step in_names (resolve l tree) _ d g (λ n names h.
    let last = last_step (tables_cause (network_size l) n.tables) (document_named l n) d h in
    subst (λ (x : Document). SpellsDocument text x) last.1
    (read_spelled text meant.value tree n (record { tokens = meant.first; grammar = grammar; names = names })
    (tables_keep (network_size l) n.tables last.0 (resolved_has l tree n names))
    (few_tables (network_size l) n.tables last.0))))

-- ---- what is known of a document that some text spells

-- it has as many names as parts
pub spelled_named : (d : Document) → IsOfSomeText d → AreNamed d.names d.tables
spelled_named d (text, s) =
    subst (λ (x : Document). AreNamed x.names x.tables) s.is
    (are_named s.named (resolved_each d.language s.tree s.named s.resolved))

-- the same of what contracts see of a document
pub seen_named : (d now : Document) → d ≡ now → IsOfSomeText d → AreNamed now.names now.tables
seen_named d now e spelled = subst (λ (x : Document). AreNamed x.names x.tables) e (spelled_named d spelled)
