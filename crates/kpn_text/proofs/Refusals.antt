-- What each phase answers to the text: the document that it spells, or the fault with which it is refused.
use Rattle.kpn_text.proofs.Common.{◌≡◌, ℕ, List, length, Option, Some, None, Result, Ok, Err, sym, ap, ◌∙◌, subst, inl, inr, Tables, IsNetwork, Lexeme, Language, language_of, OkOr, GrammarFault, Description, description_of, unknown, double, NetworkNames, TextFault, names_in, Document, document_named, document_with, network_size, SpellsDocument, grammar_fault, name_fault, Cause, in_grammar, in_names, unless, meant_in, tables_cause, document_of, TellsWhatIsFound, Refuses, TellsCause, TextReads, TokensFail}
use Rattle.std.specs.Prelude.{◌⊎◌}
use Rattle.kpn_text_grammar.specs.declared.fault.GrammarFault.TheVariants as grammar
use Rattle.kpn_text_grammar.specs.Reading as reading
use Rattle.kpn_text_names.specs.declared.fault.NameFault.{NameFault}
use Rattle.kpn_text_names.specs.declared.fault.NameFault.TheVariants as name
use Rattle.kpn_text_names.specs.Fault as names
use Rattle.kpn_text_names.specs.Named.{Named, resolve}
use Rattle.kpn_text.specs.declared.fault.TextFault.TheVariants as text
use Rattle.kpn_text.proofs.ReadingLaws.{ArePhases, few_tables, last_phases, one_document, read_spelled, refused_names, refused_tokens, refused_tree, spelled_reads}

found_out : (bytes : List ℕ) (cause : Cause) (f : TextFault) → document_of bytes ≡ Err cause
    → TellsWhatIsFound (Err cause) f → Refuses bytes f
found_out bytes cause f e h = inr (subst (λ r. TellsWhatIsFound r f) (sym e) h)

-- the language is that of the text
module _ (bytes : List ℕ) (l : Language) (told : l ≡ language_of bytes) where
  meant_told : (r : Result (List Lexeme) Cause) → meant_in l bytes ≡ r → meant_in (language_of bytes) bytes ≡ r
  meant_told r t = ap (λ k. meant_in k bytes) (sym told) ∙ t

  tree_told : (ls slice : List Lexeme) (r : Result Description GrammarFault) → slice ≡ ls
      → description_of l (length bytes) slice ≡ r → description_of (language_of bytes) (length bytes) ls ≡ r
  tree_told ls slice r s d = (λ i. description_of (sym told i) (length bytes) (sym s i)) ∙ d

  names_told : (tree : Description) (r : Result Named names.NameError) → resolve l tree ≡ r
      → resolve (language_of bytes) tree ≡ r
  names_told tree r g = ap (λ k. resolve k tree) (sym told) ∙ g

  pub tokens_refused : (f : TextFault) → TokensFail l bytes f → Refuses bytes f
  tokens_refused f (inl h) = inl h
  tokens_refused f (inr (cause, is, h)) =
      found_out bytes cause f (refused_tokens (language_of bytes) bytes cause (meant_told _ is)) h

  pub tree_refused : (ls slice : List Lexeme) (e : GrammarFault) (f : TextFault) → meant_in l bytes ≡ Ok ls
      → slice ≡ ls → reading.ReadingFails e (description_of l (length bytes) slice) → f ≡ grammar_fault e → Refuses bytes f
  tree_refused ls slice grammar.NoMemory f t s g h = inl h
  tree_refused ls slice (grammar.Grammar at) f t s g h =
      found_out bytes (in_grammar (grammar.Grammar at)) f
      (refused_tree (language_of bytes) bytes ls (grammar.Grammar at) (meant_told _ t) (tree_told ls slice _ s g)) h
  tree_refused ls slice (grammar.TooDeep i) f t s g h =
      found_out bytes (in_grammar (grammar.TooDeep i)) f
      (refused_tree (language_of bytes) bytes ls (grammar.TooDeep i) (meant_told _ t) (tree_told ls slice _ s g)) h

  pub names_refused : (ls slice : List Lexeme) (tree : Description) (e : NameFault) (f : TextFault)
      → meant_in l bytes ≡ Ok ls → slice ≡ ls → description_of l (length bytes) slice ≡ Ok tree
      → names.ResolvingFails e (resolve l tree) → f ≡ name_fault e → Refuses bytes f
  names_refused ls slice tree name.NoMemory f t s d g h = inl h
  names_refused ls slice tree (name.UnknownName at) f t s d g h =
      found_out bytes (in_names unknown) f
      (refused_names (language_of bytes) bytes ls tree unknown (meant_told _ t) (tree_told ls slice _ s d) (names_told tree _ g)) (at, h)
  names_refused ls slice tree (name.DoubleName at) f t s d g h =
      found_out bytes (in_names double) f
      (refused_names (language_of bytes) bytes ls tree double (meant_told _ t) (tree_told ls slice _ s d) (names_told tree _ g)) (at, h)

  pub phases : (ls slice : List Lexeme) (tree : Description) (n : Named) → meant_in l bytes ≡ Ok ls → slice ≡ ls
      → description_of l (length bytes) slice ≡ Ok tree → resolve l tree ≡ Ok n
      → ArePhases (language_of bytes) bytes ls tree n
  phases ls slice tree n t s d r =
      record { tokens = meant_told _ t; grammar = tree_told ls slice _ s d; names = names_told tree _ r }

tells_unless : (c : Option Cause) (d : Document) (f : TextFault) → TellsCause c f → TellsWhatIsFound (unless c d) f
tells_unless (Some cause) d f h = h
tells_unless None d f h = absurd h

pub network_refused : (bytes : List ℕ) (ls : List Lexeme) (tree : Description) (n : Named) (f : TextFault)
    → ArePhases (language_of bytes) bytes ls tree n
    → (f ≡ text.NoMemory) ⊎ TellsCause (tables_cause (network_size (language_of bytes)) n.tables) f → Refuses bytes f
network_refused bytes ls tree n f is (inl h) = inl h
network_refused bytes ls tree n f is (inr h) =
    inr
    (subst (λ r. TellsWhatIsFound r f) (sym (last_phases (language_of bytes) bytes ls tree n is))
    (tells_unless (tables_cause (network_size (language_of bytes)) n.tables) (document_named (language_of bytes) n) f h))

pub made_spelled : (bytes : List ℕ) (ls : List Lexeme) (tree : Description) (n : Named) (l : Language)
    (network : Tables) (own : NetworkNames) → ArePhases (language_of bytes) bytes ls tree n → l ≡ language_of bytes
    → network ≡ n.tables → own ≡ names_in n → IsNetwork network
    → tables_cause (network_size l) n.tables ≡ None
    → SpellsDocument bytes (document_with l network own)
made_spelled bytes ls tree n l network own is told e h keeps sound =
    let same : document_named (language_of bytes) n ≡ document_with l network own =
    λ i. document_with (sym told i) (sym e i) (sym h i) in
    subst (λ (d : Document). SpellsDocument bytes d) same
    (read_spelled bytes ls tree n is (subst IsNetwork e keeps)
    (few_tables (network_size (language_of bytes)) n.tables
    (subst (λ k. tables_cause (network_size k) n.tables ≡ None) told sound)))

pub only_this : (bytes : List ℕ) (r : Result Document TextFault) → TextReads bytes r → (d : Document) → SpellsDocument bytes d
    → OkOr text.NoMemory r (λ found. found ≡ d)
only_this bytes (Ok found) h d s = one_document bytes found d h s
only_this bytes (Err f) (inl h) d s = h
only_this bytes (Err f) (inr h) d s = absurd (subst (λ r. TellsWhatIsFound r f) (spelled_reads bytes d s) h)
