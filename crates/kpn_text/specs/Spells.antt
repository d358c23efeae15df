-- What it is for a text to spell a document.
use Rattle.std.specs.Prelude.{◌≡◌, ℕ, false, List, length, Ok}
use Rattle.kpn_text_tokens.specs.declared.tokens.Lexeme.{Lexeme}
use Rattle.kpn_text_tokens.specs.Lexing.{lexemes_of}
use Rattle.kpn_text_tokens.specs.Opening.{language_of}
use Rattle.kpn_net.specs.Faults.{IsNetwork, has_too_many}
use Rattle.kpn_text_grammar.specs.Syntax.{Description}
use Rattle.kpn_text_grammar.specs.Spelling.{IsDescription, kinds}
use Rattle.kpn_text_expand.specs.Expanding.{expanded}
use Rattle.kpn_text_names.specs.Named.{Named, resolve}
use Rattle.kpn_text.specs.Document.{Document, document_named, network_size}

-- A text spells a document: it is of the document's language, its tokens in that language stand for those of a tree, and
-- what the tree names is the document. The document's tables keep the rules of programs and networks, and are none too
-- large for their language.
pub record SpellsDocument (text : List ℕ) (d : Document) : Type 0 where
  pub language : language_of text ≡ d.language
  pub read : List Lexeme
  pub reads : lexemes_of d.language text ≡ Ok read
  pub tokens : List Lexeme
  pub stands : expanded d.language (length text) read ≡ Ok tokens
  pub tree : Description
  pub spelled : IsDescription d.language (kinds tokens) tree
  pub named : Named
  pub resolved : resolve d.language tree ≡ Ok named
  pub is : document_named d.language named ≡ d
  pub keeps : IsNetwork d.tables
  pub few : has_too_many (network_size d.language) d.tables ≡ false

-- some text spells the document
abbrev pub IsOfSomeText : Document → Type 0
IsOfSomeText d = (text : List ℕ) × SpellsDocument text d
