-- Documents: a language, and the tables of a network with the names of its parts.
use Rattle.std.specs.Prelude.{ℕ, List, [], map, slice_index_or}
use Rattle.kpn_net.specs.declared.tables.NetworkSize.{NetworkSize}
use Rattle.kpn_net.specs.declared.tables.NetworkSize.TheVariants.{Usual, Large}
use Rattle.kpn_net.specs.Tables.{Tables}
use Rattle.kpn_text_tokens.specs.declared.tokens.Language.{Language}
use Rattle.kpn_text_tokens.specs.declared.tokens.Language.TheVariants as language
use Rattle.kpn_text_names.specs.Named.{Named}
use Rattle.kpn_text_names.specs.Names.{name_at}
use Rattle.kpn_text_names.specs.NetworkNames.{names_in}
use Rattle.kpn_text_names.specs.declared.network_names.NetworkNames.{NetworkNames}
use Rattle.kpn_text_names.specs.declared.network_names.ProcessNames.{ProcessNames}
use Rattle.kpn_text.specs.Named.{description_named}
use Rattle.kpn_text.specs.Text.{description_text}

-- the language of its text, the tables of a network, and the names of its processes, instances and channels, each by
-- number
pub record Document : Type 0 where
  pub language : Language
  pub tables : Tables
  pub names : NetworkNames

-- the size that the network of a description in this language may have
abbrev pub network_size : Language → NetworkSize
network_size language.One = Usual
network_size language.Two = Large

abbrev pub document_with : Language → Tables → NetworkNames → Document
document_with l tables names = record { language = l; tables = tables; names = names }

-- the name of variable v of process i; the parameters come first
abbrev pub variable_name : List ProcessNames → (i v : ℕ) → List ℕ
variable_name processes i v = name_at (slice_index_or (map (λ p. p.vars) processes) i []) v

-- the document that a description of this language names
abbrev pub document_named : Language → Named → Document
document_named l n = document_with l n.tables (names_in n)

-- the text in which a document is printed
abbrev pub canonical_text : Document → List ℕ
canonical_text d = description_text d.language (description_named d.names d.tables)
