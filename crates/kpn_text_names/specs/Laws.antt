-- The laws of the blocks and of the names.
use Rattle.std.specs.Prelude.{◌≡◌, Ok}
use Rattle.kpn_lang.specs.Tree.{Tree, tree_of}
use Rattle.kpn_text_tokens.specs.declared.tokens.Language.{Language}
use Rattle.kpn_text_tokens.specs.declared.tokens.Language.TheVariants as language
use Rattle.kpn_text_grammar.specs.Syntax.{Description}
use Rattle.kpn_text_names.specs.Blocks.{body_blocks}
use Rattle.kpn_text_names.specs.Named.{Named, resolve}
use Rattle.kpn_text_names.specs.NetworkNames.{names_in}
use Rattle.kpn_text_names.specs.Once.{EachStandsOnce}

-- The blocks of a tree, put together by their numbers, are that tree.
abbrev pub BlocksAreTheTree : Type 0
BlocksAreTheTree = (t : Tree) → tree_of (body_blocks t) 0 ≡ t

-- No name is twice in a table of the names of a description.
abbrev pub NamesStandOnce : Type 0
NamesStandOnce = (l : Language) (d : Description) (n : Named) → resolve l d ≡ Ok n → EachStandsOnce (names_in n)

-- What language 1 resolves, language 2 resolves the same: each name keeps its number.
abbrev pub SecondResolvesFirst : Type 0
SecondResolvesFirst = (d : Description) (n : Named) → resolve language.One d ≡ Ok n → resolve language.Two d ≡ Ok n
