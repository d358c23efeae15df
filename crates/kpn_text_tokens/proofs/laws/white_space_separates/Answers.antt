-- By the rules that read what comes before.
use Rattle.kpn_text_tokens.proofs.WithoutPlaces.{white_separates}
use Rattle.kpn_text_tokens.proofs.Parting.{white_space_separates}
use Rattle.kpn_text_tokens.proofs.laws.white_space_separates.Goals as goal

pub returns-clause-lexemes : goal.returns-clause-lexemes
returns-clause-lexemes c = white_space_separates

pub returns-clause-tokens : goal.returns-clause-tokens
returns-clause-tokens c = white_separates
