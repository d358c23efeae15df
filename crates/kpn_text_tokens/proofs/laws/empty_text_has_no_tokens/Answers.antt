-- A scan of no bytes finds nothing.
use Rattle.kpn_text_tokens.proofs.WithoutPlaces.{empty_text}
use Rattle.kpn_text_tokens.proofs.laws.empty_text_has_no_tokens.Goals as goal

pub returns : goal.returns
returns c = empty_text
